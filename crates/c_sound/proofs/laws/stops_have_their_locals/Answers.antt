use Rattle.c_sound.proofs.Stops.{stops_live}
use Rattle.c_sound.proofs.laws.stops_have_their_locals.Goals as goal

pub returns : goal.returns
returns g = λ p input h m q c s i a z t k. stops_live p z.0 input h z.2.0 m q c s i a z.1 z.2.1 z.3 t k
