use Rattle.serving_laws.proofs.Values.{values_left}
use Rattle.serving_laws.proofs.laws.values_are_left.Goals as goal

pub returns : goal.returns
returns c = λ sc t names e s ds o items a d are plain room none has spells. values_left sc t names e s ds o items a d are plain room none has spells
