use Rattle.serving_laws.proofs.Reading.{places_read}
use Rattle.serving_laws.proofs.laws.named_places_are_read.Goals as goal

pub returns : goal.returns
returns c = λ sc s cell own names e o items a out raw spaces are is few room none has spells. places_read sc s cell own names o items out raw spaces are few room none e a is has spells
