use Rattle.serving_laws.proofs.Evaluated.{values_evaluated}
use Rattle.serving_laws.proofs.laws.expressions_are_evaluated.Goals as goal

pub returns : goal.returns
returns c = λ sc s cell own names e o items a out raw spaces are memory is room none has spells. values_evaluated sc s cell own names e o items a out raw spaces are memory is room none has spells
