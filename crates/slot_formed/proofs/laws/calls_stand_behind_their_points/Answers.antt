use Rattle.slot_formed.proofs.Passing.{program_behind}
use Rattle.slot_formed.proofs.laws.calls_stand_behind_their_points.Goals as goal

pub returns : goal.returns
returns c = λ p code is. program_behind p code is
