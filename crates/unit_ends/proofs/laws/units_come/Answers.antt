use Rattle.unit_ends.proofs.Ending.{comes}
use Rattle.unit_ends.proofs.laws.units_come.Goals as goal

pub returns : goal.returns
returns c = λ p at s run short room few is. comes p at s run short room few is
