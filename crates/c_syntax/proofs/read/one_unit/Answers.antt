use Rattle.c_syntax.proofs.Exact.{one}
use Rattle.c_syntax.proofs.Laws.{ending}
use Rattle.c_syntax.proofs.read.one_unit.Goals as goal

pub returns : goal.returns
returns c = one ending
