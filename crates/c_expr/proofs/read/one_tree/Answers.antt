use Rattle.c_expr.proofs.Exact.{one}
use Rattle.c_expr.proofs.read.one_tree.Goals as goal

pub returns : goal.returns
returns c = one
