use Rattle.c_expr.proofs.Embedded.{ends_there, ends_behind}
use Rattle.c_expr.proofs.inside.read_inside.Goals as goal

pub returns-clause-there : goal.returns-clause-there
returns-clause-there c = ends_there

pub returns-clause-behind : goal.returns-clause-behind
returns-clause-behind c = ends_behind
