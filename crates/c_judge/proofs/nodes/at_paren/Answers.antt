use Rattle.std.proofs.Common.{subst}
use Rattle.c_judge.specs.Judges.{Judges}
use Rattle.c_judge.proofs.Made.{there, paren_judges}
use Rattle.c_judge.proofs.nodes.at_paren.Goals as goal

pub returns-in-Ok : goal.returns-in-Ok
returns-in-Ok c = λ v a h. let found = there v a c.args.x c.in-Ok.x h c.in-Ok.is in paren_judges v c.args.at a c.in-Ok.x c.paren.result found.0 found.1 c.paren.ensures

pub returns-in-Err : goal.returns-in-Err
returns-in-Err c = λ v a h. (subst (Judges v a) c.in-Err.is h)
