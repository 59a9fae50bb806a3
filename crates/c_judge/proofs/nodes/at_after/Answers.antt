use Rattle.std.proofs.Common.{subst}
use Rattle.c_judge.specs.Judges.{scope_of}
use Rattle.c_judge.specs.Judges.{Judges}
use Rattle.c_judge.proofs.Made.{there, after_judges, after_fails}
use Rattle.c_judge.proofs.nodes.at_after.Goals as goal

pub returns-in-Ok : goal.returns-in-Ok
returns-in-Ok c = λ a h. let found = there (scope_of c.args.v.now) a c.args.x c.in-Ok.x h c.in-Ok.is in after_judges (scope_of c.args.v.now) c.args.at a c.args.step c.in-Ok.x c.after.result found.0 found.1 (rw c.defs.ensures at c.after.ensures)

pub returns-in-Err : goal.returns-in-Err
returns-in-Err c = λ a h. after_fails (scope_of c.args.v.now) c.args.at a c.args.step c.in-Err.f (subst (Judges (scope_of c.args.v.now) a) c.in-Err.is h)
