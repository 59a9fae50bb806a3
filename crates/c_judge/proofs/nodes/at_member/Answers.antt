use Rattle.std.proofs.Common.{subst}
use Rattle.c_judge.specs.Judges.{scope_of}
use Rattle.c_judge.specs.Judges.{Judges}
use Rattle.c_judge.proofs.Made.{there, member_judges, member_fails}
use Rattle.c_judge.proofs.nodes.at_member.Goals as goal

pub returns-in-Ok : goal.returns-in-Ok
returns-in-Ok c = λ a q h. let found = there (scope_of c.args.v.now) a c.args.x c.in-Ok.x h c.in-Ok.is in member_judges (scope_of c.args.v.now) c.args.at a c.args.access q c.args.name.now c.in-Ok.x c.member.result found.0 found.1 c.member.ensures

pub returns-in-Err : goal.returns-in-Err
returns-in-Err c = λ a q h. member_fails (scope_of c.args.v.now) c.args.at a c.args.access q c.args.name.now c.in-Err.f (subst (Judges (scope_of c.args.v.now) a) c.in-Err.is h)
