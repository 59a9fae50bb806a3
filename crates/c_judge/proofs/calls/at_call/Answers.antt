use Rattle.std.proofs.Common.{subst, length}
use Rattle.c_trees.specs.Expressions.{Call, with_arguments}
use Rattle.c_judge.specs.Calls.{Gathers}
use Rattle.c_judge.specs.Judges.{scope_of}
use Rattle.c_judge.proofs.Called.{call_judges, call_fails}
use Rattle.c_judge.proofs.calls.at_call.Goals as goal

pub returns-in-Ok : goal.returns-in-Ok
returns-in-Ok c = λ f es h. call_judges (scope_of c.args.v.now) c.args.at f es c.in-Ok.calling c.called.result (subst (Gathers (scope_of c.args.v.now) (length es) (with_arguments (Call c.args.at f) es)) c.in-Ok.is h) c.called.ensures

pub returns-in-Err : goal.returns-in-Err
returns-in-Err c = λ f es h. call_fails (scope_of c.args.v.now) c.args.at f es c.in-Err.f (subst (Gathers (scope_of c.args.v.now) (length es) (with_arguments (Call c.args.at f) es)) c.in-Err.is h)
