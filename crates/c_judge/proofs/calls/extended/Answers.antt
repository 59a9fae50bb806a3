use Rattle.std.proofs.Common.{sym, ◌∙◌}
use Rattle.c_judge.proofs.Called.{extended_gathers, extended_fails}
use Rattle.c_judge.proofs.calls.extended.Goals as goal

pub returns-in-Err : goal.returns-in-Err
returns-in-Err c = λ v n t e g h. extended_fails v n t e c.args.calling c.args.x c.in-Err.f g h (sym c.pair.ensures ∙ c.in-Err.is)

pub returns-in-Ok : goal.returns-in-Ok
returns-in-Ok c = λ v n t e g h. extended_gathers v n t e c.args.calling c.args.x c.in-Ok.calling c.in-Ok.x c.with_argument.result g h (sym c.pair.ensures ∙ c.in-Ok.is) c.with_argument.ensures
