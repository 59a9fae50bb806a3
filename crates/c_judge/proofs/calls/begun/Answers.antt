use Rattle.std.proofs.Common.{subst, sym, refl, ◌∙◌}
use Rattle.c_judge.specs.Calls.{Calls}
use Rattle.c_judge.specs.Judges.{scope_of}
use Rattle.c_judge.proofs.Called.{begun_gathers, begun_breaks, begun_fails}
use Rattle.c_judge.proofs.calls.begun.Goals as goal

pub returns-then-is_counted : goal.returns-then-is_counted
returns-then-is_counted c = λ f h. let v = scope_of c.args.v.now in begun_gathers v c.args.at f c.args.count c.in-Ok.callee (record { callee = c.in-Ok.callee; arguments = c.new.result }) (sym c.is_counted.ensures ∙ c.if-is_counted.true) refl c.new.ensures.items (subst (Calls v f) c.in-Ok.is h)

pub returns-else-is_counted : goal.returns-else-is_counted
returns-else-is_counted c = λ f h. let v = scope_of c.args.v.now in begun_breaks v c.args.at f c.args.count c.in-Ok.callee (sym c.is_counted.ensures ∙ c.if-is_counted.false) (subst (Calls v f) c.in-Ok.is h)

pub returns-in-Err : goal.returns-in-Err
returns-in-Err c = λ f h. let v = scope_of c.args.v.now in begun_fails v c.args.at f c.args.count c.in-Err.f (subst (Calls v f) c.in-Err.is h)
