use Rattle.std.proofs.Common.{sym, ◌∙◌}
use Rattle.ps_ops.proofs.Pointing.{comparison_unasked, comparison_halts, comparison_leaves}
use Rattle.ps_ops.proofs.Calls.{led_left}
use Rattle.ps_ops.proofs.objects.compare.Goals as goal

pub returns-in-Err-clause-acts : goal.returns-in-Err-clause-acts
returns-in-Err-clause-acts g c =
    let v = c.args.view.now in
    let core = c.args.core.now in
    let m = c.args.memory.now in
    let seen = g.W.AbsMem.seen in
    λ out. comparison_unasked v m.below.below.order m.below.cell out (seen m.below.below.below) core c.in-Err.error (sym c.comparison_operands.ensures.asked ∙ c.in-Err.is)

pub returns-in-Err-found_two-clause-acts : goal.returns-in-Err-found_two-clause-acts
returns-in-Err-found_two-clause-acts g c =
    let v = c.args.view.now in
    let core = c.args.core.now in
    let m = c.args.memory.now in
    let seen = g.W.AbsMem.seen in
    λ out. comparison_halts v m.below.below.order m.below.cell out (seen m.below.below.below) core (seen c.found_two.new.m) c.in-Ok.p c.in-Ok.q (sym c.comparison_operands.ensures.asked ∙ c.in-Ok.is) c.in-Err-found_two.halt c.in-Err-found_two.ensures.looks

pub returns-in-Ok-found_two-clause-acts : goal.returns-in-Ok-found_two-clause-acts
returns-in-Ok-found_two-clause-acts g c =
    let v = c.args.view.now in
    let core = c.args.core.now in
    let m = c.args.memory.now in
    let seen = g.W.AbsMem.seen in
    λ out. rw c.left.ensures
    (comparison_leaves v m.below.below.order m.below.cell out (seen m.below.below.below) core (seen c.found_two.new.m) c.in-Ok.p c.in-Ok.q (sym c.comparison_operands.ensures.asked ∙ c.in-Ok.is) c.in-Ok-found_two.object c.in-Ok-found_two.other c.leave_order.result c.leave_order.new.core c.in-Ok-found_two.ensures.looks c.leave_order.ensures.does)

pub returns-in-Ok-found_two-clause-calls : goal.returns-in-Ok-found_two-clause-calls
returns-in-Ok-found_two-clause-calls g c =
    rw c.left.ensures (led_left g.W.AbsMem.leads c.args.memory.now.below.below.below c.found_two.new.m c.leave_order.result c.in-Ok-found_two.ensures.calls)
