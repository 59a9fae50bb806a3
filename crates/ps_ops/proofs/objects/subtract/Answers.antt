use Rattle.std.proofs.Common.{rules, sym, subst, ◌∙◌, FitsSigned, to_z, of_z, w32}
use Rattle.std.proofs.lemmas.Int.{to_z-of_z}
use Rattle.ps_step.specs.Effects.{Does}
use Rattle.ps_pointers.specs.Pointers.{leaving_difference}
use Rattle.ps_ops.proofs.Pointing.{difference_unasked, difference_halts, difference_leaves}
use Rattle.ps_ops.proofs.Calls.{led_left}
use Rattle.ps_ops.proofs.objects.subtract.Goals as goal

pub returns-in-Err-clause-acts : goal.returns-in-Err-clause-acts
returns-in-Err-clause-acts g c =
    let v = c.args.view.now in
    let core = c.args.core.now in
    let m = c.args.memory.now in
    let seen = g.W.AbsMem.seen in
    λ out. difference_unasked v m.below.below.order m.below.cell out (seen m.below.below.below) core c.in-Err.error (sym c.difference_operands.ensures.asked ∙ c.in-Err.is)

pub returns-in-Err-found_two-clause-acts : goal.returns-in-Err-found_two-clause-acts
returns-in-Err-found_two-clause-acts g c =
    let v = c.args.view.now in
    let core = c.args.core.now in
    let m = c.args.memory.now in
    let seen = g.W.AbsMem.seen in
    λ out. difference_halts v m.below.below.order m.below.cell out (seen m.below.below.below) core (seen c.found_two.new.m) c.in-Ok.p c.in-Ok.q c.in-Ok.size (sym c.difference_operands.ensures.asked ∙ c.in-Ok.is) c.in-Err-found_two.halt c.in-Err-found_two.ensures.looks

pub returns-in-Ok-found_two-clause-acts : goal.returns-in-Ok-found_two-clause-acts
returns-in-Ok-found_two-clause-acts g c =
    let v = c.args.view.now in
    let core = c.args.core.now in
    let m = c.args.memory.now in
    let seen = g.W.AbsMem.seen in
    let o = c.in-Ok-found_two.object in
    let other = c.in-Ok-found_two.other in
    let r = c.leave_difference.result in
    let core' = c.leave_difference.new.core in
    let z = c.in-Ok.size in
    let z_fits : FitsSigned w32 z = search rules in
    let does : Does r core core' (leaving_difference o other z core) = subst (λ i. Does r core core' (leaving_difference o other i core)) (to_z-of_z w32 z z_fits) c.leave_difference.ensures.does in
    λ out. rw c.left.ensures
    (difference_leaves v m.below.below.order m.below.cell out (seen m.below.below.below) core (seen c.found_two.new.m) c.in-Ok.p c.in-Ok.q c.in-Ok.size (sym c.difference_operands.ensures.asked ∙ c.in-Ok.is) c.in-Ok-found_two.object c.in-Ok-found_two.other c.leave_difference.result c.leave_difference.new.core c.in-Ok-found_two.ensures.looks does)

pub returns-in-Ok-found_two-clause-calls : goal.returns-in-Ok-found_two-clause-calls
returns-in-Ok-found_two-clause-calls g c =
    rw c.left.ensures (led_left g.W.AbsMem.leads c.args.memory.now.below.below.below c.found_two.new.m c.leave_difference.result c.in-Ok-found_two.ensures.calls)
