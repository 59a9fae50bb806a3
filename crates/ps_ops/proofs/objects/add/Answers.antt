use Rattle.std.proofs.Common.{rules, sym, subst, ◌∙◌, FitsSigned, to_z, of_z, w32}
use Rattle.std.proofs.lemmas.Int.{to_z-of_z}
use Rattle.ps_step.specs.Effects.{Does}
use Rattle.ps_pointers.specs.Pointers.{leaving_sum}
use Rattle.ps_ops.proofs.Pointing.{sum_unasked, sum_halts, sum_leaves}
use Rattle.ps_ops.proofs.Calls.{led_left}
use Rattle.ps_ops.proofs.objects.add.Goals as goal

pub returns-in-Err-clause-acts : goal.returns-in-Err-clause-acts
returns-in-Err-clause-acts g c =
    let v = c.args.view.now in
    let core = c.args.core.now in
    let m = c.args.memory.now in
    let seen = g.W.AbsMem.seen in
    λ out. sum_unasked v m.below.below.order m.below.cell out (seen m.below.below.below) core c.in-Err.error (sym c.sum_operands.ensures.asked ∙ c.in-Err.is)

pub returns-in-Err-found-clause-acts : goal.returns-in-Err-found-clause-acts
returns-in-Err-found-clause-acts g c =
    let v = c.args.view.now in
    let core = c.args.core.now in
    let m = c.args.memory.now in
    let seen = g.W.AbsMem.seen in
    λ out. sum_halts v m.below.below.order m.below.cell out (seen m.below.below.below) core (seen c.found.new.m) c.in-Ok.pointer c.in-Ok.count c.in-Ok.size (sym c.sum_operands.ensures.asked ∙ c.in-Ok.is) c.in-Err-found.halt c.in-Err-found.ensures.looks

pub returns-in-Ok-found-clause-acts : goal.returns-in-Ok-found-clause-acts
returns-in-Ok-found-clause-acts g c =
    let v = c.args.view.now in
    let core = c.args.core.now in
    let m = c.args.memory.now in
    let seen = g.W.AbsMem.seen in
    let o = c.in-Ok-found.object in
    let r = c.leave_sum.result in
    let core' = c.leave_sum.new.core in
    let n = c.in-Ok.count in
    let z = c.in-Ok.size in
    let n_fits : FitsSigned w32 n = search rules in
    let z_fits : FitsSigned w32 z = search rules in
    let does : Does r core core' (leaving_sum o n z core) =
    subst (λ i. Does r core core' (leaving_sum o n i core)) (to_z-of_z w32 z z_fits) (subst (λ i. Does r core core' (leaving_sum o i (to_z w32 (of_z w32 z)) core)) (to_z-of_z w32 n n_fits) c.leave_sum.ensures.does) in
    λ out. rw c.left.ensures
    (sum_leaves v m.below.below.order m.below.cell out (seen m.below.below.below) core (seen c.found.new.m) c.in-Ok.pointer c.in-Ok.count c.in-Ok.size (sym c.sum_operands.ensures.asked ∙ c.in-Ok.is) c.in-Ok-found.object c.leave_sum.result c.leave_sum.new.core c.in-Ok-found.ensures.looks does)

pub returns-in-Ok-found-clause-calls : goal.returns-in-Ok-found-clause-calls
returns-in-Ok-found-clause-calls g c =
    rw c.left.ensures (led_left g.W.AbsMem.leads c.args.memory.now.below.below.below c.found.new.m c.leave_sum.result c.in-Ok-found.ensures.calls)
