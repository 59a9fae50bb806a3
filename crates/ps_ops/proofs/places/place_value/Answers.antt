use Rattle.std.proofs.Common.{refl, None, sym, subst}
use Rattle.ps_ops.proofs.Placing.{value_put}
use Rattle.ps_ops.proofs.Calls.{led_over}
use Rattle.ps_ops.proofs.places.place_value.Goals as goal

pub returns-clause-acts : goal.returns-clause-acts
returns-clause-acts g c =
    let v = c.args.view.now in
    let core = c.args.core.now in
    let m = c.args.memory.now in
    let seen = g.W.AbsMem.seen in
    let m₁ = c.set_frame.new.self in
    let m' = c.immediate.new.memory in
    λ out. rw c.left_over.ensures
    (value_put seen v m.below.below.order m.below.cell out m.below.below.below m.below.below.below m₁.below.below.below m'.below.below.below core c.immediate.new.core None m₁.below.below.places m'.below.below.places m₁.below.below.order
    m'.below.below.order m₁.below.cell m'.below.cell c.immediate.result c.set_frame.ensures.below c.set_frame.ensures.places c.set_frame.ensures.order c.set_frame.ensures.cell refl refl c.immediate.ensures.does)

pub returns-clause-calls : goal.returns-clause-calls
returns-clause-calls g c =
    let m = c.args.memory.now.below.below.below in
    rw c.left_over.ensures
    (led_over g.W.AbsMem.leads g.met.W.AbsMem.goes_on m c.set_frame.new.self c.immediate.new.memory (λ j. j.below.below.below) c.immediate.result (subst (λ x. g.W.AbsMem.leads m None x) (sym c.set_frame.ensures.below) (g.met.W.AbsMem.stays m)) c.immediate.ensures.calls)
