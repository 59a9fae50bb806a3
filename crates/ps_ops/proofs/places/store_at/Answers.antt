use Rattle.std.proofs.Common.{sym, ◌∙◌, subst, None}
use Rattle.ps_ops.proofs.Placing.{places_set, store_unasked, store_halts, store_acts}
use Rattle.ps_ops.proofs.Calls.{led_over}
use Rattle.ps_ops.proofs.places.store_at.Goals as goal

pub returns-in-Err-clause-acts : goal.returns-in-Err-clause-acts
returns-in-Err-clause-acts g c =
    let v = c.args.view.now in
    let core = c.args.core.now in
    let m = c.args.memory.now in
    let seen = g.W.AbsMem.seen in
    λ out. store_unasked v m.below.below.order m.below.cell out (seen m.below.below.below) core c.in-Err.error (sym c.store_of.ensures.asked ∙ c.in-Err.is)

pub returns-in-Err-frame_for-clause-acts : goal.returns-in-Err-frame_for-clause-acts
returns-in-Err-frame_for-clause-acts g c =
    let v = c.args.view.now in
    let core = c.args.core.now in
    let m = c.args.memory.now in
    let seen = g.W.AbsMem.seen in
    λ out. store_halts v m.below.below.order m.below.cell out (seen m.below.below.below) core (seen c.frame_for.new.m) c.in-Err-frame_for.halt c.in-Ok.place _ _ (sym c.store_of.ensures.asked ∙ c.in-Ok.is) c.in-Err-frame_for.ensures.looks

pub returns-in-Ok-frame_for-clause-acts : goal.returns-in-Ok-frame_for-clause-acts
returns-in-Ok-frame_for-clause-acts g c =
    let v = c.args.view.now in
    let core = c.args.core.now in
    let m = c.args.memory.now in
    let seen = g.W.AbsMem.seen in
    let m₁ = c.set_frame.new.self in
    let m' = c.store.new.memory in
    let f = c.in-Ok-frame_for.frame in
    λ out. rw c.left_over.ensures
    (store_acts seen v m.below.below.order m.below.cell out m.below.below.below c.frame_for.new.m m₁.below.below.below m'.below.below.below core c.store.new.core f m₁.below.below.places m'.below.below.places m₁.below.below.order
    m'.below.below.order m₁.below.cell m'.below.cell c.store.result c.set_frame.ensures.below (places_set c.as_ref.result f m₁.below.below.places c.set_frame.ensures.places c.as_ref.ensures.value) c.set_frame.ensures.order
    c.set_frame.ensures.cell c.in-Ok.place c.in-Ok-frame_for.ensures.looks _ _ (sym c.store_of.ensures.asked ∙ c.in-Ok.is) c.store.ensures.does)

pub returns-in-Ok-frame_for-clause-calls : goal.returns-in-Ok-frame_for-clause-calls
returns-in-Ok-frame_for-clause-calls g c =
    let m = c.args.memory.now.below.below.below in
    rw c.left_over.ensures
    (led_over g.W.AbsMem.leads g.met.W.AbsMem.goes_on m c.set_frame.new.self c.store.new.memory (λ j. j.below.below.below) c.store.result (subst (λ x. g.W.AbsMem.leads m None x) (sym c.set_frame.ensures.below) c.in-Ok-frame_for.ensures.calls) c.store.ensures.calls)
