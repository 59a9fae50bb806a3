use Rattle.std.proofs.Common.{sym, subst, ◌∙◌}
use Rattle.ps_step.specs.Effects.{Does}
use Rattle.ps_places.specs.Places.{placing_local}
use Rattle.ps_ops.proofs.Placing.{local_unasked, local_halts, local_leaves}
use Rattle.ps_ops.proofs.Calls.{led_left}
use Rattle.ps_ops.proofs.places.local_in.Goals as goal

pub returns-in-Err-clause-acts : goal.returns-in-Err-clause-acts
returns-in-Err-clause-acts g c =
    let v = c.args.view.now in
    let core = c.args.core.now in
    let m = c.args.memory.now in
    let seen = g.W.AbsMem.seen in
    λ out. local_unasked v m.below.below.order m.below.cell out (seen m.below.below.below) core c.in-Err.error (sym c.top_word.ensures.word ∙ c.in-Err.is)

pub returns-in-Err-frame_of-clause-acts : goal.returns-in-Err-frame_of-clause-acts
returns-in-Err-frame_of-clause-acts g c =
    let v = c.args.view.now in
    let core = c.args.core.now in
    let m = c.args.memory.now in
    let seen = g.W.AbsMem.seen in
    λ out. local_halts v m.below.below.order m.below.cell out (seen m.below.below.below) core (seen c.frame_of.new.m) _ (sym c.top_word.ensures.word ∙ c.in-Ok.is) c.in-Err-frame_of.halt c.in-Err-frame_of.ensures.looks

pub returns-in-Ok-frame_of-clause-acts : goal.returns-in-Ok-frame_of-clause-acts
returns-in-Ok-frame_of-clause-acts g c =
    let v = c.args.view.now in
    let core = c.args.core.now in
    let m = c.args.memory.now in
    let seen = g.W.AbsMem.seen in
    λ out. rw c.left.ensures
    (local_leaves v m.below.below.order m.below.cell out (seen m.below.below.below) core (seen c.frame_of.new.m) _ (sym c.top_word.ensures.word ∙ c.in-Ok.is) c.in-Ok-frame_of.frame c.local.result c.local.new.core c.in-Ok-frame_of.ensures.looks (subst (λ base. Does c.local.result core c.local.new.core (placing_local base core)) c.base_of.ensures c.local.ensures.does))

pub returns-in-Ok-frame_of-clause-calls : goal.returns-in-Ok-frame_of-clause-calls
returns-in-Ok-frame_of-clause-calls g c =
    rw c.left.ensures (led_left g.W.AbsMem.leads c.args.memory.now.below.below.below c.frame_of.new.m c.local.result c.in-Ok-frame_of.ensures.calls)
