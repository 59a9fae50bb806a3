use Rattle.std.proofs.Common.{◌≡◌, ◌∙◌, ap, subst, ℕ, Some, List, length, ◌<◌, arith}
use Rattle.nub_wire.specs.Delivery.{World, LinkSide, on_side, with_sent}
use Rattle.nub_wire.specs.Spelling.{frame_of}
use Rattle.nub_wire.specs.Calls.{Sends, took_on, gave_on}
use Rattle.wire_talk.proofs.Exchanging.{frame_long, talks_of, talks_none, tells_of}
use Rattle.wire_talk.proofs.talk.ask.Goals as goal

pub send_all-requires-clause-some : goal.send_all-requires-clause-some
send_all-requires-clause-some g c =
    let e : c.as_slice.result.now ≡ frame_of c.args.message.now = c.as_slice.ensures.value ∙ c.encode-frame.ensures in
    let long : 0 < length (frame_of c.args.message.now) = frame_long c.args.message.now in
    omega (arith, long, ap length e)

pub returns-in-Err-clause-calls : goal.returns-in-Err-clause-calls
returns-in-Err-clause-calls g c =
    talks_none (took_on g.L.Link.took c.args.side) (gave_on g.L.Link.gave c.args.side) c.args.message.now c.as_slice.result.now c.args.link.now c.send_all.new.link c.in-Err.fault
    (c.as_slice.ensures.value ∙ c.encode-frame.ensures) c.in-Err.ensures.calls

pub returns-in-Ok-clause-calls : goal.returns-in-Ok-clause-calls
returns-in-Ok-clause-calls g c =
    let e : c.as_slice.result.now ≡ frame_of c.args.message.now = c.as_slice.ensures.value ∙ c.encode-frame.ensures in
    talks_of (took_on g.L.Link.took c.args.side) (gave_on g.L.Link.gave c.args.side) c.args.message.now c.args.link.now c.send_all.new.link c.hear_next.new.link c.hear_next.result c.requires
    (subst (λ (l : List ℕ). Sends (took_on g.L.Link.took c.args.side) c.args.link.now l c.send_all.new.link) e c.in-Ok.ensures.calls) c.hear_next.ensures.calls

pub returns-in-Ok-clause-told : goal.returns-in-Ok-clause-told
returns-in-Ok-clause-told g c = λ (w : World) is.
    let e : c.as_slice.result.now ≡ frame_of c.args.message.now = c.as_slice.ensures.value ∙ c.encode-frame.ensures in
    tells_of g.L.Link.conduct c.args.side c.args.message.now w c.hear_next.result
    (g.L.Link.world c.send_all.new.link) (g.L.Link.world c.hear_next.new.link)
    (λ (s : LinkSide) there none. c.in-Ok.ensures.told w s is there none ∙ ap (λ (l : List ℕ). Some (on_side c.args.side (with_sent l) w)) e)
    c.hear_next.ensures.fits
    c.hear_next.ensures.told
