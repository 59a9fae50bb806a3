use Rattle.std.proofs.Common.{◌≡◌, ◌∙◌, ap, length, ◌<◌, arith}
use Rattle.nub_wire.specs.declared.message.Msg.TheVariants as msg
use Rattle.nub_wire.specs.Spelling.{frame_of}
use Rattle.nub_wire.specs.Calls.{took_on, gave_on}
use Rattle.wire_talk.proofs.Exchanging.{frame_long}
use Rattle.wire_talk.proofs.Resumptions.{begins_none}
use Rattle.wire_talk.proofs.resumption.Resumption.begin.Goals as goal

pub send_all-requires-clause-some : goal.send_all-requires-clause-some
send_all-requires-clause-some g c =
    let e : c.as_slice.result.now ≡ frame_of (msg.Resume c.args.turns) = c.as_slice.ensures.value ∙ c.encode-frame.ensures in
    let long : 0 < length (frame_of (msg.Resume c.args.turns)) = frame_long (msg.Resume c.args.turns) in
    omega (arith, long, ap length e)

pub returns-in-Err-clause-calls : goal.returns-in-Err-clause-calls
returns-in-Err-clause-calls g c =
    begins_none (took_on g.L.Link.took c.args.side) (gave_on g.L.Link.gave c.args.side) c.args.turns c.as_slice.result.now c.args.link.now c.send_all.new.link c.in-Err.fault
    (c.as_slice.ensures.value ∙ c.encode-frame.ensures) c.in-Err.ensures.calls
