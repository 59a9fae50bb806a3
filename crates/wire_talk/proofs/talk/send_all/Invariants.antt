use Rattle.std.proofs.Common.{length, ◌-◌, ◌≡◌, ◌≤◌, [], Some, take}
use Rattle.nub_wire.specs.Delivery.{World, LinkSide, side_of}
use Rattle.nub_wire.specs.Calls.{Sends, took_on}
use Rattle.wire_talk.proofs.Sending.{SentSoFar}
use Rattle.wire_talk.proofs.talk.send_all.Given as goal

abbrev pub invariant-loop-done : goal.invariant-loop-done
invariant-loop-done g l = record {
  bound : l.done ≤ length l.frame;
  calls : Sends (took_on g.L.Link.took l.side) l.initial.link (take l.done l.frame) l.link;
  faults : g.L.Link.faults l.link ≡ g.L.Link.faults l.initial.link;
  told : (w : World) (s : LinkSide) → g.L.Link.world l.initial.link ≡ Some w → side_of l.side w ≡ Some s → s.sent ≡ []
      → SentSoFar l.side l.frame w l.done (g.L.Link.world l.link);
}

abbrev pub decreases-loop-done : goal.decreases-loop-done
decreases-loop-done g l = length l.frame - l.done
