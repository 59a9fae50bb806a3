use Rattle.std.proofs.Common.{length, ◌-◌, ◌≡◌, Some, false}
use Rattle.nub_wire.specs.Delivery.{World}
use Rattle.nub_wire.specs.Feeding.{IsPartial}
use Rattle.nub_wire.specs.Calls.{took_on, gave_on}
use Rattle.wire_talk.specs.Talk.{HeardOn}
use Rattle.wire_talk.proofs.Reading.{ToldOn}
use Rattle.wire_talk.proofs.talk.read_frame.Given as goal

abbrev pub invariant-pieces : goal.invariant-pieces
invariant-pieces g l = record {
  calls : HeardOn (took_on g.L.Link.took l.side) (gave_on g.L.Link.gave l.side) l.initial.link l.frame.items l.link;
  told : (w : World) → g.L.Link.world l.initial.link ≡ Some w → ToldOn g.L.Link.conduct l.side w l.frame.items (g.L.Link.world l.link);
  faults : g.L.Link.faults l.link ≡ g.L.Link.faults l.initial.link;
  held : l.feeder.held ≡ l.frame.items;
  good : l.feeder.is_bad ≡ false;
  partial : IsPartial l.frame.items;
}

abbrev pub decreases-pieces : goal.decreases-pieces
decreases-pieces g l = 1027 - length l.frame.items
