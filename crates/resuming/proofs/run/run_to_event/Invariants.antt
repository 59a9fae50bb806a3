use Rattle.std.proofs.Common.{◌≡◌, ◌-◌, [], None, Option}
use Rattle.machine_state.specs.State.{Behaviour}
use Rattle.nub_wire.specs.declared.message.Msg.TheVariants as msg
use Rattle.nub_wire.specs.Nub.{Host}
use Rattle.nub_wire.specs.Calls.{Owes, took_on, gave_on}
use Rattle.wire_talk.specs.Talk.{owing}
use Rattle.resuming.specs.Standing.{Stands}
use Rattle.resuming.proofs.Coming.{SoFar}
use Rattle.resuming.proofs.run.run_to_event.Given as goal

abbrev pub invariant-messages : goal.invariant-messages
invariant-messages g l = record {
  turns : l.resumption.turns ≡ l.turns;
  calls : Owes (took_on g.L.Link.took l.side) (gave_on g.L.Link.gave l.side) (msg.Resume l.turns) l.fn.link (owing (msg.Resume l.turns) l.resumption.printed []) l.link;
  told : (b : Behaviour) (h : Host) (beside : Option Host) (x : Stands b g.L.Link.conduct l.side (g.L.Link.world l.fn.link) h beside) → h.nub.ended ≡ None
      → SoFar b l.side l.turns x.now x.world l.resumption.printed (g.L.Link.world l.link) (g.S.Sink.taken l.fn.out) (g.S.Sink.taken l.out);
  faults : g.L.Link.faults l.link ≡ g.L.Link.faults l.fn.link;
  out_faults : g.S.Sink.faults l.out ≡ g.S.Sink.faults l.fn.out;
  led : g.S.Sink.leads l.fn.out l.out;
}

abbrev pub decreases-messages : goal.decreases-messages
decreases-messages g l = l.resumption.turns - l.resumption.printed
