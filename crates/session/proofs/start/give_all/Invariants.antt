use Rattle.std.proofs.Common.{◌≡◌, ℕ, ◌+◌, ◌-◌, ◌≤◌, length, take, Option}
use Rattle.machine_state.specs.State.{Behaviour}
use Rattle.nub_wire.specs.Nub.{Host}
use Rattle.resuming.specs.Standing.{Stands}
use Rattle.session.specs.Starting.{given_to}
use Rattle.session.proofs.start.give_all.Given as goal

abbrev pub invariant-loop-done : goal.invariant-loop-done
invariant-loop-done g l = record {
  bound : l.done ≤ length l.input;
  faults : g.L.Link.faults l.link ≡ g.L.Link.faults l.initial.link;
  stands : (b : Behaviour) (h : Host) (beside : Option Host) → Stands b g.L.Link.conduct l.side (g.L.Link.world l.initial.link) h beside → h.machine.given + length l.input ≤ 16777216
      → Stands b g.L.Link.conduct l.side (g.L.Link.world l.link) (given_to (take l.done l.input) h) beside;
}

abbrev pub decreases-loop-done : goal.decreases-loop-done
decreases-loop-done g l = length l.input - l.done
