use Rattle.std.proofs.Common.{◌≡◌, is_some, true, length}
use Rattle.nub_wire.specs.Delivery.{side_of}
use Rattle.near_link.specs.Near.{near_conduct}
use Rattle.near_link.proofs.Worlds.{WaitsFrom}
use Rattle.near_link.proofs.near.NearLink.wait.Given as goal

abbrev pub invariant-loop-side : goal.invariant-loop-side
invariant-loop-side l = record {
  from : WaitsFrom near_conduct l.side l.initial.self l.self;
  there : is_some (side_of l.side l.self) ≡ true;
}

abbrev pub decreases-loop-side : goal.decreases-loop-side
decreases-loop-side l = length l.self.schedule
