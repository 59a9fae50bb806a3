use Rattle.std.proofs.Common.{◌+◌, ◌-◌, length}
use Rattle.nub_wire.specs.Delivery.{LinkSide, Runs}
use Rattle.near_link.specs.Near.{near_conduct}
use Rattle.near_link.proofs.side.NearSide.run.Given as goal

abbrev pub invariant-loop-self : goal.invariant-loop-self
invariant-loop-self l = (t : LinkSide) → Runs near_conduct l.left l.self t → Runs near_conduct l.most l.initial.self t

abbrev pub decreases-loop-self : goal.decreases-loop-self
decreases-loop-self l = 4096 - (length l.self.ready + length l.self.answers)
