use Rattle.std.proofs.Common.{◌≡◌}
use Rattle.near_link.specs.Near.{near_conduct}
use Rattle.near_link.proofs.Waits.{Comes}
use Rattle.near_link.proofs.side.NearSide.deliver.Given as goal

abbrev pub invariant-loop-delivered : goal.invariant-loop-delivered
invariant-loop-delivered l = record {
  comes : Comes near_conduct l.most l._delivered l.initial.self l.self;
  ready_is : l.self.ready ≡ l.initial.self.ready;
}
