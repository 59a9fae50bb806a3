use Rattle.std.proofs.Common.{◌≡◌, ◌-◌}
use Rattle.nub_wire.specs.Nub.{running}
use Rattle.nub_core.proofs.Stretches.{at}
use Rattle.nub_core.proofs.nub.Nub.stretch.Given as goal

abbrev pub invariant-loop-turn : goal.invariant-loop-turn
invariant-loop-turn g l = record {
  same : running g.T.Target.behaviour l.most l.initial.self ≡ running g.T.Target.behaviour (l.most - l.turn) (at l.self.nub (l.left - l.turn) l.self.machine);
  nub_is : l.self.nub ≡ l.initial.self.nub;
}
