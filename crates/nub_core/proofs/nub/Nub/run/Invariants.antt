use Rattle.std.proofs.Common.{◌≡◌}
use Rattle.nub_wire.specs.Nub.{running}
use Rattle.nub_core.proofs.nub.Nub.run.Given as goal

abbrev pub invariant-loop-rest : goal.invariant-loop-rest
invariant-loop-rest g l = running g.T.Target.behaviour l.n l.initial.self ≡ running g.T.Target.behaviour l.rest l.self

abbrev pub decreases-loop-rest : goal.decreases-loop-rest
decreases-loop-rest g l = l.rest
