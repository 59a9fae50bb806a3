use Rattle.std.proofs.Common.{◌≡◌, None}
use Rattle.nub_wire.specs.Nub.{turn_of}
use Rattle.nub_core.proofs.nub.Nub.turn_counted.Given as goal

abbrev pub invariant-loop-done : goal.invariant-loop-done
invariant-loop-done g l = turn_of g.T.Target.behaviour l.done l.fn.self ≡ (None, l.self)
