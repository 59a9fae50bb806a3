use Rattle.std.proofs.Common.{◌≡◌, ◌++◌, drop}
use Rattle.flat_gen.specs.Movers.{ascending}
use Rattle.flat_gen.proofs.movers.ascending.Given as goal

-- with the steps of the members that are left, it is all of them
abbrev pub invariant-loop-member : goal.invariant-loop-member
invariant-loop-member l = l.steps.items ++ ascending l.slots l.size l.at (drop l.member-index l.members) ≡ ascending l.slots l.size 0 l.members
