use Rattle.std.proofs.Common.{◌≡◌, ◌++◌, drop}
use Rattle.flat_gen.specs.Movers.{descending}
use Rattle.flat_gen.proofs.movers.descending.Given as goal

abbrev pub invariant-loop-member : goal.invariant-loop-member
invariant-loop-member l = l.steps.items ++ descending l.slots l.at (drop l.member-index l.members) ≡ descending l.slots l.size l.members
