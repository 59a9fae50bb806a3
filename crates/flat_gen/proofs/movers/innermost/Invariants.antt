use Rattle.std.proofs.Common.{◌≡◌, ◌-◌}
use Rattle.flat_gen.specs.Movers.{innermost}
use Rattle.flat_gen.proofs.movers.innermost.Given as goal

-- what is found within the levels that are left
abbrev pub invariant-loop : goal.invariant-loop
invariant-loop l = innermost l.slots (64 - l.counter) l.found ≡ innermost l.slots 64 l.fn.member
