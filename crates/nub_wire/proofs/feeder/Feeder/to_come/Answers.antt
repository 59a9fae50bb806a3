use Rattle.std.proofs.Common.{◌≤◌, ◌+◌, ◌-◌, subst, List, ℕ, arith}
use Rattle.nub_wire.specs.Feeding.{EndsNoSooner}
use Rattle.nub_wire.proofs.ToCome.{no_sooner}
use Rattle.nub_wire.proofs.feeder.Feeder.to_come.Goals as goal

pub returns-clause-sooner : goal.returns-clause-sooner
returns-clause-sooner c =
    let least : EndsNoSooner c.self.inside.held.items c.left_at_least.result = subst (λ (l : List ℕ). EndsNoSooner l c.left_at_least.result) c.as_slice.ensures.value c.left_at_least.ensures in
    let small : c.clamp.result ≤ 1 + (c.left_at_least.result - 1) = omega (arith, c.clamp.ensures) in
    rw (← c.self.view_is) (no_sooner c.self.inside.held.items c.self.inside.missing c.left_at_least.result c.clamp.result c.self.inside.is_bad c.self.invariant least small)
