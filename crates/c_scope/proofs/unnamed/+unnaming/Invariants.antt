use Rattle.std.proofs.Common.{◌≡◌, ◌≤◌, ◌*◌, ◌+◌, ℕ, take, length}
use Rattle.c_trees.specs.Expressions.{depth, behind_stars, with_bounds}
use Rattle.c_typing.specs.Plain.{plain}
use Rattle.c_scope.specs.Declarators.{unnamed_within}
use Rattle.c_scope.specs.Here.{environment_of}
use Rattle.c_scope.proofs.Unbounded.{inner_depth}
use Rattle.c_scope.proofs.unnamed.+unnaming.Given as goal

abbrev pub decreases-unnamed : goal.decreases-unnamed
decreases-unnamed l = 2 * depth l.d.now + 1

abbrev pub decreases-within : goal.decreases-within
decreases-within l = 2 * inner_depth (λ b. b.value) l.inner.now

abbrev pub invariant-within-bounding : goal.invariant-within-bounding
invariant-within-bounding l = record {
  inside : l.i ≤ length l.bounds;
  typed : (n : ℕ) → unnamed_within (environment_of l.here) l.at (with_bounds (behind_stars (λ b. b.value) n l.inner) (take l.i l.bounds)) (plain l.t)
      ≡ unnamed_within (environment_of l.here) l.at (with_bounds (behind_stars (λ b. b.value) n l.inner) l.bounds) (plain l.fn.t);
}

abbrev pub decreases-within-bounding : goal.decreases-within-bounding
decreases-within-bounding l = l.i
