-- Each part of a tree is less deep than the tree.
use Rattle.std.specs.Prelude.{ℕ, ◌+◌, ◌≤◌, max, List, [], ◌∷◌, Option, Some, None}
use Rattle.std.proofs.Common.{arith}
use denote.Param.Weighed.{most}
use Rattle.c_trees.specs.declared.expression.Abstract.TheInside.{Inside}
use Rattle.c_trees.specs.declared.expression.Abstract.TheDeep.{deep-Abstract}
use Rattle.c_trees.specs.Expressions.{Tree, With, Stars, Around, Bounded, Unbounded, depth, with_arguments, behind_stars, with_bounds}

pub grows_arguments : (t : Tree) (args : List Tree) → depth t ≤ depth (with_arguments t args)
grows_arguments t [] = omega arith
grows_arguments t (x ∷ xs) = omega (arith, grows_arguments (With t x) xs)

pub most_arguments : (t : Tree) (args : List Tree) → most (λ k. depth k + 1) args ≤ depth (with_arguments t args)
most_arguments t [] = omega arith
most_arguments t (x ∷ xs) = omega (arith, grows_arguments (With t x) xs, most_arguments (With t x) xs)

pub grows_bounds : (d : Tree) (bs : List (Option Tree)) → depth d ≤ depth (with_bounds d bs)
grows_bounds d [] = omega arith
grows_bounds d (None ∷ bs) = omega (arith, grows_bounds (Unbounded d) bs)
grows_bounds d (Some b ∷ bs) = omega (arith, grows_bounds (Bounded d b) bs)

pub most_bounds : (μ : Option Tree → ℕ) → μ None ≤ 0 → ((k : Tree) → μ (Some k) ≤ depth k + 1) → (d : Tree) (bs : List (Option Tree)) → most μ bs ≤ depth (with_bounds d bs)
most_bounds μ n s d [] = omega arith
most_bounds μ n s d (None ∷ bs) = omega (arith, n, most_bounds μ n s (Unbounded d) bs)
most_bounds μ n s d (Some b ∷ bs) = omega (arith, s b, grows_bounds (Bounded d b) bs, most_bounds μ n s (Bounded d b) bs)

most_only : (m d : ℕ) → m ≤ d → max 0 (max m 0) ≤ d
most_only m d h = omega arith

most_both : (k m d : ℕ) → k ≤ d → m ≤ d → max k (max m 0) ≤ d
most_both k m d g h = omega arith

falls_by : (n : ℕ) (i : _) (b : _) → deep-Abstract (record { stars = n; inner = i; bounds = b }) ≤ depth (with_bounds (behind_stars (λ x. x.value) n i) b.items)
falls_by n None b = most_only _ _ (most_bounds _ (omega arith) (λ k. omega arith) (Stars n) b.items)
falls_by n (Some x) b = most_both _ _ _ (omega (arith, grows_bounds (Around n x.value) b.items)) (most_bounds _ (omega arith) (λ k. omega arith) (Around n x.value) b.items)

pub abstract_falls : (a : Inside) → deep-Abstract a ≤ depth (with_bounds (behind_stars (λ x. x.value) a.stars a.inner) a.bounds.items)
abstract_falls a = falls_by a.stars a.inner a.bounds
