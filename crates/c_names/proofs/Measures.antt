-- Measures of recursions over trees of expressions: more than the depth of each part.
use Rattle.std.proofs.Common.{◌≡◌, ◌≤◌, ◌<◌, ◌+◌, ℕ, zero, suc, length, slice_index_or, List, [], ◌∷◌, Option, Some, None, arith}
use Rattle.c_lex.specs.declared.token.Place.{Place}
use Rattle.c_trees.specs.Expressions.{Tree, Call, With, Bounded, Unbounded, with_arguments, with_bounds}
use Rattle.c_trees.specs.Expressions as tree

abbrev pub argument_depths : List Tree → ℕ
argument_depths [] = 0
argument_depths (e ∷ es) = tree.depth e + 1 + argument_depths es

depth_arguments : (c : Tree) (es : List Tree) → tree.depth (with_arguments c es) ≡ tree.depth c + argument_depths es
depth_arguments c [] = omega arith
depth_arguments c (e ∷ es) = omega (arith, depth_arguments (With c e) es)

pub depth_call : (at : Place) (f : Tree) (es : List Tree) → tree.depth (with_arguments (Call at f) es) ≡ tree.depth f + 1 + argument_depths es
depth_call at f es = depth_arguments (Call at f) es

pub argument_at : (es : List Tree) (i : ℕ) (d : Tree) → i < length es → tree.depth (slice_index_or es i d) < argument_depths es
argument_at [] i d h = absurd (omega arith)
argument_at (e ∷ es) zero d h = omega arith
argument_at (e ∷ es) (suc i) d h = omega (arith, argument_at es i d (omega arith))

abbrev pub bound_depth : Option Tree → ℕ
bound_depth None = 1
bound_depth (Some e) = tree.depth e + 1

abbrev pub bound_depths : List (Option Tree) → ℕ
bound_depths [] = 0
bound_depths (b ∷ bs) = bound_depth b + bound_depths bs

pub depth_bounds : (d : Tree) (bs : List (Option Tree)) → tree.depth (with_bounds d bs) ≡ tree.depth d + bound_depths bs
depth_bounds d [] = omega arith
depth_bounds d (None ∷ bs) = omega (arith, depth_bounds (Unbounded d) bs)
depth_bounds d (Some e ∷ bs) = omega (arith, depth_bounds (Bounded d e) bs)

pub bound_at : (bs : List (Option Tree)) (i : ℕ) (d : Option Tree) → i < length bs → bound_depth (slice_index_or bs i d) ≤ bound_depths bs
bound_at [] i d h = absurd (omega arith)
bound_at (b ∷ bs) zero d h = omega arith
bound_at (b ∷ bs) (suc i) d h = omega (arith, bound_at bs i d (omega arith))
