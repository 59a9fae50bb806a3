-- Measures of recursions over trees: more than the depth of each part.
use Rattle.std.proofs.Common.{◌≡◌, ◌≤◌, ◌<◌, ◌+◌, ℕ, zero, suc, length, slice_index_or, List, [], ◌∷◌, ◌++◌, ◌∙◌, sym, ap, Option, Some, None, arith}
use Rattle.c_lex.specs.declared.token.Place.{Place}
use Rattle.c_trees.specs.Expressions.{Tree, Call, With, Bounded, Unbounded, depth, with_arguments, with_bounds}

abbrev pub bound_depth : Option Tree → ℕ
bound_depth None = 1
bound_depth (Some e) = depth e + 1

abbrev pub bound_depths : List (Option Tree) → ℕ
bound_depths [] = 0
bound_depths (b ∷ bs) = bound_depth b + bound_depths bs

pub depth_bounds : (d : Tree) (bs : List (Option Tree)) → depth (with_bounds d bs) ≡ depth d + bound_depths bs
depth_bounds d [] = omega arith
depth_bounds d (None ∷ bs) = omega (arith, depth_bounds (Unbounded d) bs)
depth_bounds d (Some e ∷ bs) = omega (arith, depth_bounds (Bounded d e) bs)

pub bound_depths_last : (bs : List (Option Tree)) (b : Option Tree) → bound_depths (bs ++ b ∷ []) ≡ bound_depths bs + bound_depth b
bound_depths_last [] b = omega arith
bound_depths_last (c ∷ bs) b = omega (arith, bound_depths_last bs b)

abbrev pub depths : List Tree → ℕ
depths [] = 0
depths (e ∷ es) = depth e + 1 + depths es

pub depth_arguments : (c : Tree) (es : List Tree) → depth (with_arguments c es) ≡ depth c + depths es
depth_arguments c [] = omega arith
depth_arguments c (e ∷ es) = omega (arith, depth_arguments (With c e) es)

-- a part is less deep than the list that it is on
pub depth_at : (es : List Tree) (i : ℕ) (d : Tree) → i < length es → depth (slice_index_or es i d) < depths es
depth_at [] i d h = absurd (omega arith)
depth_at (e ∷ es) zero d h = omega arith
depth_at (e ∷ es) (suc i) d h = omega (arith, depth_at es i d (omega arith))

pub bound_depth_at : (bs : List (Option Tree)) (i : ℕ) (d : Option Tree) → i < length bs → bound_depth (slice_index_or bs i d) ≤ bound_depths bs
bound_depth_at [] i d h = absurd (omega arith)
bound_depth_at (b ∷ bs) zero d h = omega arith
bound_depth_at (b ∷ bs) (suc i) d h = omega (arith, bound_depth_at bs i d (omega arith))

-- a declarator is as deep as its bounds
pub depth_view : (x d : Tree) (bs cs : List (Option Tree)) → with_bounds x bs ≡ d → cs ≡ bs → bound_depths cs ≤ depth d
depth_view x d bs cs w k =
    let a : depth d ≡ depth x + bound_depths bs = ap depth (sym w) ∙ depth_bounds x bs in
    let b : bound_depths cs ≡ bound_depths bs = ap bound_depths k in
    omega (arith, a, b)

-- a call is deeper than what is called and its arguments
pub depth_call : (at : Place) (f g e : Tree) (es fs : List Tree) → with_arguments (Call at f) es ≡ e → g ≡ f → fs ≡ es → depth e ≡ depth g + 1 + depths fs
depth_call at f g e es fs w k l =
    let a : depth e ≡ depth f + 1 + depths es = ap depth (sym w) ∙ depth_arguments (Call at f) es in
    let b : depth g ≡ depth f = ap depth k in
    let c : depths fs ≡ depths es = ap depths l in
    omega (arith, a, b, c)

pub depth_item : (es : List Tree) (i : ℕ) (e : Tree) → i < length es → e ≡ slice_index_or es i e → depth e < depths es
depth_item es i e h w = let a : depth e ≡ depth (slice_index_or es i e) = ap depth w in omega (arith, a, depth_at es i e h)

pub bound_item : (bs : List (Option Tree)) (i : ℕ) (b : Option Tree) → i < length bs → b ≡ slice_index_or bs i b → bound_depth b ≤ bound_depths bs
bound_item bs i b h w = let a : bound_depth b ≡ bound_depth (slice_index_or bs i b) = ap bound_depth w in omega (arith, a, bound_depth_at bs i b h)
