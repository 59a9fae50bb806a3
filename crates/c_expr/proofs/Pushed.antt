-- One more argument, and one more bound.
use Rattle.std.proofs.Common.{◌≡◌, List, [], ◌∷◌, ◌++◌, Option, refl}
use Rattle.c_trees.specs.Expressions.{Tree, With, with_arguments, bound_behind, with_bounds}

pub one_more_argument : (t : Tree) (args : List Tree) (a : Tree) → with_arguments t (args ++ a ∷ []) ≡ With (with_arguments t args) a
one_more_argument t [] a = refl
one_more_argument t (x ∷ xs) a = one_more_argument (With t x) xs a

pub one_more_bound : (d : Tree) (bs : List (Option Tree)) (b : Option Tree) → with_bounds d (bs ++ b ∷ []) ≡ bound_behind (with_bounds d bs) b
one_more_bound d [] b = refl
one_more_bound d (x ∷ xs) b = one_more_bound (bound_behind d x) xs b
