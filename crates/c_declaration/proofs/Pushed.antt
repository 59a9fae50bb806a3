-- One more parameter, initializer or bound.
use Rattle.std.proofs.Common.{◌≡◌, List, [], ◌∷◌, ◌++◌, Option, refl}
use Rattle.c_trees.specs.Expressions as expr
use Rattle.c_trees.specs.Expressions.{Tree, bound_behind, with_bounds}
use Rattle.c_trees.specs.Declarators.{DeclaratorTree, Taking, begins, with_parameters}
use Rattle.c_trees.specs.Initializers.{InitialTree, Item, with_items}

pub one_more_parameter : (d : DeclaratorTree) (ps : List DeclaratorTree) (p : DeclaratorTree) → with_parameters d (ps ++ p ∷ []) ≡ Taking (with_parameters d ps) p
one_more_parameter d [] p = refl
one_more_parameter d (x ∷ xs) p = one_more_parameter (Taking d x) xs p

pub one_more_item : (i : InitialTree) (js : List InitialTree) (j : InitialTree) → with_items i (js ++ j ∷ []) ≡ Item (with_items i js) j
one_more_item i [] j = refl
one_more_item i (x ∷ xs) j = one_more_item (Item i x) xs j

pub one_more_bound : (d : Tree) (bs : List (Option Tree)) (b : Option Tree) → with_bounds d (bs ++ b ∷ []) ≡ bound_behind (with_bounds d bs) b
one_more_bound d [] b = refl
one_more_bound d (x ∷ xs) b = one_more_bound (bound_behind d x) xs b

-- a function begins where its declarator does
pub begins_with : (d : DeclaratorTree) (ps : List DeclaratorTree) → begins (with_parameters d ps) ≡ begins d
begins_with d [] = refl
begins_with d (p ∷ ps) = begins_with (Taking d p) ps
