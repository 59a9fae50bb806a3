-- Each part of a tree is less deep than the tree.
use Rattle.std.specs.Prelude.{ℕ, ◌+◌, ◌≤◌, List, [], ◌∷◌}
use Rattle.std.proofs.Common.{arith}
use denote.Param.Weighed.{most}
use Rattle.c_trees.specs.Declarators.{DeclaratorTree, Taking, depth, with_parameters}
use Rattle.c_trees.specs.Initializers.{InitialTree, Item, with_items}
use Rattle.c_trees.specs.Initializers as initial

pub grows_parameters : (d : DeclaratorTree) (ps : List DeclaratorTree) → depth d ≤ depth (with_parameters d ps)
grows_parameters d [] = omega arith
grows_parameters d (p ∷ ps) = omega (arith, grows_parameters (Taking d p) ps)

pub most_parameters : (d : DeclaratorTree) (ps : List DeclaratorTree) → most (λ k. depth k + 1) ps ≤ depth (with_parameters d ps)
most_parameters d [] = omega arith
most_parameters d (p ∷ ps) = omega (arith, grows_parameters (Taking d p) ps, most_parameters (Taking d p) ps)

pub grows_items : (i : InitialTree) (js : List InitialTree) → initial.depth i ≤ initial.depth (with_items i js)
grows_items i [] = omega arith
grows_items i (j ∷ js) = omega (arith, grows_items (Item i j) js)

pub most_items : (i : InitialTree) (js : List InitialTree) → most (λ k. initial.depth k + 1) js ≤ initial.depth (with_items i js)
most_items i [] = omega arith
most_items i (j ∷ js) = omega (arith, grows_items (Item i j) js, most_items (Item i j) js)
