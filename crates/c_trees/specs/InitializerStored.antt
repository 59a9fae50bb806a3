-- Trees of initializers as lists of items, each behind its parts: how a proof tells two trees apart.
use Rattle.std.specs.Prelude.{◌≡◌, ℕ, List, [], ◌∷◌, refl}
use Rattle.std.proofs.Common.{◌∙◌, ap}
use Rattle.c_lex.specs.declared.token.Place.{Place}
use Rattle.c_trees.specs.Expressions.{Tree}
use Rattle.c_trees.specs.Initializers.{InitialTree, Value, Braces}
use Rattle.c_trees.specs.Initializers as initial

pub data Item : Type 0 where
  value : Tree → Item
  braces : Place → Item
  item : Item

abbrev pub items_onto : InitialTree → List Item → List Item
items_onto (Value e) rest = value e ∷ rest
items_onto (Braces at) rest = braces at ∷ rest
items_onto (initial.Item i j) rest = items_onto i (items_onto j (item ∷ rest))

abbrev pub two : List InitialTree → List InitialTree
two (b ∷ a ∷ s) = initial.Item a b ∷ s
two _ = []

abbrev pub put : Item → List InitialTree → List InitialTree
put (value e) s = Value e ∷ s
put (braces at) s = Braces at ∷ s
put item s = two s

abbrev pub put_all : List Item → List InitialTree → List InitialTree
put_all [] s = s
put_all (i ∷ is) s = put_all is (put i s)

pub put_items : (t : InitialTree) (rest : List Item) (s : List InitialTree) → put_all (items_onto t rest) s ≡ put_all rest (t ∷ s)
put_items (Value e) rest s = refl
put_items (Braces at) rest s = refl
put_items (initial.Item i j) rest s = put_items i _ s ∙ put_items j _ (i ∷ s)

abbrev pub topmost : List InitialTree → InitialTree
topmost [] = Braces (record { at = 0; line = 0; column = 0 })
topmost (t ∷ s) = t

abbrev pub items_of : InitialTree → List Item
items_of t = items_onto t []

abbrev pub tree_from : List Item → InitialTree
tree_from is = topmost (put_all is [])

pub tree_from-items_of : (t : InitialTree) → tree_from (items_of t) ≡ t
tree_from-items_of t = ap topmost (put_items t [] [])
