-- Trees of declarators as lists of items, each behind its parts: how a proof tells two trees apart.
use Rattle.std.specs.Prelude.{◌≡◌, ℕ, Bool, List, [], ◌∷◌, Option, refl}
use Rattle.std.proofs.Common.{◌∙◌, ap}
use Rattle.c_lex.specs.declared.token.Place.{Place}
use Rattle.c_trees.specs.declared.expression.Spec.{Spec}
use Rattle.c_trees.specs.Expressions.{Tree}
use Rattle.c_trees.specs.Declarators.{DeclaratorTree, Name, Parens, Pointers, Array, Function, Taking, Named, Unnamed}

pub data Item : Type 0 where
  name : Place → List ℕ → Item
  parens : Place → Item
  pointers : Place → ℕ → Item
  array : Place → Option Tree → Item
  function : Place → Item
  taking : Item
  named : Place → Bool → Spec → Item
  unnamed : Place → Spec → Tree → Item

abbrev pub items_onto : DeclaratorTree → List Item → List Item
items_onto (Name at text) rest = name at text ∷ rest
items_onto (Parens at d) rest = items_onto d (parens at ∷ rest)
items_onto (Pointers at n d) rest = items_onto d (pointers at n ∷ rest)
items_onto (Array at d e) rest = items_onto d (array at e ∷ rest)
items_onto (Function at d) rest = items_onto d (function at ∷ rest)
items_onto (Taking d p) rest = items_onto d (items_onto p (taking ∷ rest))
items_onto (Named at r spec d) rest = items_onto d (named at r spec ∷ rest)
items_onto (Unnamed at spec a) rest = unnamed at spec a ∷ rest

abbrev pub one : (DeclaratorTree → DeclaratorTree) → List DeclaratorTree → List DeclaratorTree
one f (a ∷ s) = f a ∷ s
one f [] = []

abbrev pub two : (DeclaratorTree → DeclaratorTree → DeclaratorTree) → List DeclaratorTree → List DeclaratorTree
two f (b ∷ a ∷ s) = f a b ∷ s
two f _ = []

abbrev pub put : Item → List DeclaratorTree → List DeclaratorTree
put (name at text) s = Name at text ∷ s
put (parens at) s = one (Parens at) s
put (pointers at n) s = one (Pointers at n) s
put (array at e) s = one (λ d. Array at d e) s
put (function at) s = one (Function at) s
put taking s = two Taking s
put (named at r spec) s = one (Named at r spec) s
put (unnamed at spec a) s = Unnamed at spec a ∷ s

abbrev pub put_all : List Item → List DeclaratorTree → List DeclaratorTree
put_all [] s = s
put_all (i ∷ is) s = put_all is (put i s)

pub put_items : (t : DeclaratorTree) (rest : List Item) (s : List DeclaratorTree) → put_all (items_onto t rest) s ≡ put_all rest (t ∷ s)
put_items (Name at text) rest s = refl
put_items (Parens at d) rest s = put_items d _ s
put_items (Pointers at n d) rest s = put_items d _ s
put_items (Array at d e) rest s = put_items d _ s
put_items (Function at d) rest s = put_items d _ s
put_items (Taking d p) rest s = put_items d _ s ∙ put_items p _ (d ∷ s)
put_items (Named at r spec d) rest s = put_items d _ s
put_items (Unnamed at spec a) rest s = refl

abbrev pub topmost : List DeclaratorTree → DeclaratorTree
topmost [] = Name (record { at = 0; line = 0; column = 0 }) []
topmost (t ∷ s) = t

abbrev pub items_of : DeclaratorTree → List Item
items_of t = items_onto t []

abbrev pub tree_from : List Item → DeclaratorTree
tree_from is = topmost (put_all is [])

pub tree_from-items_of : (t : DeclaratorTree) → tree_from (items_of t) ≡ t
tree_from-items_of t = ap topmost (put_items t [] [])
