-- Trees of statements as lists of items, each behind its parts: how a proof tells two trees apart.
use Rattle.std.specs.Prelude.{◌≡◌, ℕ, List, [], ◌∷◌, Option, refl}
use Rattle.std.proofs.Common.{◌∙◌, ap}
use Rattle.c_lex.specs.declared.token.Place.{Place}
use Rattle.c_trees.specs.Expressions.{Tree}
use Rattle.c_trees.specs.declared.declaration.Local.{Local}
use Rattle.c_trees.specs.declared.statement.Head.{Head}
use Rattle.c_trees.specs.Statements.{StatementTree, Empty, Evaluate, Begun, Declares, Also, Closed, If, IfElse, Headed, Do, Break, Continue, Return}

pub data Item : Type 0 where
  empty : Place → Item
  evaluate : Tree → Item
  begun : Place → Item
  declares : Local → Item
  also : Item
  closed : Place → Item
  if_only : Place → Tree → Item
  if_else : Place → Tree → Item
  headed : Head → Item
  do_while : Place → Tree → Item
  break_out : Place → Item
  continue_loop : Place → Item
  return_from : Place → Option Tree → Item

abbrev pub items_onto : StatementTree → List Item → List Item
items_onto (Empty at) rest = empty at ∷ rest
items_onto (Evaluate e) rest = evaluate e ∷ rest
items_onto (Begun at) rest = begun at ∷ rest
items_onto (Declares a l) rest = items_onto a (declares l ∷ rest)
items_onto (Also a b) rest = items_onto a (items_onto b (also ∷ rest))
items_onto (Closed a at) rest = items_onto a (closed at ∷ rest)
items_onto (If at e a) rest = items_onto a (if_only at e ∷ rest)
items_onto (IfElse at e a b) rest = items_onto a (items_onto b (if_else at e ∷ rest))
items_onto (Headed h a) rest = items_onto a (headed h ∷ rest)
items_onto (Do at a e) rest = items_onto a (do_while at e ∷ rest)
items_onto (Break at) rest = break_out at ∷ rest
items_onto (Continue at) rest = continue_loop at ∷ rest
items_onto (Return at e) rest = return_from at e ∷ rest

abbrev pub one : (StatementTree → StatementTree) → List StatementTree → List StatementTree
one f (a ∷ s) = f a ∷ s
one f [] = []

abbrev pub two : (StatementTree → StatementTree → StatementTree) → List StatementTree → List StatementTree
two f (b ∷ a ∷ s) = f a b ∷ s
two f _ = []

abbrev pub put : Item → List StatementTree → List StatementTree
put (empty at) s = Empty at ∷ s
put (evaluate e) s = Evaluate e ∷ s
put (begun at) s = Begun at ∷ s
put (declares l) s = one (λ a. Declares a l) s
put also s = two Also s
put (closed at) s = one (λ a. Closed a at) s
put (if_only at e) s = one (If at e) s
put (if_else at e) s = two (IfElse at e) s
put (headed h) s = one (Headed h) s
put (do_while at e) s = one (λ a. Do at a e) s
put (break_out at) s = Break at ∷ s
put (continue_loop at) s = Continue at ∷ s
put (return_from at e) s = Return at e ∷ s

abbrev pub put_all : List Item → List StatementTree → List StatementTree
put_all [] s = s
put_all (i ∷ is) s = put_all is (put i s)

pub put_items : (t : StatementTree) (rest : List Item) (s : List StatementTree) → put_all (items_onto t rest) s ≡ put_all rest (t ∷ s)
put_items (Empty at) rest s = refl
put_items (Evaluate e) rest s = refl
put_items (Begun at) rest s = refl
put_items (Declares a l) rest s = put_items a _ s
put_items (Also a b) rest s = put_items a _ s ∙ put_items b _ (a ∷ s)
put_items (Closed a at) rest s = put_items a _ s
put_items (If at e a) rest s = put_items a _ s
put_items (IfElse at e a b) rest s = put_items a _ s ∙ put_items b _ (a ∷ s)
put_items (Headed h a) rest s = put_items a _ s
put_items (Do at a e) rest s = put_items a _ s
put_items (Break at) rest s = refl
put_items (Continue at) rest s = refl
put_items (Return at e) rest s = refl

abbrev pub topmost : List StatementTree → StatementTree
topmost [] = Empty (record { at = 0; line = 0; column = 0 })
topmost (t ∷ s) = t

abbrev pub items_of : StatementTree → List Item
items_of t = items_onto t []

abbrev pub tree_from : List Item → StatementTree
tree_from is = topmost (put_all is [])

pub tree_from-items_of : (t : StatementTree) → tree_from (items_of t) ≡ t
tree_from-items_of t = ap topmost (put_items t [] [])
