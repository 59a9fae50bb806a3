-- Trees as lists of items, each behind its parts: how a proof tells two trees apart.
use Rattle.std.specs.Prelude.{◌≡◌, ℕ, List, [], ◌∷◌, refl}
use Rattle.std.proofs.Common.{◌∙◌, ap}
use Rattle.c_lex.specs.declared.token.Place.{Place}
use Rattle.c_symbol.specs.declared.symbol.LeafKind.{LeafKind}
use Rattle.c_symbol.specs.declared.symbol.LeafKind.TheVariants.{Name}
use Rattle.c_symbol.specs.declared.symbol.Step.{Step}
use Rattle.c_symbol.specs.declared.symbol.Access.{Access}
use Rattle.c_symbol.specs.declared.symbol.PrefixOp.{PrefixOp}
use Rattle.c_symbol.specs.declared.symbol.BinaryOp.{BinaryOp}
use Rattle.c_trees.specs.declared.expression.Spec.{Spec}
use Rattle.c_trees.specs.Expressions.{Tree, Leaf, Paren, Index, Call, With, Member, After, Prefix, SizeofType, Cast, Binary, Choice, Stars, Around, Bounded, Unbounded}

pub data Item : Type 0 where
  leaf : Place → LeafKind → List ℕ → Item
  paren : Place → Item
  index : Place → Item
  call : Place → Item
  with : Item
  member : Place → Access → Place → List ℕ → Item
  after : Place → Step → Item
  prefix : Place → PrefixOp → Item
  sizeof_type : Place → Spec → Item
  cast : Place → Spec → Item
  binary : Place → BinaryOp → Item
  choice : Place → Item
  stars : ℕ → Item
  around : ℕ → Item
  bounded : Item
  unbounded : Item

abbrev pub items_onto : Tree → List Item → List Item
items_onto (Leaf at kind text) rest = leaf at kind text ∷ rest
items_onto (Paren at a) rest = items_onto a (paren at ∷ rest)
items_onto (Index at a b) rest = items_onto a (items_onto b (index at ∷ rest))
items_onto (Call at a) rest = items_onto a (call at ∷ rest)
items_onto (With a b) rest = items_onto a (items_onto b (with ∷ rest))
items_onto (Member at a access name text) rest = items_onto a (member at access name text ∷ rest)
items_onto (After at a step) rest = items_onto a (after at step ∷ rest)
items_onto (Prefix at op a) rest = items_onto a (prefix at op ∷ rest)
items_onto (SizeofType at spec d) rest = items_onto d (sizeof_type at spec ∷ rest)
items_onto (Cast at spec d a) rest = items_onto d (items_onto a (cast at spec ∷ rest))
items_onto (Binary at op a b) rest = items_onto a (items_onto b (binary at op ∷ rest))
items_onto (Choice at a b c) rest = items_onto a (items_onto b (items_onto c (choice at ∷ rest)))
items_onto (Stars n) rest = stars n ∷ rest
items_onto (Around n a) rest = items_onto a (around n ∷ rest)
items_onto (Bounded a b) rest = items_onto a (items_onto b (bounded ∷ rest))
items_onto (Unbounded a) rest = items_onto a (unbounded ∷ rest)

abbrev pub one : (Tree → Tree) → List Tree → List Tree
one f (a ∷ s) = f a ∷ s
one f [] = []

abbrev pub two : (Tree → Tree → Tree) → List Tree → List Tree
two f (b ∷ a ∷ s) = f a b ∷ s
two f _ = []

abbrev pub three : (Tree → Tree → Tree → Tree) → List Tree → List Tree
three f (c ∷ b ∷ a ∷ s) = f a b c ∷ s
three f _ = []

abbrev pub put : Item → List Tree → List Tree
put (leaf at kind text) s = Leaf at kind text ∷ s
put (paren at) s = one (Paren at) s
put (index at) s = two (Index at) s
put (call at) s = one (Call at) s
put with s = two With s
put (member at access name text) s = one (λ a. Member at a access name text) s
put (after at step) s = one (λ a. After at a step) s
put (prefix at op) s = one (Prefix at op) s
put (sizeof_type at spec) s = one (SizeofType at spec) s
put (cast at spec) s = two (Cast at spec) s
put (binary at op) s = two (Binary at op) s
put (choice at) s = three (Choice at) s
put (stars n) s = Stars n ∷ s
put (around n) s = one (Around n) s
put bounded s = two Bounded s
put unbounded s = one Unbounded s

abbrev pub put_all : List Item → List Tree → List Tree
put_all [] s = s
put_all (i ∷ is) s = put_all is (put i s)

pub put_items : (t : Tree) (rest : List Item) (s : List Tree) → put_all (items_onto t rest) s ≡ put_all rest (t ∷ s)
put_items (Leaf at kind text) rest s = refl
put_items (Paren at a) rest s = put_items a _ s
put_items (Index at a b) rest s = put_items a _ s ∙ put_items b _ (a ∷ s)
put_items (Call at a) rest s = put_items a _ s
put_items (With a b) rest s = put_items a _ s ∙ put_items b _ (a ∷ s)
put_items (Member at a access name text) rest s = put_items a _ s
put_items (After at a step) rest s = put_items a _ s
put_items (Prefix at op a) rest s = put_items a _ s
put_items (SizeofType at spec d) rest s = put_items d _ s
put_items (Cast at spec d a) rest s = put_items d _ s ∙ put_items a _ (d ∷ s)
put_items (Binary at op a b) rest s = put_items a _ s ∙ put_items b _ (a ∷ s)
put_items (Choice at a b c) rest s = put_items a _ s ∙ (put_items b _ (a ∷ s) ∙ put_items c _ (b ∷ a ∷ s))
put_items (Stars n) rest s = refl
put_items (Around n a) rest s = put_items a _ s
put_items (Bounded a b) rest s = put_items a _ s ∙ put_items b _ (a ∷ s)
put_items (Unbounded a) rest s = put_items a _ s

abbrev pub topmost : List Tree → Tree
topmost [] = Leaf (record { at = 0; line = 0; column = 0 }) Name []
topmost (t ∷ s) = t

abbrev pub items_of : Tree → List Item
items_of t = items_onto t []

abbrev pub tree_from : List Item → Tree
tree_from is = topmost (put_all is [])

pub tree_from-items_of : (t : Tree) → tree_from (items_of t) ≡ t
tree_from-items_of t = ap topmost (put_items t [] [])
