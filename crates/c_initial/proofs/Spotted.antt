-- Places in static objects, by the parts of the expressions that tell them.
use Rattle.std.proofs.Common.{arith, ◌≡◌, ℕ, zero, suc, true, false, if◌then◌else◌, List, [], ◌∷◌, length, map, slice_get, refl, ap, Option, Some, None, option_map}
use Rattle.std.specs.Prelude.{option_and_then}
use Rattle.c_lex.specs.declared.token.Place.{Place}
use Rattle.c_symbol.specs.declared.symbol.LeafKind.{LeafKind}
use Rattle.c_symbol.specs.declared.symbol.LeafKind.TheVariants as leaf
use Rattle.c_symbol.specs.declared.symbol.PrefixOp.{PrefixOp}
use Rattle.c_symbol.specs.declared.symbol.PrefixOp.TheVariants as prefix
use Rattle.c_symbol.specs.declared.symbol.BinaryOp.{BinaryOp}
use Rattle.c_symbol.specs.declared.symbol.BinaryOp.TheVariants as binary
use Rattle.c_trees.specs.Expressions.{Tree, Leaf, Index, Call, With, Prefix, Binary, with_arguments}
use Rattle.c_tree.specs.declared.types.CType.{CType}
use Rattle.c_typing.specs.Plain.{Array, plain}
use Rattle.c_typing.specs.Expressions.{Denoted, Object, Function}
use Rattle.c_judge.specs.declared.symbol.Symbol.{Symbol}
use Rattle.c_judge.specs.Judges.{denoted}
use Rattle.c_judge.specs.Judgement.{name_alone}
use Rattle.c_scope.specs.declared.link.Link.{Link}
use Rattle.c_scope.specs.Table.{rows}
use Rattle.c_scope.specs.Environment.{Environment, number_of, denoted_by, denoted_at, meant}
use Rattle.c_initial.specs.Initials.{spot, item_of, whole_of}
use Rattle.c_initial.specs.Spots.{object_in, object_of, item_in, whole_in, item_behind, is_add, is_address, item_leaf, address}

name_more : (c e : Tree) (es : List Tree) → name_alone (with_arguments (With c e) es) ≡ None
name_more c e [] = refl
name_more c e (d ∷ es) = name_more (With c e) d es

pub no_name : (at : Place) (f : Tree) (es : List Tree) → name_alone (with_arguments (Call at f) es) ≡ None
no_name at f [] = refl
no_name at f (e ∷ es) = name_more (Call at f) e es

pub item_same : (name : List ℕ) (d : Option Denoted) (i : Option ℕ) → item_of name d i ≡ item_in name (object_of d) i
item_same name (Some (Object (Array t n) r)) (Some i) = refl
item_same name (Some (Object t r)) None = refl
item_same name (Some (Object t r)) (Some i) = refl
item_same name (Some _) i = refl
item_same name None i = refl

pub whole_same : (name : List ℕ) (d : Option Denoted) → whole_of name d ≡ whole_in name (object_of d)
whole_same name (Some (Object t r)) = refl
whole_same name (Some _) = refl
whole_same name None = refl

-- the object by its row
object_row : (s : Symbol) (ps : List CType) → object_of (Some (denoted s ps)) ≡ object_in (Some s)
object_row s ps = elim s.function as (λ b. object_of (Some (if b then Function (plain s.ctype) (map plain ps) else Object (plain s.ctype) s.register)) ≡ (if b then None else Some (plain s.ctype))) [ true ↦ refl | false ↦ refl ]

pub object_at : (ss : List Symbol) (ps : List (List CType)) (ls : List Link) (n : ℕ) → length ps ≡ length ss → length ls ≡ length ss
    → object_of (option_map denoted_by (slice_get (rows ss ps ls) n)) ≡ object_in (slice_get ss n)
object_at [] ps ls n h k = refl
object_at (s ∷ ss) [] ls n h k = absurd (omega (arith, h))
object_at (s ∷ ss) (p ∷ ps) [] n h k = absurd (omega (arith, k))
object_at (s ∷ ss) (p ∷ ps) (l ∷ ls) zero h k = object_row s p
object_at (s ∷ ss) (p ∷ ps) (l ∷ ls) (suc n) h k = object_at ss ps ls n (omega (arith, h)) (omega (arith, k))

pub object_named : (v : Environment) (name : List ℕ) (n : ℕ) → number_of v.visible name ≡ Some n → object_of (meant v name) ≡ object_of (denoted_at v n)
object_named v name n h = ap (λ o. object_of (option_and_then (denoted_at v) o)) h

pub object_unknown : (v : Environment) (name : List ℕ) → number_of v.visible name ≡ None → object_of (meant v name) ≡ None
object_unknown v name h = ap (λ o. object_of (option_and_then (denoted_at v) o)) h

module _ (v : Environment) where
  spot_more : (c e : Tree) (es : List Tree) → spot v (with_arguments (With c e) es) ≡ None
  spot_more c e [] = refl
  spot_more c e (d ∷ es) = spot_more (With c e) d es

  pub spot_call : (at : Place) (f : Tree) (es : List Tree) → spot v (with_arguments (Call at f) es) ≡ None
  spot_call at f [] = refl
  spot_call at f (e ∷ es) = spot_more (Call at f) e es

  address_more : (c e : Tree) (es : List Tree) → address v (with_arguments (With c e) es) ≡ None
  address_more c e [] = refl
  address_more c e (d ∷ es) = address_more (With c e) d es

  pub address_call : (at : Place) (f : Tree) (es : List Tree) → address v (with_arguments (Call at f) es) ≡ None
  address_call at f [] = refl
  address_call at f (e ∷ es) = address_more (Call at f) e es

  sum_of : (at : Place) (a c : Tree) → spot v (Binary at binary.Add a c) ≡ item_behind v (name_alone a) c
  sum_of at (Leaf p leaf.Name name) c = refl
  sum_of at (Leaf p _ name) c = refl
  sum_of at _ c = refl

  pub spot_sum : (at : Place) (op : BinaryOp) (a c : Tree) → spot v (Binary at op a c) ≡ (if is_add op then item_behind v (name_alone a) c else None)
  spot_sum at binary.Add a c = sum_of at a c
  spot_sum at _ a c = refl

  index_of : (at p : Place) (a c : Tree) → spot v (Prefix at prefix.Address (Index p a c)) ≡ item_behind v (name_alone a) c
  index_of at p (Leaf q leaf.Name name) c = refl
  index_of at p (Leaf q _ name) c = refl
  index_of at p _ c = refl

  address_of : (at : Place) (a : Tree) → spot v (Prefix at prefix.Address a) ≡ address v a
  address_of at (Leaf p leaf.Name name) = refl
  address_of at (Leaf p _ name) = refl
  address_of at (Index p a c) = index_of at p a c
  address_of at _ = refl

  pub spot_prefix : (at : Place) (op : PrefixOp) (a : Tree) → spot v (Prefix at op a) ≡ (if is_address op then address v a else None)
  spot_prefix at prefix.Address a = address_of at a
  spot_prefix at _ a = refl

  pub spot_leaf : (at : Place) (kind : LeafKind) (name : List ℕ) → spot v (Leaf at kind name) ≡ item_leaf v kind name
  spot_leaf at leaf.Name name = refl
  spot_leaf at _ name = refl
