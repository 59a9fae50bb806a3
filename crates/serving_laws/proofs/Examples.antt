-- Expressions that are evaluated: `i + 1` of an `int`, and `*p`, `p + 1u` and `p->m` of pointers.
use Rattle.std.proofs.Common.{◌≡◌, sym, ap, subst, ℕ, ◌^◌, ◌<◌, inl, inr, Some, List, lit<, lit≤, slice_get}
use Rattle.c_tree.specs.declared.types.CType.{CType}
use Rattle.c_tree.specs.declared.types.CType.TheVariants.{Char, Int, Unsigned, Pointer', Struct}
use Rattle.c_tree.specs.declared.types.Member.{Member}
use Rattle.c_tree.specs.declared.typed.BinaryOp.TheVariants.{Add}
use Rattle.c_tree.specs.declared.typed.Head.{Head}
use Rattle.c_tree.specs.declared.typed.Typed.TheVariants.{Arrow', Binary', Constant, Follow', Name}
use Rattle.c_tree.specs.Types.{target_of}
use Rattle.c_tree.specs.Layout.{members_of}
use Rattle.c_judge.specs.declared.symbol.Symbol.{Symbol}
use Rattle.ps_store.specs.StoreState.{StoreState}
use Rattle.frame_bytes.specs.declared.frame.Place.{Place}
use Rattle.c_bytes.specs.Lvalues.{Scene}
use Rattle.serving_laws.specs.Named.{IsNamed, IsScalar, by_name as at_name, scalar}
use Rattle.serving_laws.specs.Evaluated.{IsSettled, HasSmallObjects, on, IsEvaluated, by_name, constant, on_two, on_pointers, pointed_scalar, followed, member}

module _ (sc : Scene) (s : StoreState) (names : List Symbol) (n : ℕ) (place : Place) (is : IsNamed sc s names n place) (name : Head) where
  number_read : name.ctype ≡ Int → IsEvaluated sc s names (Name name n)
  number_read e = by_name (Name name n) (scalar (Name name n) name.ctype place (at_name name n place is) (subst IsScalar (sym e) tt))

  i_plus_one : (sum one : Head) (p q : _) → name.ctype ≡ Int → one.ctype ≡ Int → IsEvaluated sc s names (Binary' sum p (Name name n) Add q (Constant one 1))
  i_plus_one sum one p q e e' = on_two sum p (Name name n) Add q (Constant one 1) (inl (ap target_of e, ap target_of e')) (number_read e) (constant one 1 (lit< tt))

  pointer_read : (b : _) (t : CType) → name.ctype ≡ Pointer' b t → IsEvaluated sc s names (Name name n)
  pointer_read b t e = by_name (Name name n) (scalar (Name name n) name.ctype place (at_name name n place is) (subst IsScalar (sym e) tt))

  star_p : (star : Head) (p b : _) → name.ctype ≡ Pointer' b Int → star.ctype ≡ Int → IsSettled sc s → IsEvaluated sc s names (Follow' star p (Name name n))
  star_p star p b e e' settled = pointed_scalar (Follow' star p (Name name n)) star.ctype (followed star p (Name name n) (pointer_read b Int e)) (subst IsScalar (sym e') tt) settled

  p_plus_one : (sum one : Head) (p q b : _) → name.ctype ≡ Pointer' b Char → one.ctype ≡ Unsigned → IsSettled sc s → HasSmallObjects sc s → IsEvaluated sc s names (Binary' sum p (Name name n) Add q (Constant one 1))
  p_plus_one sum one p q b e e' settled objects =
      on_pointers sum p (Name name n) Add q (Constant one 1) (on name.ctype one.ctype Char (ap target_of e) (ap target_of e') (inr objects) (lit≤ tt)) settled (pointer_read b Char e) (constant one 1 (lit< tt))

  arrow_m : (arrow : Head) (p b : _) (k m : ℕ) (row : Member) → name.ctype ≡ Pointer' b (Struct k) → arrow.ctype ≡ Int → slice_get (members_of sc.defs k) m ≡ Some row → row.at < 2 ^ 31 → IsSettled sc s
      → IsEvaluated sc s names (Arrow' arrow p (Name name n) m)
  arrow_m arrow p b k m row e e' get low settled =
      pointed_scalar (Arrow' arrow p (Name name n) m) arrow.ctype (member arrow p (Name name n) k m row (ap target_of e) get (inl low) settled (pointer_read b (Struct k) e)) (subst IsScalar (sym e') tt) settled
