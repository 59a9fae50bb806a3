-- A well-typed expression of a struct's type that makes no assignment is an lvalue.
use Rattle.std.proofs.Common.{◌≡◌, refl, sym, ◌∙◌, subst, ap, List, Bool, true, false, not, ◌&&◌, ◌||◌, Some, None, true≢false, ◌⊎◌, inl, inr}
use Rattle.std.specs.Prelude.{if◌then◌else◌}
use Rattle.c_tree.specs.declared.types.CType.{CType}
use Rattle.c_tree.specs.declared.types.CType.TheVariants as ctype
use Rattle.c_tree.specs.declared.types.StructDef.{StructDef}
use Rattle.c_tree.specs.declared.typed.BinaryOp.{BinaryOp}
use Rattle.c_tree.specs.declared.typed.BinaryOp.TheVariants.{BitOr, BitXor, BitAnd, Equal, Unequal, Less, Greater, LessEqual, GreaterEqual, ShiftLeft, ShiftRight, Add, Subtract, Multiply, Divide, Remainder}
use Rattle.c_tree.specs.declared.typed.UnaryOp.{UnaryOp}
use Rattle.c_tree.specs.declared.typed.UnaryOp.TheVariants.{Plus, Minus, Complement, Not}
use Rattle.c_tree.specs.declared.typed.Typed.{Typed}
use Rattle.c_tree.specs.declared.typed.Typed.TheVariants.{Comma', Choice', Or', And', Binary', Cast', Address', Follow', Unary', SizeOf', SizeOfType, Index', Dot', Arrow', Name, Constant, Literal, Parens'}
use Rattle.c_tree.specs.Types.{type_of, is_struct}
use Rattle.c_source.specs.Meaning.{IsPlain}
use Rattle.c_typing.specs.Plain.{Plain, Char, Int, Unsigned, Void, Pointer, Array, Struct, plain, same, is_integer, is_pointer, is_scalar, is_struct as is_a_struct, is_complete, promoted, common}
use Rattle.c_typing.specs.Rules.{Operand, value_of, only, may_drop, unary_type, is_movable, is_nulled, arithmetic_type, sum_type, difference_type, binary_type, branches_type, choice_type}
use Rattle.c_typing.specs.Expressions.{Scope, is_lvalue, is_string, is_register, is_constant_type, operand, value}
use Rattle.c_reading.specs.Kept.{KeepsRules}
use Rattle.c_sound.proofs.Begins.{and_parts}
use Rattle.c_sound.proofs.Rules.{or_parts, no_none, only_some, if_some}

struct_plain : (t : CType) → is_struct t ≡ is_a_struct (plain t)
struct_plain ctype.Char = refl
struct_plain ctype.Int = refl
struct_plain ctype.Unsigned = refl
struct_plain ctype.Void = refl
struct_plain (ctype.Pointer' b t) = refl
struct_plain (ctype.Array' b t n) = refl
struct_plain (ctype.Struct s) = refl

-- the type is no struct
abbrev IsNone : Plain → Type 0
IsNone t = is_a_struct t ≡ false

scalar_none : (t : Plain) → is_scalar t ≡ true → IsNone t
scalar_none (Struct s) h = sym h
scalar_none Char h = refl
scalar_none Int h = refl
scalar_none Unsigned h = refl
scalar_none Void h = refl
scalar_none (Pointer t) h = refl
scalar_none (Array t n) h = refl

integer_none : (t : Plain) → is_integer t ≡ true → IsNone t
integer_none (Struct s) h = sym h
integer_none Char h = refl
integer_none Int h = refl
integer_none Unsigned h = refl
integer_none Void h = refl
integer_none (Pointer t) h = refl
integer_none (Array t n) h = refl

pointer_none : (t : Plain) → is_pointer t ≡ true → IsNone t
pointer_none (Pointer t) h = refl
pointer_none _ h = absurd (true≢false (sym h))

movable_none : (defs : List StructDef) (t : Plain) → is_movable defs t ≡ true → IsNone t
movable_none defs (Pointer t) h = refl
movable_none defs _ h = absurd (true≢false (sym h))

promoted_none : (t : Plain) → IsNone (promoted t)
promoted_none Unsigned = refl
promoted_none _ = refl

common_none : (s t : Plain) → IsNone (common s t)
common_none Unsigned t = refl
common_none Char t = promoted_none t
common_none Int t = promoted_none t
common_none Void t = promoted_none t
common_none (Pointer s) t = promoted_none t
common_none (Array s n) t = promoted_none t
common_none (Struct s) t = promoted_none t

from : (t r : Plain) → t ≡ r → IsNone t → IsNone r
from t r e h = subst IsNone e h

arithmetic_none : (s t r : Plain) → arithmetic_type s t ≡ Some r → IsNone r
arithmetic_none s t r h = from (common s t) r (only_some (is_integer s && is_integer t) (common s t) r h).1 (common_none s t)

sum_none : (defs : List StructDef) (s t r : Plain) → sum_type defs s t ≡ Some r → IsNone r
sum_none defs s t r h = by_first (if_some (is_movable defs s && is_integer t) s r _ h)
  where
    by_second : ((is_integer s && is_movable defs t ≡ true) × (t ≡ r)) ⊎ (arithmetic_type s t ≡ Some r) → IsNone r
    by_second (inl q) = from t r q.1 (movable_none defs t (and_parts (is_integer s) (is_movable defs t) q.0).1)
    by_second (inr q) = arithmetic_none s t r q

    by_first : ((is_movable defs s && is_integer t ≡ true) × (s ≡ r)) ⊎ ((if is_integer s && is_movable defs t then Some t else arithmetic_type s t) ≡ Some r) → IsNone r
    by_first (inl q) = from s r q.1 (movable_none defs s (and_parts (is_movable defs s) (is_integer t) q.0).0)
    by_first (inr q) = by_second (if_some (is_integer s && is_movable defs t) t r _ q)

difference_none : (defs : List StructDef) (s t r : Plain) → difference_type defs s t ≡ Some r → IsNone r
difference_none defs s t r h = by_first (if_some (is_movable defs s && is_integer t) s r _ h)
  where
    by_second : ((is_movable defs s && same s t ≡ true) × (Int ≡ r)) ⊎ (arithmetic_type s t ≡ Some r) → IsNone r
    by_second (inl q) = from Int r q.1 refl
    by_second (inr q) = arithmetic_none s t r q

    by_first : ((is_movable defs s && is_integer t ≡ true) × (s ≡ r)) ⊎ ((if is_movable defs s && same s t then Some Int else arithmetic_type s t) ≡ Some r) → IsNone r
    by_first (inl q) = from s r q.1 (movable_none defs s (and_parts (is_movable defs s) (is_integer t) q.0).0)
    by_first (inr q) = by_second (if_some (is_movable defs s && same s t) Int r _ q)

an_int : (b : Bool) (r : Plain) → only b Int ≡ Some r → IsNone r
an_int b r h = from Int r (only_some b Int r h).1 refl

shift_none : (b : Bool) (s r : Plain) → only b (promoted s) ≡ Some r → IsNone r
shift_none b s r h = from (promoted s) r (only_some b (promoted s) r h).1 (promoted_none s)

binary_none : (defs : List StructDef) (op : BinaryOp) (a b : Operand) (r : Plain) → binary_type defs op a b ≡ Some r → IsNone r
binary_none defs Equal a b r h = an_int _ r h
binary_none defs Unequal a b r h = an_int _ r h
binary_none defs Less a b r h = an_int _ r h
binary_none defs Greater a b r h = an_int _ r h
binary_none defs LessEqual a b r h = an_int _ r h
binary_none defs GreaterEqual a b r h = an_int _ r h
binary_none defs ShiftLeft a b r h = shift_none _ (value_of a) r h
binary_none defs ShiftRight a b r h = shift_none _ (value_of a) r h
binary_none defs Add a b r h = sum_none defs (value_of a) (value_of b) r h
binary_none defs Subtract a b r h = difference_none defs (value_of a) (value_of b) r h
binary_none defs BitOr a b r h = arithmetic_none (value_of a) (value_of b) r h
binary_none defs BitXor a b r h = arithmetic_none (value_of a) (value_of b) r h
binary_none defs BitAnd a b r h = arithmetic_none (value_of a) (value_of b) r h
binary_none defs Multiply a b r h = arithmetic_none (value_of a) (value_of b) r h
binary_none defs Divide a b r h = arithmetic_none (value_of a) (value_of b) r h
binary_none defs Remainder a b r h = arithmetic_none (value_of a) (value_of b) r h

unary_none : (op : UnaryOp) (t r : Plain) → unary_type op t ≡ Some r → IsNone r
unary_none Not t r h = an_int _ r h
unary_none Plus t r h = shift_none _ t r h
unary_none Minus t r h = shift_none _ t r h
unary_none Complement t r h = shift_none _ t r h

choice_none : (c : Plain) (a b : Operand) (r : Plain) → choice_type c a b ≡ Some r → IsNone r
choice_none c a b r h = by_scalar (is_scalar c) h
  where
    pointers : (t : Plain) → is_pointer t ≡ true → t ≡ r → IsNone r
    pointers t h e = from t r e (pointer_none t h)

    second : only (is_nulled (value_of b) a) (value_of b) ≡ Some r → IsNone r
    second h = let q = only_some (is_nulled (value_of b) a) (value_of b) r h in pointers (value_of b) (and_parts (is_pointer (value_of b)) (is_integer (value_of a) && a.null) q.0).0 q.1

    pointer_there : (is_pointer (value_of a) && same (value_of a) (value_of b) ≡ true) ⊎ (is_nulled (value_of a) b ≡ true) → is_pointer (value_of a) ≡ true
    pointer_there (inl q) = (and_parts (is_pointer (value_of a)) (same (value_of a) (value_of b)) q).0
    pointer_there (inr q) = (and_parts (is_pointer (value_of a)) (is_integer (value_of b) && b.null) q).0

    first : (((is_pointer (value_of a) && same (value_of a) (value_of b)) || is_nulled (value_of a) b ≡ true) × (value_of a ≡ r)) ⊎ (only (is_nulled (value_of b) a) (value_of b) ≡ Some r) → IsNone r
    first (inl q) = pointers (value_of a) (pointer_there (or_parts (is_pointer (value_of a) && same (value_of a) (value_of b)) (is_nulled (value_of a) b) q.0)) q.1
    first (inr q) = second q

    numbers : ((is_integer (value_of a) && is_integer (value_of b) ≡ true) × (common (value_of a) (value_of b) ≡ r)) ⊎ ((if (is_pointer (value_of a) && same (value_of a) (value_of b)) || is_nulled (value_of a) b then Some (value_of a) else only (is_nulled (value_of b) a) (value_of b)) ≡ Some r) → IsNone r
    numbers (inl q) = from (common (value_of a) (value_of b)) r q.1 (common_none (value_of a) (value_of b))
    numbers (inr q) = first (if_some ((is_pointer (value_of a) && same (value_of a) (value_of b)) || is_nulled (value_of a) b) (value_of a) r _ q)

    by_scalar : (s : Bool) → (if s then branches_type a b else None) ≡ Some r → IsNone r
    by_scalar true h = numbers (if_some (is_integer (value_of a) && is_integer (value_of b)) (common (value_of a) (value_of b)) r _ h)
    by_scalar false h = no_none r h

constant_none : (t : Plain) → is_constant_type t ≡ true → IsNone t
constant_none Int h = refl
constant_none Unsigned h = refl
constant_none _ h = absurd (true≢false (sym h))

module _ (s : Scope) where
  abbrev IsLvalue : Typed → Type 0
  IsLvalue e = is_lvalue e ≡ true

  never : (t : CType) (e : Typed) → IsNone (plain t) → is_struct t ≡ true → IsLvalue e
  never t e n h = absurd (true≢false (sym h ∙ struct_plain t ∙ n))

  pub struct_lvalue : (e : Typed) → IsPlain e → KeepsRules s e → is_struct (type_of e) ≡ true → IsLvalue e
  struct_lvalue (Comma' h x a y b) i q k =
      let c = only_some (may_drop (operand s a) && is_scalar (value s b)) (value s b) (plain h.ctype) q.2 in
      never h.ctype (Comma' h x a y b) (from (value s b) (plain h.ctype) c.1 (scalar_none (value s b) (and_parts (may_drop (operand s a)) (is_scalar (value s b)) c.0).1)) k
  struct_lvalue (Choice' h x c y a z b) i q k = never h.ctype (Choice' h x c y a z b) (choice_none (value s c) (operand s a) (operand s b) (plain h.ctype) q.3) k
  struct_lvalue (Or' h x a y b) i q k = never h.ctype (Or' h x a y b) (an_int _ (plain h.ctype) q.2) k
  struct_lvalue (And' h x a y b) i q k = never h.ctype (And' h x a y b) (an_int _ (plain h.ctype) q.2) k
  struct_lvalue (Binary' h x a op y b) i q k = never h.ctype (Binary' h x a op y b) (binary_none s.defs op (operand s a) (operand s b) (plain h.ctype) q.2) k
  struct_lvalue (Cast' h x a) i q k =
      let c = only_some (is_integer (plain h.ctype) && is_integer (value s a)) (plain h.ctype) (plain h.ctype) q.1 in
      never h.ctype (Cast' h x a) (integer_none (plain h.ctype) (and_parts (is_integer (plain h.ctype)) (is_integer (value s a)) c.0).0) k
  struct_lvalue (Address' h x a) i q k = never h.ctype (Address' h x a) (from (Pointer (plain (type_of a))) (plain h.ctype) (only_some (is_lvalue a && not (is_register s a) && not (is_string a)) (Pointer (plain (type_of a))) (plain h.ctype) q.1).1 refl) k
  struct_lvalue (Unary' h op x a) i q k = never h.ctype (Unary' h op x a) (unary_none op (value s a) (plain h.ctype) q.1) k
  struct_lvalue (SizeOf' h x a) i q k = never h.ctype (SizeOf' h x a) (from Unsigned (plain h.ctype) (only_some (is_complete s.defs (plain (type_of a))) Unsigned (plain h.ctype) q.1).1 refl) k
  struct_lvalue (SizeOfType h t) i q k = never h.ctype (SizeOfType h t) (from Unsigned (plain h.ctype) (only_some (is_complete s.defs (plain t)) Unsigned (plain h.ctype) q).1 refl) k
  struct_lvalue (Constant h n) i q k = never h.ctype (Constant h n) (constant_none (plain h.ctype) q) k
  struct_lvalue (Parens' h x a) i q k = struct_lvalue a i q.0 (struct_plain (type_of a) ∙ ap is_a_struct q.1 ∙ sym (struct_plain h.ctype) ∙ k)
  struct_lvalue (Name h n) i q k = refl
  struct_lvalue (Literal h n) i q k = refl
  struct_lvalue (Follow' h x a) i q k = refl
  struct_lvalue (Index' h x a y b) i q k = refl
  struct_lvalue (Dot' h x a m) i q k = refl
  struct_lvalue (Arrow' h x a m) i q k = refl
  struct_lvalue _ i q k = absurd i
