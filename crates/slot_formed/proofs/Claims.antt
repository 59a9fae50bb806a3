-- What the typing rules say of an expression's value: it is a pointer, or 0, where its type is a pointer's, and the number of a constant expression.
use Rattle.std.proofs.Common.{◌≡◌, refl, sym, ap, subst, ◌∙◌, ℕ, zero, suc, List, Bool, true, false, ◌&&◌, ◌||◌, Option, Some, None, true≢false, ◌⊎◌, inl, inr}
use Rattle.std.specs.Prelude.{◌==◌, if◌then◌else◌}
use Rattle.c_tree.specs.declared.types.CType.{CType}
use Rattle.c_tree.specs.declared.types.CType.TheVariants as ctype
use Rattle.c_tree.specs.declared.types.StructDef.{StructDef}
use Rattle.c_tree.specs.declared.typed.BinaryOp.{BinaryOp}
use Rattle.c_tree.specs.declared.typed.BinaryOp.TheVariants.{BitOr, BitXor, BitAnd, Equal, Unequal, Less, Greater, LessEqual, GreaterEqual, ShiftLeft, ShiftRight, Add, Subtract, Multiply, Divide, Remainder}
use Rattle.c_tree.specs.declared.typed.UnaryOp.{UnaryOp}
use Rattle.c_tree.specs.declared.typed.UnaryOp.TheVariants as sign
use Rattle.c_tree.specs.declared.typed.Typed.{Typed}
use Rattle.c_tree.specs.declared.typed.Typed.TheVariants.{Choice', Or', And', Binary', Cast', Unary', SizeOf', SizeOfType, Constant, Parens'}
use Rattle.c_tree.specs.Types.{type_of, target_of}
use Rattle.c_typing.specs.Plain.{Plain, Char, Int, Unsigned, Void, Pointer, Array, Struct, plain, same, is_integer, is_pointer, is_scalar, value_type, promoted, common}
use Rattle.c_typing.specs.declared.constant.Constant.{Constant as Folded}
use Rattle.c_typing.specs.declared.constant.Constant.TheVariants as folds
use Rattle.c_typing.specs.Constants.{constant, operand_type, is_null}
use Rattle.c_typing.specs.Values as values
use Rattle.c_typing.specs.Values.{operated, works_unsigned}
use Rattle.c_typing.specs.Rules.{Operand, only, is_movable, arithmetic_type, sum_type, difference_type, shift_type, order_type, is_nulled, equality_type, binary_type, converts, branches_type, choice_type, unary_type}
use Rattle.c_typing.specs.Expressions.{Scope, operand, value, is_constant_type, IsTyped}
use Rattle.c_store.specs.Store.{Value}
use Rattle.slot_pointers.specs.Taken.{is_pointer as points, serves, holds}
use Rattle.slot_gen.specs.Expressions.{access_of}
use Rattle.slot_formed.proofs.Lists.{no_none, some_same, and_parts, or_parts}
use Rattle.slot_formed.proofs.Constants.{is_constant, two_constants, chosen_constants}
use Rattle.slot_formed.proofs.Evaluated.{Is, suc_is}

-- ---- types

pub same_pointer : (t u : Plain) → same t u ≡ true → is_pointer t ≡ true → is_pointer u ≡ true
same_pointer (Pointer a) (Pointer b) h k = refl
same_pointer (Pointer a) _ h k = absurd (true≢false (sym h))
same_pointer _ u h k = absurd (true≢false (sym k))

pub no_both : (t : Plain) → is_integer t ≡ true → is_pointer t ≡ true → ⊥
no_both (Pointer t) h k = true≢false (sym h)
no_both _ h k = true≢false (sym k)

pub value_twice : (t : Plain) → value_type (value_type t) ≡ value_type t
value_twice (Array t n) = refl
value_twice Char = refl
value_twice Int = refl
value_twice Unsigned = refl
value_twice Void = refl
value_twice (Pointer t) = refl
value_twice (Struct s) = refl

pub integer_same : (t : Plain) → is_integer t ≡ true → value_type t ≡ t
integer_same (Array t n) h = absurd (true≢false (sym h))
integer_same Char h = refl
integer_same Int h = refl
integer_same Unsigned h = refl
integer_same Void h = refl
integer_same (Pointer t) h = refl
integer_same (Struct s) h = refl

pub only_is : (b : Bool) (t r : Plain) → only b t ≡ Some r → (b ≡ true) × (t ≡ r)
only_is true t r e = (refl, some_same t r e)
only_is false t r e = no_none r e

if_is : (b : Bool) (t r : Plain) (rest : Option Plain) → (if b then Some t else rest) ≡ Some r → ((b ≡ true) × (t ≡ r)) ⊎ (rest ≡ Some r)
if_is true t r rest e = inl (refl, some_same t r e)
if_is false t r rest e = inr e

pub target_none : (t : CType) → is_integer (value_type (plain t)) ≡ true → target_of t ≡ None
target_none ctype.Char h = refl
target_none ctype.Int h = refl
target_none ctype.Unsigned h = refl
target_none ctype.Void h = refl
target_none (ctype.Pointer' b u) h = absurd (true≢false (sym h))
target_none (ctype.Array' b u m) h = absurd (true≢false (sym h))
target_none (ctype.Struct k) h = refl

pub target_some : (t : CType) → is_pointer (value_type (plain t)) ≡ true → (u : CType) × (target_of t ≡ Some u)
target_some (ctype.Pointer' b u) h = (u, refl)
target_some (ctype.Array' b u m) h = (u, refl)
target_some ctype.Char h = absurd (true≢false (sym h))
target_some ctype.Int h = absurd (true≢false (sym h))
target_some ctype.Unsigned h = absurd (true≢false (sym h))
target_some ctype.Void h = absurd (true≢false (sym h))
target_some (ctype.Struct k) h = absurd (true≢false (sym h))

integer_value : (t : Plain) → is_integer t ≡ true → is_integer (value_type t) ≡ true
integer_value Char h = refl
integer_value Int h = refl
integer_value Unsigned h = refl
integer_value _ h = absurd (true≢false (sym h))

pub integer_none : (t : CType) → is_integer (plain t) ≡ true → target_of t ≡ None
integer_none t h = target_none t (integer_value (plain t) h)

-- a value that serves a type serves a conversion to it
pub cast_serves : (t : CType) (v : Value) → (is_pointer (plain t) ≡ true → points v ≡ true) → serves (access_of t) v ≡ true
cast_serves ctype.Char v h = refl
cast_serves ctype.Int v h = refl
cast_serves ctype.Unsigned v h = refl
cast_serves ctype.Void v h = refl
cast_serves (ctype.Pointer' b t) v h = h refl
cast_serves (ctype.Array' b t n) v h = refl
cast_serves (ctype.Struct s) v h = refl

pub serves_type : (t : CType) (v : Value) → serves (access_of t) v ≡ true → is_pointer (plain t) ≡ true → points v ≡ true
serves_type (ctype.Pointer' b t) v h k = h
serves_type ctype.Char v h k = absurd (true≢false (sym k))
serves_type ctype.Int v h k = absurd (true≢false (sym k))
serves_type ctype.Unsigned v h k = absurd (true≢false (sym k))
serves_type ctype.Void v h k = absurd (true≢false (sym k))
serves_type (ctype.Array' b t n) v h k = absurd (true≢false (sym k))
serves_type (ctype.Struct s) v h k = absurd (true≢false (sym k))

-- what a temporary holds, where it was written
abbrev pub Held : (Value → Type 0) → Option Value → Type 0
Held C o = (v : Value) → o ≡ Some v → C v

pub holds_all : (g : Value → Bool) (o : Option Value) → Held (λ v. g v ≡ true) o → holds g o ≡ true
holds_all g None h = refl
holds_all g (Some v) h = h v refl

promoted_plain : (t : Plain) → is_integer (promoted t) ≡ true
promoted_plain Unsigned = refl
promoted_plain _ = refl

common_integer : (s t : Plain) → is_integer (common s t) ≡ true
common_integer Unsigned t = refl
common_integer Char t = promoted_plain t
common_integer Int t = promoted_plain t
common_integer Void t = promoted_plain t
common_integer (Pointer s) t = promoted_plain t
common_integer (Array s n) t = promoted_plain t
common_integer (Struct s) t = promoted_plain t

movable_pointer : (defs : List StructDef) (t : Plain) → is_movable defs t ≡ true → is_pointer t ≡ true
movable_pointer defs (Pointer t) h = refl
movable_pointer defs _ h = absurd (true≢false (sym h))

-- ---- where the result of an operator is a pointer

-- the operators that move a pointer, by what their operands point to
abbrev pub Moves : Option CType → Option CType → BinaryOp → Type 0
Moves (Some u) None Add = Unit {0}
Moves (Some u) None Subtract = Unit {0}
Moves None (Some u) Add = Unit {0}
Moves _ _ _ = ⊥

module _ (defs : List StructDef) where
  no_pointer : (t r : Plain) (b : Bool) → only b t ≡ Some r → is_integer t ≡ true → is_pointer r ≡ true → ⊥
  no_pointer t r b e i h = no_both t i (subst (λ z. is_pointer z ≡ true) (sym (only_is b t r e).1) h)

  arithmetic_no : (s t r : Plain) → arithmetic_type s t ≡ Some r → is_pointer r ≡ true → ⊥
  arithmetic_no s t r e h = no_pointer (common s t) r (is_integer s && is_integer t) e (common_integer s t) h

  shift_no : (s t r : Plain) → shift_type s t ≡ Some r → is_pointer r ≡ true → ⊥
  shift_no s t r e h = no_pointer (promoted s) r (is_integer s && is_integer t) e (promoted_plain s) h

  order_no : (s t r : Plain) → order_type s t ≡ Some r → is_pointer r ≡ true → ⊥
  order_no s t r e h = no_pointer Int r ((is_integer s && is_integer t) || (is_pointer s && same s t)) e refl h

  equality_no : (a b : Operand) (r : Plain) → equality_type a b ≡ Some r → is_pointer r ≡ true → ⊥
  equality_no a b r e h = no_pointer Int r _ e refl h

  -- a pointer and an integer, in targets
  first_moves : (s t : CType) (op : BinaryOp) → is_movable defs (value_type (plain s)) && is_integer (value_type (plain t)) ≡ true → ((u : CType) → Moves (Some u) None op) → Moves (target_of s) (target_of t) op
  first_moves s t op h g =
      let q = and_parts (is_movable defs (value_type (plain s))) (is_integer (value_type (plain t))) h in
      let u = target_some s (movable_pointer defs (value_type (plain s)) q.0) in
      subst (λ o. Moves o (target_of t) op) (sym u.1) (subst (λ o. Moves (Some u.0) o op) (sym (target_none t q.1)) (g u.0))

  second_moves : (s t : CType) → is_integer (value_type (plain s)) && is_movable defs (value_type (plain t)) ≡ true → Moves (target_of s) (target_of t) Add
  second_moves s t h =
      let q = and_parts (is_integer (value_type (plain s))) (is_movable defs (value_type (plain t))) h in
      let u = target_some t (movable_pointer defs (value_type (plain t)) q.1) in
      subst (λ o. Moves o (target_of t) Add) (sym (target_none s q.0)) (subst (λ o. Moves None o Add) (sym u.1) tt)

  pub sum_moves : (s t : CType) (r : Plain) → sum_type defs (value_type (plain s)) (value_type (plain t)) ≡ Some r → is_pointer r ≡ true → Moves (target_of s) (target_of t) Add
  sum_moves s t r e h = first (if_is (is_movable defs (value_type (plain s)) && is_integer (value_type (plain t))) (value_type (plain s)) r _ e)
    where
      second : ((is_integer (value_type (plain s)) && is_movable defs (value_type (plain t)) ≡ true) × (value_type (plain t) ≡ r)) ⊎ (arithmetic_type (value_type (plain s)) (value_type (plain t)) ≡ Some r) → Moves (target_of s) (target_of t) Add
      second (inl q) = second_moves s t q.0
      second (inr q) = absurd (arithmetic_no (value_type (plain s)) (value_type (plain t)) r q h)

      first : ((is_movable defs (value_type (plain s)) && is_integer (value_type (plain t)) ≡ true) × (value_type (plain s) ≡ r))
          ⊎ ((if is_integer (value_type (plain s)) && is_movable defs (value_type (plain t)) then Some (value_type (plain t)) else arithmetic_type (value_type (plain s)) (value_type (plain t))) ≡ Some r) → Moves (target_of s) (target_of t) Add
      first (inl q) = first_moves s t Add q.0 (λ u. tt)
      first (inr q) = second (if_is (is_integer (value_type (plain s)) && is_movable defs (value_type (plain t))) (value_type (plain t)) r _ q)

  difference_moves : (s t : CType) (r : Plain) → difference_type defs (value_type (plain s)) (value_type (plain t)) ≡ Some r → is_pointer r ≡ true → Moves (target_of s) (target_of t) Subtract
  difference_moves s t r e h = first (if_is (is_movable defs (value_type (plain s)) && is_integer (value_type (plain t))) (value_type (plain s)) r _ e)
    where
      second : ((is_movable defs (value_type (plain s)) && same (value_type (plain s)) (value_type (plain t)) ≡ true) × (Int ≡ r)) ⊎ (arithmetic_type (value_type (plain s)) (value_type (plain t)) ≡ Some r) → Moves (target_of s) (target_of t) Subtract
      second (inl q) = absurd (no_both Int refl (subst (λ z. is_pointer z ≡ true) (sym q.1) h))
      second (inr q) = absurd (arithmetic_no (value_type (plain s)) (value_type (plain t)) r q h)

      first : ((is_movable defs (value_type (plain s)) && is_integer (value_type (plain t)) ≡ true) × (value_type (plain s) ≡ r))
          ⊎ ((if is_movable defs (value_type (plain s)) && same (value_type (plain s)) (value_type (plain t)) then Some Int else arithmetic_type (value_type (plain s)) (value_type (plain t))) ≡ Some r) → Moves (target_of s) (target_of t) Subtract
      first (inl q) = first_moves s t Subtract q.0 (λ u. tt)
      first (inr q) = second (if_is (is_movable defs (value_type (plain s)) && same (value_type (plain s)) (value_type (plain t))) Int r _ q)

  pub binary_moves : (op : BinaryOp) (s : Scope) (a b : Typed) (r : Plain) → binary_type defs op (operand s a) (operand s b) ≡ Some r → is_pointer r ≡ true → Moves (target_of (type_of a)) (target_of (type_of b)) op
  binary_moves Equal s a b r e h = absurd (equality_no (operand s a) (operand s b) r e h)
  binary_moves Unequal s a b r e h = absurd (equality_no (operand s a) (operand s b) r e h)
  binary_moves Less s a b r e h = absurd (order_no (value s a) (value s b) r e h)
  binary_moves Greater s a b r e h = absurd (order_no (value s a) (value s b) r e h)
  binary_moves LessEqual s a b r e h = absurd (order_no (value s a) (value s b) r e h)
  binary_moves GreaterEqual s a b r e h = absurd (order_no (value s a) (value s b) r e h)
  binary_moves ShiftLeft s a b r e h = absurd (shift_no (value s a) (value s b) r e h)
  binary_moves ShiftRight s a b r e h = absurd (shift_no (value s a) (value s b) r e h)
  binary_moves Add s a b r e h = sum_moves (type_of a) (type_of b) r e h
  binary_moves Subtract s a b r e h = difference_moves (type_of a) (type_of b) r e h
  binary_moves BitOr s a b r e h = absurd (arithmetic_no (value s a) (value s b) r e h)
  binary_moves BitXor s a b r e h = absurd (arithmetic_no (value s a) (value s b) r e h)
  binary_moves BitAnd s a b r e h = absurd (arithmetic_no (value s a) (value s b) r e h)
  binary_moves Multiply s a b r e h = absurd (arithmetic_no (value s a) (value s b) r e h)
  binary_moves Divide s a b r e h = absurd (arithmetic_no (value s a) (value s b) r e h)
  binary_moves Remainder s a b r e h = absurd (arithmetic_no (value s a) (value s b) r e h)

  -- ---- no result is an array

  only_value : (b : Bool) (t r : Plain) → only b t ≡ Some r → value_type t ≡ t → value_type r ≡ r
  only_value b t r e h = subst (λ z. value_type z ≡ z) (only_is b t r e).1 h

  arithmetic_value : (s t r : Plain) → arithmetic_type s t ≡ Some r → value_type r ≡ r
  arithmetic_value s t r e = only_value (is_integer s && is_integer t) (common s t) r e (integer_same (common s t) (common_integer s t))

  sum_value : (s t r : Plain) → value_type s ≡ s → value_type t ≡ t → sum_type defs s t ≡ Some r → value_type r ≡ r
  sum_value s t r h k e = first (if_is (is_movable defs s && is_integer t) s r (if is_integer s && is_movable defs t then Some t else arithmetic_type s t) e)
    where
      second : ((is_integer s && is_movable defs t ≡ true) × (t ≡ r)) ⊎ (arithmetic_type s t ≡ Some r) → value_type r ≡ r
      second (inl q) = subst (λ z. value_type z ≡ z) q.1 k
      second (inr q) = arithmetic_value s t r q

      first : ((is_movable defs s && is_integer t ≡ true) × (s ≡ r)) ⊎ ((if is_integer s && is_movable defs t then Some t else arithmetic_type s t) ≡ Some r) → value_type r ≡ r
      first (inl q) = subst (λ z. value_type z ≡ z) q.1 h
      first (inr q) = second (if_is (is_integer s && is_movable defs t) t r (arithmetic_type s t) q)

  difference_value : (s t r : Plain) → value_type s ≡ s → difference_type defs s t ≡ Some r → value_type r ≡ r
  difference_value s t r h e = first (if_is (is_movable defs s && is_integer t) s r (if is_movable defs s && same s t then Some Int else arithmetic_type s t) e)
    where
      second : ((is_movable defs s && same s t ≡ true) × (Int ≡ r)) ⊎ (arithmetic_type s t ≡ Some r) → value_type r ≡ r
      second (inl q) = subst (λ z. value_type z ≡ z) q.1 refl
      second (inr q) = arithmetic_value s t r q

      first : ((is_movable defs s && is_integer t ≡ true) × (s ≡ r)) ⊎ ((if is_movable defs s && same s t then Some Int else arithmetic_type s t) ≡ Some r) → value_type r ≡ r
      first (inl q) = subst (λ z. value_type z ≡ z) q.1 h
      first (inr q) = second (if_is (is_movable defs s && same s t) Int r (arithmetic_type s t) q)

  pub binary_value : (op : BinaryOp) (s : Scope) (a b : Typed) (r : Plain) → binary_type defs op (operand s a) (operand s b) ≡ Some r → value_type r ≡ r
  binary_value Equal s a b r e = only_value _ Int r e refl
  binary_value Unequal s a b r e = only_value _ Int r e refl
  binary_value Less s a b r e = only_value _ Int r e refl
  binary_value Greater s a b r e = only_value _ Int r e refl
  binary_value LessEqual s a b r e = only_value _ Int r e refl
  binary_value GreaterEqual s a b r e = only_value _ Int r e refl
  binary_value ShiftLeft s a b r e = only_value _ (promoted (value s a)) r e (integer_same (promoted (value s a)) (promoted_plain (value s a)))
  binary_value ShiftRight s a b r e = only_value _ (promoted (value s a)) r e (integer_same (promoted (value s a)) (promoted_plain (value s a)))
  binary_value Add s a b r e = sum_value (value s a) (value s b) r (value_twice (plain (type_of a))) (value_twice (plain (type_of b))) e
  binary_value Subtract s a b r e = difference_value (value s a) (value s b) r (value_twice (plain (type_of a))) e
  binary_value _ s a b r e = arithmetic_value (value s a) (value s b) r e

-- ---- claims

module _ (s : Scope) where
  abbrev pub Claim : Typed → Value → Type 0
  Claim e v = (is_pointer (value s e) ≡ true → points v ≡ true) × Is v (constant s.defs e)

  zero_is : (n : ℕ) → n == 0 ≡ true → n ≡ 0
  zero_is zero h = refl
  zero_is (suc n) h = absurd (true≢false (sym h ∙ suc_is n))

  null_is : (c : Folded) → values.is_null c ≡ true → c ≡ folds.Number 0
  null_is folds.Variable h = absurd (true≢false (sym h))
  null_is folds.Undefined h = absurd (true≢false (sym h))
  null_is (folds.Number n) h = ap folds.Number (zero_is n h)

  pub nulled_points : (t : Plain) (e : Typed) (v : Value) → is_nulled t (operand s e) ≡ true → Claim e v → points v ≡ true
  nulled_points t e v h k =
      let q = and_parts (is_integer (value s e)) (is_null s.defs e) (and_parts (is_pointer t) _ h).1 in
      ap points (k.1 0 (null_is (constant s.defs e) q.1)).0

  pub converted_points : (t : Plain) (e : Typed) (v : Value) → converts t (operand s e) ≡ true → Claim e v → is_pointer t ≡ true → points v ≡ true
  converted_points t e v h k i = last (or_parts ((is_integer t && is_integer (value s e)) || (is_pointer t && same t (value s e))) (is_nulled t (operand s e)) h)
    where
      first : ((is_integer t && is_integer (value s e)) ≡ true) ⊎ ((is_pointer t && same t (value s e)) ≡ true) → points v ≡ true
      first (inl q) = absurd (no_both t (and_parts (is_integer t) (is_integer (value s e)) q).0 i)
      first (inr q) = k.0 (same_pointer t (value s e) (and_parts (is_pointer t) (same t (value s e)) q).1 i)

      last : ((is_integer t && is_integer (value s e)) || (is_pointer t && same t (value s e)) ≡ true) ⊎ (is_nulled t (operand s e) ≡ true) → points v ≡ true
      last (inl q) = first (or_parts (is_integer t && is_integer (value s e)) (is_pointer t && same t (value s e)) q)
      last (inr q) = nulled_points t e v q k

  -- a type that takes a value is no array
  pub converts_value : (t : Plain) (b : Operand) → converts t b ≡ true → value_type t ≡ t
  converts_value (Array t n) b h = absurd (true≢false (sym h))
  converts_value Char b h = refl
  converts_value Int b h = refl
  converts_value Unsigned b h = refl
  converts_value Void b h = refl
  converts_value (Pointer t) b h = refl
  converts_value (Struct n) b h = refl

  module _ (a b : Typed) (o q : Option Value) where
    abbrev A : Bool
    A = is_integer (value s a) && is_integer (value s b)

    abbrev B : Bool
    B = is_pointer (value s a) && same (value s a) (value s b)

    abbrev C : Bool
    C = is_nulled (value s a) (operand s b)

    abbrev D : Bool
    D = is_nulled (value s b) (operand s a)

    -- two values that are compared: both of integers, or pointers
    abbrev Compared : Type 0
    Compared = ((target_of (type_of a) ≡ None) × (target_of (type_of b) ≡ None)) ⊎ ((holds points o ≡ true) × (holds points q ≡ true))

    pub equal_points : (r : Plain) → equality_type (operand s a) (operand s b) ≡ Some r → Held (Claim a) o → Held (Claim b) q → Compared
    equal_points r e h k = last (or_parts ((A || B) || C) D (only_is (((A || B) || C) || D) Int r e).0)
      where
        first : (A ≡ true) ⊎ (B ≡ true) → Compared
        first (inl g) = let i = and_parts (is_integer (value s a)) (is_integer (value s b)) g in inl (target_none (type_of a) i.0, target_none (type_of b) i.1)
        first (inr g) =
            let i = and_parts (is_pointer (value s a)) (same (value s a) (value s b)) g in
            inr (holds_all points o (λ v e. (h v e).0 i.0), holds_all points q (λ v e. (k v e).0 (same_pointer (value s a) (value s b) i.1 i.0)))

        middle : (A || B ≡ true) ⊎ (C ≡ true) → Compared
        middle (inl g) = first (or_parts A B g)
        middle (inr g) =
            let i = and_parts (is_pointer (value s a)) (is_integer (value s b) && is_null s.defs b) g in
            inr (holds_all points o (λ v e. (h v e).0 i.0), holds_all points q (λ v e. nulled_points (value s a) b v g (k v e)))

        last : ((A || B) || C ≡ true) ⊎ (D ≡ true) → Compared
        last (inl g) = middle (or_parts (A || B) C g)
        last (inr g) =
            let i = and_parts (is_pointer (value s b)) (is_integer (value s a) && is_null s.defs a) g in
            inr (holds_all points o (λ v e. nulled_points (value s b) a v g (h v e)), holds_all points q (λ v e. (k v e).0 i.0))

    -- the values of a choice that is a pointer
    abbrev Branches : Type 0
    Branches = (Held (Claim a) o → Held (λ v. points v ≡ true) o) × (Held (Claim b) q → Held (λ v. points v ≡ true) q)

    pub branch_points : (c : Plain) (r : Plain) → choice_type c (operand s a) (operand s b) ≡ Some r → is_pointer r ≡ true → Branches
    branch_points c r e h = by (is_scalar c) e
      where
        pointers : (B ≡ true) ⊎ (C ≡ true) → Branches
        pointers (inl g) =
            let i = and_parts (is_pointer (value s a)) (same (value s a) (value s b)) g in
            (λ w v z. (w v z).0 i.0, λ w v z. (w v z).0 (same_pointer (value s a) (value s b) i.1 i.0))
        pointers (inr g) =
            let i = and_parts (is_pointer (value s a)) (is_integer (value s b) && is_null s.defs b) g in
            (λ w v z. (w v z).0 i.0, λ w v z. nulled_points (value s a) b v g (w v z))

        third : (D ≡ true) × (value s b ≡ r) → Branches
        third g = let i = and_parts (is_pointer (value s b)) (is_integer (value s a) && is_null s.defs a) g.0 in (λ w v z. nulled_points (value s b) a v g.0 (w v z), λ w v z. (w v z).0 i.0)

        second : ((B || C ≡ true) × (value s a ≡ r)) ⊎ (only D (value s b) ≡ Some r) → Branches
        second (inl g) = pointers (or_parts B C g.0)
        second (inr g) = third (only_is D (value s b) r g)

        first : ((A ≡ true) × (common (value s a) (value s b) ≡ r)) ⊎ ((if B || C then Some (value s a) else only D (value s b)) ≡ Some r) → Branches
        first (inl g) = absurd (no_both (common (value s a) (value s b)) (common_integer (value s a) (value s b)) (subst (λ z. is_pointer z ≡ true) (sym g.1) h))
        first (inr g) = second (if_is (B || C) (value s a) r (only D (value s b)) g)

        by : (x : Bool) → (if x then branches_type (operand s a) (operand s b) else None) ≡ Some r → Branches
        by true e = first (if_is A (common (value s a) (value s b)) r (if B || C then Some (value s a) else only D (value s b)) e)
        by false e = no_none r e

    -- such a choice is no array
    pub choice_value : (c : Plain) (r : Plain) → choice_type c (operand s a) (operand s b) ≡ Some r → value_type r ≡ r
    choice_value c r e = by (is_scalar c) e
      where
        of_value : (t : Plain) → value_type t ≡ r → value_type r ≡ r
        of_value t i = subst (λ z. value_type z ≡ z) i (value_twice t)

        second : ((B || C ≡ true) × (value s a ≡ r)) ⊎ (only D (value s b) ≡ Some r) → value_type r ≡ r
        second (inl g) = of_value (plain (type_of a)) g.1
        second (inr g) = of_value (plain (type_of b)) (only_is D (value s b) r g).1

        first : ((A ≡ true) × (common (value s a) (value s b) ≡ r)) ⊎ ((if B || C then Some (value s a) else only D (value s b)) ≡ Some r) → value_type r ≡ r
        first (inl g) = subst (λ z. value_type z ≡ z) g.1 (integer_same (common (value s a) (value s b)) (common_integer (value s a) (value s b)))
        first (inr g) = second (if_is (B || C) (value s a) r (only D (value s b)) g)

        by : (x : Bool) → (if x then branches_type (operand s a) (operand s b) else None) ≡ Some r → value_type r ≡ r
        by true e = first (if_is A (common (value s a) (value s b)) r (if B || C then Some (value s a) else only D (value s b)) e)
        by false e = no_none r e

    -- of two integers it is an `int` or `unsigned`
    pub choice_common : (c : Plain) (r : Plain) → is_integer (value s a) ≡ true → is_integer (value s b) ≡ true → choice_type c (operand s a) (operand s b) ≡ Some r → common (value s a) (value s b) ≡ r
    choice_common c r h k e = by (is_scalar c) e
      where
        there : (x : Bool) (rest : Option Plain) → x ≡ true → (if x then Some (common (value s a) (value s b)) else rest) ≡ Some r → common (value s a) (value s b) ≡ r
        there true rest x e = some_same (common (value s a) (value s b)) r e
        there false rest x e = absurd (true≢false (sym x))

        by : (x : Bool) → (if x then branches_type (operand s a) (operand s b) else None) ≡ Some r → common (value s a) (value s b) ≡ r
        by true e = there A (if B || C then Some (value s a) else only D (value s b)) (ap (λ z. z && is_integer (value s b)) h ∙ k) e
        by false e = no_none r e

  -- ---- a constant expression is an integer

  integer_or : (t r : Plain) (b : Bool) → only b t ≡ Some r → is_integer t ≡ true → is_integer r ≡ true
  integer_or t r b e h = subst (λ z. is_integer z ≡ true) (only_is b t r e).1 h

  pub integer_constant : (t : Plain) → is_constant_type t ≡ true → is_integer t ≡ true
  integer_constant Int h = refl
  integer_constant Unsigned h = refl
  integer_constant _ h = absurd (true≢false (sym h))

  pub integer_unary : (op : UnaryOp) (t r : Plain) → unary_type op t ≡ Some r → is_integer r ≡ true
  integer_unary sign.Not t r e = integer_or Int r _ e refl
  integer_unary sign.Plus t r e = integer_or (promoted t) r _ e (promoted_plain t)
  integer_unary sign.Minus t r e = integer_or (promoted t) r _ e (promoted_plain t)
  integer_unary sign.Complement t r e = integer_or (promoted t) r _ e (promoted_plain t)

  integer_arithmetic : (u t r : Plain) → arithmetic_type u t ≡ Some r → is_integer r ≡ true
  integer_arithmetic u t r e = integer_or (common u t) r _ e (common_integer u t)

  no_movable : (t : Plain) → is_integer t ≡ true → is_movable s.defs t ≡ false
  no_movable (Pointer t) h = absurd (true≢false (sym h))
  no_movable _ h = refl

  if_false : (b : Bool) (x y r : Option Plain) → b ≡ false → (if b then x else y) ≡ r → y ≡ r
  if_false true x y r h e = absurd (true≢false h)
  if_false false x y r h e = e

  and_false : (a b : Bool) → a ≡ false → a && b ≡ false
  and_false a b h = ap (λ z. z && b) h

  and_last : (a b : Bool) → b ≡ false → a && b ≡ false
  and_last true b h = h
  and_last false b h = refl

  integer_sum : (u t r : Plain) → is_integer u ≡ true → is_integer t ≡ true → sum_type s.defs u t ≡ Some r → is_integer r ≡ true
  integer_sum u t r h k e =
      integer_arithmetic u t r (if_false (is_integer u && is_movable s.defs t) (Some t) (arithmetic_type u t) (Some r) (and_last (is_integer u) (is_movable s.defs t) (no_movable t k))
      (if_false (is_movable s.defs u && is_integer t) (Some u) _ (Some r) (and_false (is_movable s.defs u) (is_integer t) (no_movable u h)) e))

  integer_difference : (u t r : Plain) → is_integer u ≡ true → is_integer t ≡ true → difference_type s.defs u t ≡ Some r → is_integer r ≡ true
  integer_difference u t r h k e =
      integer_arithmetic u t r (if_false (is_movable s.defs u && same u t) (Some Int) (arithmetic_type u t) (Some r) (and_false (is_movable s.defs u) (same u t) (no_movable u h))
      (if_false (is_movable s.defs u && is_integer t) (Some u) _ (Some r) (and_false (is_movable s.defs u) (is_integer t) (no_movable u h)) e))

  integer_binary : (op : BinaryOp) (a b : Typed) (r : Plain) → is_integer (value s a) ≡ true → is_integer (value s b) ≡ true → binary_type s.defs op (operand s a) (operand s b) ≡ Some r → is_integer r ≡ true
  integer_binary Equal a b r h k e = integer_or Int r _ e refl
  integer_binary Unequal a b r h k e = integer_or Int r _ e refl
  integer_binary Less a b r h k e = integer_or Int r _ e refl
  integer_binary Greater a b r h k e = integer_or Int r _ e refl
  integer_binary LessEqual a b r h k e = integer_or Int r _ e refl
  integer_binary GreaterEqual a b r h k e = integer_or Int r _ e refl
  integer_binary ShiftLeft a b r h k e = integer_or (promoted (value s a)) r _ e (promoted_plain (value s a))
  integer_binary ShiftRight a b r h k e = integer_or (promoted (value s a)) r _ e (promoted_plain (value s a))
  integer_binary Add a b r h k e = integer_sum (value s a) (value s b) r h k e
  integer_binary Subtract a b r h k e = integer_difference (value s a) (value s b) r h k e
  integer_binary BitOr a b r h k e = integer_arithmetic (value s a) (value s b) r e
  integer_binary BitXor a b r h k e = integer_arithmetic (value s a) (value s b) r e
  integer_binary BitAnd a b r h k e = integer_arithmetic (value s a) (value s b) r e
  integer_binary Multiply a b r h k e = integer_arithmetic (value s a) (value s b) r e
  integer_binary Divide a b r h k e = integer_arithmetic (value s a) (value s b) r e
  integer_binary Remainder a b r h k e = integer_arithmetic (value s a) (value s b) r e

  integer_choice : (c : Plain) (a b : Typed) (r : Plain) → is_integer (value s a) ≡ true → is_integer (value s b) ≡ true → choice_type c (operand s a) (operand s b) ≡ Some r → is_integer r ≡ true
  integer_choice c a b r h k e = subst (λ z. is_integer z ≡ true) (choice_common a b None None c r h k e) (common_integer (value s a) (value s b))

  pub constant_integer : (e : Typed) → IsTyped s e → is_constant (constant s.defs e) ≡ true → is_integer (plain (type_of e)) ≡ true
  constant_integer (Constant h n) t b = integer_constant (plain h.ctype) t.0
  constant_integer (SizeOf' h x a) t b = integer_or Unsigned (plain h.ctype) _ t.1 refl
  constant_integer (SizeOfType h u) t b = integer_or Unsigned (plain h.ctype) _ t.1 refl
  constant_integer (Cast' h x a) t b = (and_parts (is_integer (plain h.ctype)) (is_integer (value s a)) (only_is (is_integer (plain h.ctype) && is_integer (value s a)) (plain h.ctype) (plain h.ctype) t.1).0).0
  constant_integer (Unary' h op x a) t b = integer_unary op (value s a) (plain h.ctype) t.1
  constant_integer (Binary' h x a op y c) t b =
      let q = two_constants (operated op (works_unsigned op (operand_type a) (operand_type c))) (constant s.defs a) (constant s.defs c) b in
      integer_binary op a c (plain h.ctype) (integer_value (plain (type_of a)) (constant_integer a t.0 q.0)) (integer_value (plain (type_of c)) (constant_integer c t.1 q.1)) t.2
  constant_integer (And' h x a y c) t b = integer_or Int (plain h.ctype) _ t.2 refl
  constant_integer (Or' h x a y c) t b = integer_or Int (plain h.ctype) _ t.2 refl
  constant_integer (Choice' h x c y a z d) t b =
      let q = chosen_constants (constant s.defs c) (constant s.defs a) (constant s.defs d) b in
      integer_choice (value s c) a d (plain h.ctype) (integer_value (plain (type_of a)) (constant_integer a t.1 q.0)) (integer_value (plain (type_of d)) (constant_integer d t.2 q.1)) t.3
  constant_integer (Parens' h x a) t b = subst (λ z. is_integer z ≡ true) t.1 (constant_integer a t.0 b)
  constant_integer _ t b = absurd (true≢false (sym b))

  pub constant_none : (e : Typed) (n : ℕ) → IsTyped s e → constant s.defs e ≡ folds.Number n → target_of (type_of e) ≡ None
  constant_none e n t b = integer_none (type_of e) (constant_integer e t (ap is_constant b))
