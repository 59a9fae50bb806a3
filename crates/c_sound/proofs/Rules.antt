-- What the typing rules say of shapes.
use Rattle.std.proofs.Common.{◌≡◌, refl, sym, ◌∙◌, subst, ap, List, Bool, true, false, not, ◌&&◌, ◌||◌, Option, Some, None, true≢false, ◌⊎◌, inl, inr}
use Rattle.std.specs.Prelude.{if◌then◌else◌, option_and_then}
use Rattle.c_tree.specs.declared.types.CType.{CType}
use Rattle.c_tree.specs.declared.types.CType.TheVariants as ctype
use Rattle.c_tree.specs.declared.types.StructDef.{StructDef}
use Rattle.c_tree.specs.declared.typed.BinaryOp.{BinaryOp}
use Rattle.c_tree.specs.declared.typed.BinaryOp.TheVariants.{BitOr, BitXor, BitAnd, Equal, Unequal, Less, Greater, LessEqual, GreaterEqual, ShiftLeft, ShiftRight, Add, Subtract, Multiply, Divide, Remainder}
use Rattle.c_tree.specs.declared.typed.UnaryOp.{UnaryOp}
use Rattle.c_tree.specs.declared.typed.UnaryOp.TheVariants.{Plus, Minus, Complement, Not}
use Rattle.c_tree.specs.Types.{target_of, is_struct}
use Rattle.c_typing.specs.Plain.{Plain, Char, Int, Unsigned, Void, Pointer, Array, Struct, plain, same, is_integer, is_pointer, is_scalar, is_struct as is_a_struct, value_type, promoted, common}
use Rattle.c_typing.specs.Rules.{Operand, value_of, only, unary_type, followed, sum_type, difference_type, arithmetic_type, shift_type, order_type, equality_type, is_nulled, is_movable, is_move, is_compound, binary_type, converts, is_copied, compound_type, branches_type, choice_type}
use Rattle.c_sound.proofs.Operators.{addr, conv, takes, gives, takes_by, gives_by, takes_pointer, takes_pointers, takes_one, is_move as moves}
use Rattle.c_sound.proofs.Shaped.{ByCase}
use Rattle.c_sound.proofs.Begins.{and_parts}

-- ---- conditions

pub or_parts : (a b : Bool) → a || b ≡ true → (a ≡ true) ⊎ (b ≡ true)
or_parts true b h = inl refl
or_parts false b h = inr h

pub no_none : {A B : Type 0} (x : A) → ◌≡◌ {A = Option A} None (Some x) → B
no_none {A} {B} x e = absurd (subst (λ (q : Option A). elim q as (λ _. Type 0) [ None ↦ Unit {0} | Some y ↦ ⊥ ]) e tt)

some_or : {A : Type 0} → A → Option A → A
some_or d None = d
some_or d (Some x) = x

pub some_same : {A : Type 0} (x y : A) → ◌≡◌ {A = Option A} (Some x) (Some y) → x ≡ y
some_same {A} x y e = ap (λ (q : Option A). elim q as (λ _. A) [ None ↦ x | Some z ↦ z ]) e

pub only_some : (b : Bool) (t r : Plain) → only b t ≡ Some r → (b ≡ true) × (t ≡ r)
only_some true t r e = (refl, some_same t r e)
only_some false t r e = no_none r e

-- ---- shapes of plain types

abbrev pub ashape : Plain → Bool
ashape (Pointer t) = true
ashape (Array t n) = true
ashape _ = false

pub addr_plain : (t : CType) → addr t ≡ ashape (plain t)
addr_plain ctype.Char = refl
addr_plain ctype.Int = refl
addr_plain ctype.Unsigned = refl
addr_plain ctype.Void = refl
addr_plain (ctype.Pointer' b t) = refl
addr_plain (ctype.Array' b t n) = refl
addr_plain (ctype.Struct s) = refl

pub value_shape : (t : Plain) → ashape (value_type t) ≡ ashape t
value_shape (Array t n) = refl
value_shape Char = refl
value_shape Int = refl
value_shape Unsigned = refl
value_shape Void = refl
value_shape (Pointer t) = refl
value_shape (Struct s) = refl

pub integer_shape : (t : Plain) → is_integer t ≡ true → ashape t ≡ false
integer_shape Char h = refl
integer_shape Int h = refl
integer_shape Unsigned h = refl
integer_shape _ h = absurd (true≢false (sym h))

pub pointer_shape : (t : Plain) → is_pointer t ≡ true → ashape t ≡ true
pointer_shape (Pointer t) h = refl
pointer_shape _ h = absurd (true≢false (sym h))

pub movable_shape : (defs : List StructDef) (t : Plain) → is_movable defs t ≡ true → ashape t ≡ true
movable_shape defs (Pointer t) h = refl
movable_shape defs _ h = absurd (true≢false (sym h))

pub same_shape : (s t : Plain) → same s t ≡ true → ashape s ≡ ashape t
same_shape Char Char h = refl
same_shape Int Int h = refl
same_shape Unsigned Unsigned h = refl
same_shape Void Void h = refl
same_shape (Pointer s) (Pointer t) h = refl
same_shape (Array s m) (Array t n) h = refl
same_shape (Struct m) (Struct n) h = refl
same_shape _ _ h = absurd (true≢false (sym h))

pub promoted_shape : (t : Plain) → ashape (promoted t) ≡ false
promoted_shape Unsigned = refl
promoted_shape _ = refl

pub common_shape : (s t : Plain) → ashape (common s t) ≡ false
common_shape Unsigned t = refl
common_shape Char t = promoted_shape t
common_shape Int t = promoted_shape t
common_shape Void t = promoted_shape t
common_shape (Pointer s) t = promoted_shape t
common_shape (Array s n) t = promoted_shape t
common_shape (Struct s) t = promoted_shape t

-- the shape of a value that was converted to a type
abbrev pub pconv : Plain → Bool → Bool
pconv (Pointer t) s = true
pconv _ s = s

pub conv_plain : (t : CType) (s : Bool) → conv t s ≡ pconv (plain t) s
conv_plain ctype.Char s = refl
conv_plain ctype.Int s = refl
conv_plain ctype.Unsigned s = refl
conv_plain ctype.Void s = refl
conv_plain (ctype.Pointer' b t) s = refl
conv_plain (ctype.Array' b t n) s = refl
conv_plain (ctype.Struct n) s = refl

pub pconv_pointer : (t : Plain) (s : Bool) → is_pointer t ≡ true → pconv t s ≡ ashape t
pconv_pointer (Pointer t) s h = refl
pconv_pointer Char s h = absurd (true≢false (sym h))
pconv_pointer Int s h = absurd (true≢false (sym h))
pconv_pointer Unsigned s h = absurd (true≢false (sym h))
pconv_pointer Void s h = absurd (true≢false (sym h))
pconv_pointer (Array t n) s h = absurd (true≢false (sym h))
pconv_pointer (Struct n) s h = absurd (true≢false (sym h))

pub pconv_number : (t : Plain) (s : Bool) → ashape t ≡ false → s ≡ false → pconv t s ≡ ashape t
pconv_number Char s h e = e
pconv_number Int s h e = e
pconv_number Unsigned s h e = e
pconv_number Void s h e = e
pconv_number (Pointer t) s h e = refl
pconv_number (Array t n) s h e = absurd (true≢false h)
pconv_number (Struct n) s h e = e

pub pconv_address : (defs : List StructDef) (t : Plain) (s : Bool) → is_movable defs t ≡ true → pconv t s ≡ ashape t
pconv_address defs (Pointer t) s h = refl
pconv_address defs _ s h = absurd (true≢false (sym h))

-- ---- operators by shapes

abbrev pub takes_shape : BinaryOp → Bool → Bool → Bool
takes_shape op false false = true
takes_shape op true false = takes_pointer op true false
takes_shape op false true = takes_pointer op true false
takes_shape op true true = takes_pointers op

abbrev pub gives_shape : BinaryOp → Bool → Bool → Bool
gives_shape op false false = false
gives_shape op true false = moves op
gives_shape op false true = moves op
gives_shape op true true = false

-- whether a type points to something is seen from its shape
abbrev Targets : Option CType → Bool → Type 0
Targets None s = s ≡ false
Targets (Some t) s = s ≡ true

targets : (t : CType) → Targets (target_of t) (addr t)
targets ctype.Char = refl
targets ctype.Int = refl
targets ctype.Unsigned = refl
targets ctype.Void = refl
targets (ctype.Pointer' b t) = refl
targets (ctype.Array' b t n) = refl
targets (ctype.Struct s) = refl

by_targets : (op : BinaryOp) (s t : Option CType) (a b : Bool) → Targets s a → Targets t b → (takes_by op s t a b ≡ takes_shape op a b) × (gives_by op s t ≡ gives_shape op a b)
by_targets op None None false false h k = (refl, refl)
by_targets op (Some s) None true false h k = (refl, refl)
by_targets op None (Some t) false true h k = (refl, refl)
by_targets op (Some s) (Some t) true true h k = (refl, refl)
by_targets op None t true b h k = absurd (true≢false h)
by_targets op (Some s) t false b h k = absurd (true≢false (sym h))
by_targets op None None false true h k = absurd (true≢false k)
by_targets op None (Some t) false false h k = absurd (true≢false (sym k))
by_targets op (Some s) None true true h k = absurd (true≢false k)
by_targets op (Some s) (Some t) true false h k = absurd (true≢false (sym k))

pub takes_by_shape : (op : BinaryOp) (s t : CType) → takes op s t (addr s) (addr t) ≡ takes_shape op (addr s) (addr t)
takes_by_shape op s t = (by_targets op (target_of s) (target_of t) (addr s) (addr t) (targets s) (targets t)).0

pub gives_by_shape : (op : BinaryOp) (s t : CType) → gives op s t ≡ gives_shape op (addr s) (addr t)
gives_by_shape op s t = (by_targets op (target_of s) (target_of t) (addr s) (addr t) (targets s) (targets t)).1

-- ---- binary operators

-- an operator on operands of these shapes gives a value of this shape
abbrev pub Operates : BinaryOp → Bool → Bool → Bool → Type 0
Operates op a b r = (takes_shape op a b ≡ true) × (gives_shape op a b ≡ r)

operates_at : (op : BinaryOp) (a b r a' b' r' : Bool) → a ≡ a' → b ≡ b' → r ≡ r' → Operates op a' b' r' → Operates op a b r
operates_at op a b r a' b' r' e g k h = subst (λ x. Operates op x b r) (sym e) (subst (λ x. Operates op a' x r) (sym g) (subst (λ x. Operates op a' b' x) (sym k) h))

on_numbers : (op : BinaryOp) (s t r : Plain) → is_integer s ≡ true → is_integer t ≡ true → ashape r ≡ false → Operates op (ashape s) (ashape t) (ashape r)
on_numbers op s t r h k e = operates_at op (ashape s) (ashape t) (ashape r) false false false (integer_shape s h) (integer_shape t k) e (refl, refl)

arithmetic_operates : (op : BinaryOp) (s t r : Plain) → arithmetic_type s t ≡ Some r → Operates op (ashape s) (ashape t) (ashape r)
arithmetic_operates op s t r h =
    let q = only_some (is_integer s && is_integer t) (common s t) r h in
    let i = and_parts (is_integer s) (is_integer t) q.0 in
    on_numbers op s t r i.0 i.1 (ap ashape (sym q.1) ∙ common_shape s t)

shift_operates : (op : BinaryOp) (s t r : Plain) → shift_type s t ≡ Some r → Operates op (ashape s) (ashape t) (ashape r)
shift_operates op s t r h =
    let q = only_some (is_integer s && is_integer t) (promoted s) r h in
    let i = and_parts (is_integer s) (is_integer t) q.0 in
    on_numbers op s t r i.0 i.1 (ap ashape (sym q.1) ∙ promoted_shape s)

pub if_some : (b : Bool) (t r : Plain) (rest : Option Plain) → (if b then Some t else rest) ≡ Some r → ((b ≡ true) × (t ≡ r)) ⊎ (rest ≡ Some r)
if_some true t r rest h = inl (refl, some_same t r h)
if_some false t r rest h = inr h

sum_operates : (defs : List StructDef) (s t r : Plain) → sum_type defs s t ≡ Some r → Operates Add (ashape s) (ashape t) (ashape r)
sum_operates defs s t r h = by_first (if_some (is_movable defs s && is_integer t) s r _ h)
  where
    by_second : ((is_integer s && is_movable defs t ≡ true) × (t ≡ r)) ⊎ (arithmetic_type s t ≡ Some r) → Operates Add (ashape s) (ashape t) (ashape r)
    by_second (inl q) =
        let i = and_parts (is_integer s) (is_movable defs t) q.0 in
        operates_at Add (ashape s) (ashape t) (ashape r) false true true (integer_shape s i.0) (movable_shape defs t i.1) (ap ashape (sym q.1) ∙ movable_shape defs t i.1) (refl, refl)
    by_second (inr q) = arithmetic_operates Add s t r q

    by_first : ((is_movable defs s && is_integer t ≡ true) × (s ≡ r)) ⊎ ((if is_integer s && is_movable defs t then Some t else arithmetic_type s t) ≡ Some r) → Operates Add (ashape s) (ashape t) (ashape r)
    by_first (inl q) =
        let i = and_parts (is_movable defs s) (is_integer t) q.0 in
        operates_at Add (ashape s) (ashape t) (ashape r) true false true (movable_shape defs s i.0) (integer_shape t i.1) (ap ashape (sym q.1) ∙ movable_shape defs s i.0) (refl, refl)
    by_first (inr q) = by_second (if_some (is_integer s && is_movable defs t) t r _ q)

difference_operates : (defs : List StructDef) (s t r : Plain) → difference_type defs s t ≡ Some r → Operates Subtract (ashape s) (ashape t) (ashape r)
difference_operates defs s t r h = by_first (if_some (is_movable defs s && is_integer t) s r _ h)
  where
    by_second : ((is_movable defs s && same s t ≡ true) × (Int ≡ r)) ⊎ (arithmetic_type s t ≡ Some r) → Operates Subtract (ashape s) (ashape t) (ashape r)
    by_second (inl q) =
        let i = and_parts (is_movable defs s) (same s t) q.0 in
        operates_at Subtract (ashape s) (ashape t) (ashape r) true true false (movable_shape defs s i.0) (sym (same_shape s t i.1) ∙ movable_shape defs s i.0) (ap ashape (sym q.1)) (refl, refl)
    by_second (inr q) = arithmetic_operates Subtract s t r q

    by_first : ((is_movable defs s && is_integer t ≡ true) × (s ≡ r)) ⊎ ((if is_movable defs s && same s t then Some Int else arithmetic_type s t) ≡ Some r) → Operates Subtract (ashape s) (ashape t) (ashape r)
    by_first (inl q) =
        let i = and_parts (is_movable defs s) (is_integer t) q.0 in
        operates_at Subtract (ashape s) (ashape t) (ashape r) true false true (movable_shape defs s i.0) (integer_shape t i.1) (ap ashape (sym q.1) ∙ movable_shape defs s i.0) (refl, refl)
    by_first (inr q) = by_second (if_some (is_movable defs s && same s t) Int r _ q)

-- an operator that takes any two pointers
abbrev Compares : BinaryOp → Type 0
Compares op = Operates op true true false

order_operates : (op : BinaryOp) (s t r : Plain) → Compares op → order_type s t ≡ Some r → Operates op (ashape s) (ashape t) (ashape r)
order_operates op s t r c h =
    let q = only_some ((is_integer s && is_integer t) || (is_pointer s && same s t)) Int r h in
    by_kind q.1 (or_parts (is_integer s && is_integer t) (is_pointer s && same s t) q.0)
  where
    by_kind : Int ≡ r → (is_integer s && is_integer t ≡ true) ⊎ (is_pointer s && same s t ≡ true) → Operates op (ashape s) (ashape t) (ashape r)
    by_kind e (inl i) = let q = and_parts (is_integer s) (is_integer t) i in on_numbers op s t r q.0 q.1 (ap ashape (sym e))
    by_kind e (inr i) =
        let q = and_parts (is_pointer s) (same s t) i in
        operates_at op (ashape s) (ashape t) (ashape r) true true false (pointer_shape s q.0) (sym (same_shape s t q.1) ∙ pointer_shape s q.0) (ap ashape (sym e)) c

-- a comparison for equality takes any operands but two of which one alone is an address that the other is no null constant for
equal_any : (op : BinaryOp) (a b : Bool) → takes_shape op true true ≡ true → takes_pointer op true false ≡ true → moves op ≡ false → Operates op a b false
equal_any op false false h k m = (refl, refl)
equal_any op true false h k m = (k, m)
equal_any op false true h k m = (k, m)
equal_any op true true h k m = (h, refl)

equality_operates : (op : BinaryOp) (a b : Operand) (r : Plain) → takes_shape op true true ≡ true → takes_pointer op true false ≡ true → moves op ≡ false → equality_type a b ≡ Some r → Operates op (ashape (value_of a)) (ashape (value_of b)) (ashape r)
equality_operates op a b r h k m e =
    let q = only_some _ Int r e in
    subst (λ x. Operates op (ashape (value_of a)) (ashape (value_of b)) x) (ap ashape q.1) (equal_any op (ashape (value_of a)) (ashape (value_of b)) h k m)

pub binary_operates : (defs : List StructDef) (op : BinaryOp) (a b : Operand) (r : Plain) → binary_type defs op a b ≡ Some r → Operates op (ashape (value_of a)) (ashape (value_of b)) (ashape r)
binary_operates defs Equal a b r h = equality_operates Equal a b r refl refl refl h
binary_operates defs Unequal a b r h = equality_operates Unequal a b r refl refl refl h
binary_operates defs Less a b r h = order_operates Less (value_of a) (value_of b) r (refl, refl) h
binary_operates defs Greater a b r h = order_operates Greater (value_of a) (value_of b) r (refl, refl) h
binary_operates defs LessEqual a b r h = order_operates LessEqual (value_of a) (value_of b) r (refl, refl) h
binary_operates defs GreaterEqual a b r h = order_operates GreaterEqual (value_of a) (value_of b) r (refl, refl) h
binary_operates defs ShiftLeft a b r h = shift_operates ShiftLeft (value_of a) (value_of b) r h
binary_operates defs ShiftRight a b r h = shift_operates ShiftRight (value_of a) (value_of b) r h
binary_operates defs Add a b r h = sum_operates defs (value_of a) (value_of b) r h
binary_operates defs Subtract a b r h = difference_operates defs (value_of a) (value_of b) r h
binary_operates defs BitOr a b r h = arithmetic_operates BitOr (value_of a) (value_of b) r h
binary_operates defs BitXor a b r h = arithmetic_operates BitXor (value_of a) (value_of b) r h
binary_operates defs BitAnd a b r h = arithmetic_operates BitAnd (value_of a) (value_of b) r h
binary_operates defs Multiply a b r h = arithmetic_operates Multiply (value_of a) (value_of b) r h
binary_operates defs Divide a b r h = arithmetic_operates Divide (value_of a) (value_of b) r h
binary_operates defs Remainder a b r h = arithmetic_operates Remainder (value_of a) (value_of b) r h

pub followed_address : (defs : List StructDef) (t r : Plain) → followed defs t ≡ Some r → ashape t ≡ true
followed_address defs (Pointer t) r h = refl
followed_address defs Char r h = no_none r h
followed_address defs Int r h = no_none r h
followed_address defs Unsigned r h = no_none r h
followed_address defs Void r h = no_none r h
followed_address defs (Array t n) r h = no_none r h
followed_address defs (Struct s) r h = no_none r h

pub then_some : {A B : Type 0} (g : A → Option B) (o : Option A) (r : B) → option_and_then g o ≡ Some r → (x : A) × (o ≡ Some x) × (g x ≡ Some r)
then_some g None r h = no_none r h
then_some g (Some x) r h = (x, refl, h)

pub index_operates : (defs : List StructDef) (s t r : Plain) → option_and_then (followed defs) (sum_type defs s t) ≡ Some r → Operates Add (ashape s) (ashape t) true
index_operates defs s t r h =
    let q = then_some (followed defs) (sum_type defs s t) r h in
    subst (λ x. Operates Add (ashape s) (ashape t) x) (followed_address defs q.0 r q.2) (sum_operates defs s t q.0 q.1)

-- ---- unary operators

pub unary_takes : (op : UnaryOp) (t r : Plain) → unary_type op t ≡ Some r → (takes_one op (ashape t) ≡ true) × (ashape r ≡ false)
unary_takes Not t r h = (refl, ap ashape (sym (only_some _ Int r h).1))
unary_takes Plus t r h = let q = only_some (is_integer t) (promoted t) r h in (ap not (integer_shape t q.0), ap ashape (sym q.1) ∙ promoted_shape t)
unary_takes Minus t r h = let q = only_some (is_integer t) (promoted t) r h in (ap not (integer_shape t q.0), ap ashape (sym q.1) ∙ promoted_shape t)
unary_takes Complement t r h = let q = only_some (is_integer t) (promoted t) r h in (ap not (integer_shape t q.0), ap ashape (sym q.1) ∙ promoted_shape t)

-- ---- conversions by assignment

pub converts_shape : (t : Plain) (b : Operand) → converts t b ≡ true → pconv t (ashape (value_of b)) ≡ ashape t
converts_shape t b h = by_null (or_parts ((is_integer t && is_integer (value_of b)) || (is_pointer t && same t (value_of b))) (is_nulled t b) h)
  where
    by_kind : (is_integer t && is_integer (value_of b) ≡ true) ⊎ (is_pointer t && same t (value_of b) ≡ true) → pconv t (ashape (value_of b)) ≡ ashape t
    by_kind (inl q) = let i = and_parts (is_integer t) (is_integer (value_of b)) q in pconv_number t (ashape (value_of b)) (integer_shape t i.0) (integer_shape (value_of b) i.1)
    by_kind (inr q) = pconv_pointer t (ashape (value_of b)) (and_parts (is_pointer t) (same t (value_of b)) q).0

    by_null : ((is_integer t && is_integer (value_of b)) || (is_pointer t && same t (value_of b)) ≡ true) ⊎ (is_nulled t b ≡ true) → pconv t (ashape (value_of b)) ≡ ashape t
    by_null (inl q) = by_kind (or_parts (is_integer t && is_integer (value_of b)) (is_pointer t && same t (value_of b)) q)
    by_null (inr q) = pconv_pointer t (ashape (value_of b)) (and_parts (is_pointer t) (is_integer (value_of b) && b.null) q).0

pub converts_scalar : (t : Plain) (b : Operand) → converts t b ≡ true → is_scalar t ≡ true
converts_scalar Char b h = refl
converts_scalar Int b h = refl
converts_scalar Unsigned b h = refl
converts_scalar (Pointer t) b h = refl
converts_scalar Void b h = h
converts_scalar (Array t n) b h = h
converts_scalar (Struct s) b h = h

-- to an integer only an integer
pub converts_integer : (b : Operand) → converts Int b ≡ true → ashape (value_of b) ≡ false
converts_integer b h = converts_shape Int b h

-- ---- compound assignments

abbrev Changes : Plain → BinaryOp → Bool → Type 0
Changes t op s = (takes_shape op s false ≡ true) × (pconv t (gives_shape op s false) ≡ ashape t)

pub compound_updates : (defs : List StructDef) (op : BinaryOp) (a : Operand) (t : Plain) (r : Plain) → compound_type defs op a t ≡ Some r
    → (a.lvalue ≡ true) × (ashape t ≡ false) × (takes_shape op (ashape a.ctype) false ≡ true) × (pconv a.ctype (gives_shape op (ashape a.ctype) false) ≡ ashape a.ctype) × (a.ctype ≡ r)
compound_updates defs op a t r h =
    let q = only_some (a.lvalue && is_integer t && ((is_integer a.ctype && is_compound op) || (is_movable defs a.ctype && is_move op))) a.ctype r h in
    let first = and_parts (a.lvalue && is_integer t) ((is_integer a.ctype && is_compound op) || (is_movable defs a.ctype && is_move op)) q.0 in
    let second = and_parts a.lvalue (is_integer t) first.0 in
    let u = by_kind (or_parts (is_integer a.ctype && is_compound op) (is_movable defs a.ctype && is_move op) first.1) in
    (second.0, integer_shape t second.1, u.0, u.1, q.1)
  where
    moved : (op : BinaryOp) → is_movable defs a.ctype ≡ true → is_move op ≡ true → Changes a.ctype op true
    moved Add m h = (refl, pconv_address defs a.ctype true m)
    moved Subtract m h = (refl, pconv_address defs a.ctype true m)
    moved _ m h = absurd (true≢false (sym h))

    by_kind : (is_integer a.ctype && is_compound op ≡ true) ⊎ (is_movable defs a.ctype && is_move op ≡ true) → Changes a.ctype op (ashape a.ctype)
    by_kind (inl q) = let i = integer_shape a.ctype (and_parts (is_integer a.ctype) (is_compound op) q).0 in subst (Changes a.ctype op) (sym i) (refl, pconv_number a.ctype false i refl)
    by_kind (inr q) = let i = and_parts (is_movable defs a.ctype) (is_move op) q in subst (Changes a.ctype op) (sym (movable_shape defs a.ctype i.0)) (moved op i.0 i.1)

-- ---- choices

abbrev BothFit : Operand → Operand → Plain → Type 0
BothFit a b r = (pconv r (ashape (value_of a)) ≡ ashape r) × (pconv r (ashape (value_of b)) ≡ ashape r)

pub choice_shapes : (c : Plain) (a b : Operand) (r : Plain) → choice_type c a b ≡ Some r → (pconv r (ashape (value_of a)) ≡ ashape r) × (pconv r (ashape (value_of b)) ≡ ashape r)
choice_shapes c a b r h = by_scalar (is_scalar c) h
  where
    pointers : (t : Plain) → is_pointer t ≡ true → t ≡ r → BothFit a b r
    pointers t h e = let k = ap is_pointer (sym e) ∙ h in (pconv_pointer r _ k, pconv_pointer r _ k)

    second : (only (is_nulled (value_of b) a) (value_of b) ≡ Some r) → BothFit a b r
    second h = let q = only_some (is_nulled (value_of b) a) (value_of b) r h in pointers (value_of b) (and_parts (is_pointer (value_of b)) _ q.0).0 q.1

    pointer_there : (is_pointer (value_of a) && same (value_of a) (value_of b) ≡ true) ⊎ (is_nulled (value_of a) b ≡ true) → is_pointer (value_of a) ≡ true
    pointer_there (inl q) = (and_parts (is_pointer (value_of a)) _ q).0
    pointer_there (inr q) = (and_parts (is_pointer (value_of a)) _ q).0

    first : (((is_pointer (value_of a) && same (value_of a) (value_of b)) || is_nulled (value_of a) b ≡ true) × (value_of a ≡ r)) ⊎ (only (is_nulled (value_of b) a) (value_of b) ≡ Some r) → BothFit a b r
    first (inl q) = pointers (value_of a) (pointer_there (or_parts (is_pointer (value_of a) && same (value_of a) (value_of b)) (is_nulled (value_of a) b) q.0)) q.1
    first (inr q) = second q

    numbers : ((is_integer (value_of a) && is_integer (value_of b) ≡ true) × (common (value_of a) (value_of b) ≡ r)) ⊎ ((if (is_pointer (value_of a) && same (value_of a) (value_of b)) || is_nulled (value_of a) b then Some (value_of a) else only (is_nulled (value_of b) a) (value_of b)) ≡ Some r) → BothFit a b r
    numbers (inl q) =
        let i = and_parts (is_integer (value_of a)) (is_integer (value_of b)) q.0 in
        let e : ashape r ≡ false = ap ashape (sym q.1) ∙ common_shape (value_of a) (value_of b) in
        (pconv_number r _ e (integer_shape (value_of a) i.0), pconv_number r _ e (integer_shape (value_of b) i.1))
    numbers (inr q) = first (if_some ((is_pointer (value_of a) && same (value_of a) (value_of b)) || is_nulled (value_of a) b) (value_of a) r _ q)

    by_scalar : (s : Bool) → (if s then branches_type a b else None) ≡ Some r → BothFit a b r
    by_scalar true h = numbers (if_some (is_integer (value_of a) && is_integer (value_of b)) (common (value_of a) (value_of b)) r _ h)
    by_scalar false h = no_none r h

-- ---- assignments

no_struct : (t : Plain) (a b : Operand) → is_a_struct t ≡ false → a.ctype ≡ t → converts t b || is_copied a b ≡ true → pconv t (ashape (value_of b)) ≡ ashape t
no_struct t a b n e h = by_kind (or_parts (converts t b) (is_copied a b) h)
  where
    by_kind : (converts t b ≡ true) ⊎ (is_copied a b ≡ true) → pconv t (ashape (value_of b)) ≡ ashape t
    by_kind (inl q) = converts_shape t b q
    by_kind (inr q) = absurd (true≢false (sym (and_parts (is_a_struct a.ctype) (same a.ctype b.ctype) (and_parts (is_a_struct a.ctype && same a.ctype b.ctype) b.lvalue q).0).0 ∙ ap is_a_struct e ∙ n))

-- of structs two lvalues, and else a value that is converted
pub assigned_case : (t : CType) (a b : Operand) → a.ctype ≡ plain t → converts (plain t) b || is_copied a b ≡ true → ByCase (is_struct t) (b.lvalue ≡ true) (pconv (plain t) (ashape (value_of b)) ≡ ashape (plain t))
assigned_case ctype.Char a b e h = no_struct Char a b refl e h
assigned_case ctype.Int a b e h = no_struct Int a b refl e h
assigned_case ctype.Unsigned a b e h = no_struct Unsigned a b refl e h
assigned_case ctype.Void a b e h = no_struct Void a b refl e h
assigned_case (ctype.Pointer' x t) a b e h = no_struct (Pointer (plain t)) a b refl e h
assigned_case (ctype.Array' x t n) a b e h = no_struct (Array (plain t) n) a b refl e h
assigned_case (ctype.Struct s) a b e h = (and_parts (is_a_struct a.ctype && same a.ctype b.ctype) b.lvalue h).1
