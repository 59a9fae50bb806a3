-- Types, truths and numbers in the claims of expressions.
use Rattle.std.proofs.Common.{◌≡◌, refl, sym, ap, subst, ◌∙◌, arith, ℕ, zero, suc, ◌<◌, ◌^◌, Bool, true, false, not, ◌&&◌, ◌||◌, Option, Some, None, true≢false}
use Rattle.std.specs.Prelude.{◌==◌, if◌then◌else◌}
use Rattle.ldb_words.specs.Word.{bit_of}
use Rattle.c_tree.specs.declared.types.CType.{CType}
use Rattle.c_tree.specs.declared.types.CType.TheVariants as ctype
use Rattle.c_tree.specs.declared.rows.Program.{Program}
use Rattle.c_tree.specs.Types.{is_struct, is_array}
use Rattle.c_operators.specs.Arithmetic.{truth}
use Rattle.c_typing.specs.Plain.{Plain, Char, Int, Unsigned, Void, Pointer, Array, Struct, plain, is_integer, is_pointer, is_struct as is_a_struct, value_type, promoted, common}
use Rattle.c_typing.specs.declared.constant.Constant.{Constant}
use Rattle.c_typing.specs.declared.constant.Constant.TheVariants as folds
use Rattle.c_typing.specs.Values.{with_one, chosen, truth_in}
use Rattle.c_typing.specs.Rules.{Operand, followed, is_movable, converts}
use Rattle.c_store.specs.Store.{Value, Number}
use Rattle.slot_ir.specs.declared.code.Access.TheVariants as access
use Rattle.slot_ir.specs.Operators.{is_zero}
use Rattle.slot_gen.specs.Expressions.{access_of, is_scalar as is_scalar_type}
use Rattle.slot_formed.proofs.Lists.{no_none}
use Rattle.slot_formed.proofs.Constants.{same_number, one_number, part_by, chosen_number}
use Rattle.slot_formed.proofs.Evaluated.{Is, suc_is}
use Rattle.slot_formed.proofs.Claims.{no_both, integer_same}

-- ---- types

pub integer_no : (t : Plain) → is_integer t ≡ true → is_pointer (value_type t) ≡ true → ⊥
integer_no t h k = no_both t h (subst (λ z. is_pointer z ≡ true) (integer_same t h) k)

pub no_array_value : (t : CType) → is_array t ≡ false → value_type (plain t) ≡ plain t
no_array_value (ctype.Array' b t n) h = absurd (true≢false h)
no_array_value ctype.Char h = refl
no_array_value ctype.Int h = refl
no_array_value ctype.Unsigned h = refl
no_array_value ctype.Void h = refl
no_array_value (ctype.Pointer' b t) h = refl
no_array_value (ctype.Struct s) h = refl

pub register_value : (t : CType) (o : Option ℕ) (x : ℕ) → (if is_scalar_type t then o else None) ≡ Some x → value_type (plain t) ≡ plain t
register_value (ctype.Array' b t n) o x e = no_none x e
register_value ctype.Char o x e = refl
register_value ctype.Int o x e = refl
register_value ctype.Unsigned o x e = refl
register_value ctype.Void o x e = refl
register_value (ctype.Pointer' b t) o x e = refl
register_value (ctype.Struct s) o x e = refl

-- a type that is assigned to is no array
pub assigned_pointer : (t : Plain) (b : Operand) (x y : Bool) → converts t b || ((is_a_struct t && x) && y) ≡ true → is_pointer (value_type t) ≡ true → is_pointer t ≡ true
assigned_pointer (Array t n) b x y h k = absurd (true≢false (sym h))
assigned_pointer Char b x y h k = k
assigned_pointer Int b x y h k = k
assigned_pointer Unsigned b x y h k = k
assigned_pointer Void b x y h k = k
assigned_pointer (Pointer t) b x y h k = k
assigned_pointer (Struct n) b x y h k = k

pub struct_no : (t : CType) (b : Operand) → is_struct t ≡ true → converts (plain t) b ≡ true → ⊥
struct_no (ctype.Struct s) b h k = true≢false (sym k)
struct_no ctype.Char b h k = true≢false (sym h)
struct_no ctype.Int b h k = true≢false (sym h)
struct_no ctype.Unsigned b h k = true≢false (sym h)
struct_no ctype.Void b h k = true≢false (sym h)
struct_no (ctype.Pointer' x t) b h k = true≢false (sym h)
struct_no (ctype.Array' x t n) b h k = true≢false (sym h)

pub struct_pointer : (t : Plain) → is_a_struct t ≡ true → is_pointer t ≡ true → ⊥
struct_pointer (Struct n) h k = true≢false (sym k)
struct_pointer _ h k = true≢false (sym h)

pub followed_pointer : (p : Program) (t r : Plain) → followed p.defs t ≡ Some r → is_pointer t ≡ true
followed_pointer p (Pointer t) r e = refl
followed_pointer p Char r e = no_none r e
followed_pointer p Int r e = no_none r e
followed_pointer p Unsigned r e = no_none r e
followed_pointer p Void r e = no_none r e
followed_pointer p (Array t n) r e = no_none r e
followed_pointer p (Struct s) r e = no_none r e

pub movable_pointer : (p : Program) (t : Plain) → is_movable p.defs t ≡ true → is_pointer t ≡ true
movable_pointer p (Pointer t) h = refl
movable_pointer p _ h = absurd (true≢false (sym h))

pub pointer_value : (t : Plain) → is_pointer t ≡ true → is_pointer (value_type t) ≡ true
pointer_value (Pointer t) h = refl
pointer_value _ h = absurd (true≢false (sym h))

abbrev pub is_wide : Plain → Bool
is_wide Int = true
is_wide Unsigned = true
is_wide _ = false

pub promoted_wide : (t : Plain) → is_wide (promoted t) ≡ true
promoted_wide Unsigned = refl
promoted_wide _ = refl

pub common_wide : (s t : Plain) → is_wide (common s t) ≡ true
common_wide Unsigned t = refl
common_wide Char t = promoted_wide t
common_wide Int t = promoted_wide t
common_wide Void t = promoted_wide t
common_wide (Pointer s) t = promoted_wide t
common_wide (Array s n) t = promoted_wide t
common_wide (Struct s) t = promoted_wide t

pub wide_access : (t : CType) → is_wide (plain t) ≡ true → access_of t ≡ access.Word
wide_access ctype.Int h = refl
wide_access ctype.Unsigned h = refl
wide_access ctype.Char h = absurd (true≢false (sym h))
wide_access ctype.Void h = absurd (true≢false (sym h))
wide_access (ctype.Pointer' b t) h = absurd (true≢false (sym h))
wide_access (ctype.Array' b t n) h = absurd (true≢false (sym h))
wide_access (ctype.Struct s) h = absurd (true≢false (sym h))

-- ---- truths

pub truth_same : (m : ℕ) → bit_of (not (is_zero (Number m))) ≡ truth (if m == 0 then false else true)
truth_same zero = refl
truth_same (suc m) = ap (λ b. truth (if b then false else true)) (sym (suc_is m))

pub bit_small : (b : Bool) → bit_of b < 2 ^ 32
bit_small true = omega arith
bit_small false = omega arith

pub is_true_of : (y v : Value) (o : Constant) → Is y o → v ≡ Number (bit_of (not (is_zero y))) → Is v (with_one truth_in o)
is_true_of y v o h e n w =
    let q = one_number truth_in o n w in
    let i = h q.0 q.1 in
    let same : bit_of (not (is_zero y)) ≡ n = ap (λ z. bit_of (not (is_zero z))) i.0 ∙ truth_same q.0 ∙ same_number (truth (if q.0 == 0 then false else true)) n q.2 in
    (e ∙ ap Number same, subst (λ z. z < 2 ^ 32) same (bit_small (not (is_zero y))))

-- a number that was tested
pub chosen_is : (x v : Value) (z : Bool) (o a b : Constant) → Is x o → is_zero x ≡ z → Is v (if z then b else a) → Is v (chosen o a b)
chosen_is x v z o a b h k i n e =
    let q = chosen_number o a b n e in
    by z q.0 (ap is_zero (sym (h q.0 q.1).0) ∙ k) i q.2
  where
    by : (z : Bool) (m : ℕ) → is_zero (Number m) ≡ z → Is v (if z then b else a) → part_by m a b ≡ folds.Number n → (v ≡ Number n) × (n < 2 ^ 32)
    by true zero t i e = i n e
    by true (suc m) t i e = absurd (true≢false (sym t))
    by false zero t i e = absurd (true≢false t)
    by false (suc m) t i e = i n e

pub number_is : (v : Value) (m : ℕ) → v ≡ Number m → m < 2 ^ 32 → Is v (folds.Number m)
number_is v m e h n w = let s = same_number m n w in (e ∙ ap Number s, subst (λ z. z < 2 ^ 32) s h)
