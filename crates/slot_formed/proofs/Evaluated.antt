-- What the operators of slot code give on the numbers of a constant expression, which are words.
use Rattle.std.proofs.Common.{◌≡◌, refl, sym, ap, subst, ◌∙◌, ℕ, zero, suc, ◌-◌, ◌/◌, ◌%◌, ◌^◌, ◌<◌, ◌≤◌, nat_lt, Bool, true, false, true≢false, ℤ, pos, negsuc, neg_ℤ, nat_abs, to_z, w8, w32, lit<, arith}
use Rattle.std.specs.Prelude.{Result, Ok, Err, ◌==◌, not, ◌+ℤ◌, ◌-ℤ◌, ◌*ℤ◌, bit_xor, int_div, int_rem, int_lt, int_le, nat_le, if◌then◌else◌}
use Rattle.std.specs.Int.{int_shr}
use Rattle.std.specs.Int.RustNames.{unsigned_abs}
use Rattle.std.specs.Int.Bits.{and_lt, xor_add_and}
use Rattle.std.proofs.lemmas.Nat.{or_lt, xor_lt, and_mask, and_comm}
use Rattle.std.proofs.Math.Nat.{div-le_self, mod-le}
use Rattle.std.proofs.Math.IntN.{+ℤ_idl}
use Rattle.ldb_words.specs.Word.{signed, word_of_signed}
use Rattle.ldb_words.specs.Arithmetic.{is_int, checked, divides, checked_quotient, shifted}
use Rattle.ldb_words.specs.declared.kinds.Undef.{Undef}
use Rattle.ldb_words.specs.declared.kinds.Undef.TheVariants.{Overflow, Division, Shift}
use Rattle.ldb_words.specs.declared.kinds.Way.TheVariants.{Left, RightSigned, RightUnsigned}
use Rattle.c_tree.specs.declared.types.CType.{CType}
use Rattle.c_tree.specs.declared.types.CType.TheVariants as ctype
use Rattle.c_tree.specs.declared.typed.BinaryOp.{BinaryOp}
use Rattle.c_tree.specs.declared.typed.BinaryOp.TheVariants.{BitOr, BitXor, BitAnd, Equal, Unequal, Less, Greater, LessEqual, GreaterEqual, ShiftLeft, ShiftRight, Add, Subtract, Multiply, Divide, Remainder}
use Rattle.c_tree.specs.declared.typed.UnaryOp.{UnaryOp}
use Rattle.c_tree.specs.declared.typed.UnaryOp.TheVariants as sign
use Rattle.c_tree.specs.Types.{is_unsigned}
use Rattle.c_operators.specs.Bits.{minus_one, low_byte, patterned, subtract, signed_negate}
use Rattle.c_operators.specs.Arithmetic.{truth, on_ints, on_unsigned, operating_type}
use Rattle.c_typing.specs.Plain.{plain, value_type, is_integer}
use Rattle.c_typing.specs.declared.constant.Constant.{Constant}
use Rattle.c_typing.specs.declared.constant.Constant.TheVariants as folds
use Rattle.c_typing.specs.Values as values
use Rattle.c_typing.specs.Values.{defined, operated, with_one, turned, converted, combined, works_unsigned}
use Rattle.runs.specs.Runs.{Why}
use Rattle.c_store.specs.Store.{Value, Number, World, is_stale}
use Rattle.slot_ir.specs.Operators.{on_words, binary, unary, because, extended}
use Rattle.slot_gen.specs.Expressions.{word_op, unary_op, access_of}
use Rattle.slot_formed.proofs.Constants.{no_variable, same_number, defined_ok, one_number, two_numbers, works_same}

-- ---- words

abbrev IsSmall : ℤ → Type 0
IsSmall (pos n) = n < 2 ^ 32
IsSmall (negsuc n) = Unit {0}

signed_fits : (z : ℤ) → IsSmall z → word_of_signed z < 2 ^ 32
signed_fits (pos n) h = h
signed_fits (negsuc n) h = omega arith

small_by : (z : ℤ) → unsigned_abs z ≤ 2 ^ 31 → IsSmall z
small_by (pos n) h = omega (arith, h)
small_by (negsuc n) h = tt

abs_small : (n : ℕ) → n < 2 ^ 32 → unsigned_abs (to_z w32 n) ≤ 2 ^ 31
abs_small n h = grind arith

abs_byte : (n : ℕ) → n < 2 ^ 8 → unsigned_abs (to_z w8 n) ≤ 2 ^ 31
abs_byte n h = grind arith

pub byte_small : (n : ℕ) → low_byte n < 2 ^ 32
byte_small n = let m : n % 2 ^ 8 < 2 ^ 8 = omega arith in signed_fits (to_z w8 (n % 2 ^ 8)) (small_by (to_z w8 (n % 2 ^ 8)) (abs_byte (n % 2 ^ 8) m))

small_shift : (z : ℤ) (k : ℕ) → unsigned_abs z ≤ 2 ^ 31 → IsSmall (int_shr z k)
small_shift (pos n) k h = omega (arith, div-le_self n (2 ^ k))
small_shift (negsuc n) k h = tt

small_neg : (n : ℕ) → n < 2 ^ 32 → IsSmall (neg_ℤ (pos n))
small_neg zero h = h
small_neg (suc n) h = tt

small_quotient : (a b : ℤ) → unsigned_abs a ≤ 2 ^ 31 → IsSmall (int_div a b)
small_quotient (pos a) (pos b) h = omega (arith, div-le_self a b)
small_quotient (pos a) (negsuc b) h = small_neg (a / suc b) (omega (arith, div-le_self a (suc b)))
small_quotient (negsuc a) (pos b) h = small_neg (suc a / b) (omega (arith, div-le_self (suc a) b))
small_quotient (negsuc a) (negsuc b) h = omega (arith, div-le_self (suc a) (suc b))

small_remainder : (a b : ℤ) → unsigned_abs a ≤ 2 ^ 31 → IsSmall (int_rem a b)
small_remainder (pos a) b h = omega (arith, mod-le a (nat_abs b))
small_remainder (negsuc a) b h = small_neg (suc a % nat_abs b) (omega (arith, mod-le (suc a) (nat_abs b)))

abbrev Small : Result ℕ Undef → Type 0
Small (Ok n) = n < 2 ^ 32
Small (Err r) = Unit {0}

int_small : (z : ℤ) → is_int z ≡ true → IsSmall z
int_small (pos n) e = let h : n < 2 ^ 31 = grind arith in omega (arith, h)
int_small (negsuc n) e = tt

checked_small : (z : ℤ) → Small (patterned (checked z))
checked_small z = by (is_int z) refl
  where
    by : (b : Bool) → is_int z ≡ b → Small (patterned (if b then Ok z else Err Overflow))
    by true e = signed_fits z (int_small z e)
    by false e = tt

quotient_small : (a b q : ℤ) → IsSmall q → Small (patterned (checked_quotient a b q))
quotient_small a b q h = by (divides a b)
  where
    by : (o : Bool) → Small (patterned (if o then Ok q else Err Division))
    by true = signed_fits q h
    by false = tt

shift_small : (n : ℕ) (b : Bool) → n < 2 ^ 32 → Small (if b then Ok n else Err Shift)
shift_small n true h = h
shift_small n false h = tt

unless_small : (n : ℕ) (b : Bool) → n < 2 ^ 32 → Small (if b then Err Division else Ok n)
unless_small n true h = tt
unless_small n false h = h

truth_small : (b : Bool) → truth b < 2 ^ 32
truth_small true = lit< tt
truth_small false = lit< tt

words_small : (op : BinaryOp) (u : Bool) (m n : ℕ) → m < 2 ^ 32 → n < 2 ^ 32 → Small (if u then on_unsigned op m n else on_ints op m n)
words_small BitOr true m n h k = or_lt 32 m n h k
words_small BitOr false m n h k = or_lt 32 m n h k
words_small BitXor true m n h k = xor_lt 32 m n h k
words_small BitXor false m n h k = xor_lt 32 m n h k
words_small BitAnd true m n h k = and_lt 32 m n h k
words_small BitAnd false m n h k = and_lt 32 m n h k
words_small Equal true m n h k = truth_small (m == n)
words_small Equal false m n h k = truth_small (m == n)
words_small Unequal true m n h k = truth_small (not (m == n))
words_small Unequal false m n h k = truth_small (not (m == n))
words_small Less true m n h k = truth_small (nat_lt m n)
words_small Less false m n h k = truth_small (int_lt (signed m) (signed n))
words_small Greater true m n h k = truth_small (nat_lt n m)
words_small Greater false m n h k = truth_small (int_lt (signed n) (signed m))
words_small LessEqual true m n h k = truth_small (nat_le m n)
words_small LessEqual false m n h k = truth_small (int_le (signed m) (signed n))
words_small GreaterEqual true m n h k = truth_small (nat_le n m)
words_small GreaterEqual false m n h k = truth_small (int_le (signed n) (signed m))
words_small ShiftLeft true m n h k = shift_small (shifted m n Left) (nat_lt n 32) (omega arith)
words_small ShiftLeft false m n h k = shift_small (shifted m n Left) (nat_lt n 32) (omega arith)
words_small ShiftRight true m n h k = shift_small (shifted m n RightUnsigned) (nat_lt n 32) (omega (arith, div-le_self m (2 ^ n)))
words_small ShiftRight false m n h k = shift_small (shifted m n RightSigned) (nat_lt n 32) (signed_fits (int_shr (to_z w32 m) n) (small_shift (to_z w32 m) n (abs_small m h)))
words_small Add true m n h k = omega arith
words_small Add false m n h k = checked_small (signed m +ℤ signed n)
words_small Subtract true m n h k = omega arith
words_small Subtract false m n h k = checked_small (signed m -ℤ signed n)
words_small Multiply true m n h k = omega arith
words_small Multiply false m n h k = checked_small (signed m *ℤ signed n)
words_small Divide true m n h k = unless_small (m / n) (n == 0) (omega (arith, div-le_self m n))
words_small Divide false m n h k = quotient_small (signed m) (signed n) (int_div (signed m) (signed n)) (small_quotient (to_z w32 m) (signed n) (abs_small m h))
words_small Remainder true m n h k = unless_small (m % n) (n == 0) (omega (arith, mod-le m n))
words_small Remainder false m n h k = quotient_small (signed m) (signed n) (int_rem (signed m) (signed n)) (small_remainder (to_z w32 m) (signed n) (abs_small m h))

pub suc_is : (n : ℕ) → suc n == 0 ≡ false
suc_is n = grind arith

-- ---- operators

words_same : (op : BinaryOp) (u : Bool) (m n : ℕ) → (if u then on_unsigned op m n else on_ints op m n) ≡ on_words (word_op op u) m n
words_same BitOr true m n = refl
words_same BitOr false m n = refl
words_same BitXor true m n = refl
words_same BitXor false m n = refl
words_same BitAnd true m n = refl
words_same BitAnd false m n = refl
words_same Equal true m n = refl
words_same Equal false m n = refl
words_same Unequal true m n = refl
words_same Unequal false m n = refl
words_same Less true m n = refl
words_same Less false m n = refl
words_same Greater true m n = refl
words_same Greater false m n = refl
words_same LessEqual true m n = refl
words_same LessEqual false m n = refl
words_same GreaterEqual true m n = refl
words_same GreaterEqual false m n = refl
words_same ShiftLeft true m n = refl
words_same ShiftLeft false m n = refl
words_same ShiftRight true m n = refl
words_same ShiftRight false m n = refl
words_same Add true m n = refl
words_same Add false m n = refl
words_same Subtract true m n = refl
words_same Subtract false m n = refl
words_same Multiply true m n = refl
words_same Multiply false m n = refl
words_same Divide true m n = refl
words_same Divide false m n = refl
words_same Remainder true m n = refl
words_same Remainder false m n = refl

ok_same : {A : Type 0} (x y : A) → ◌≡◌ {A = Result A Why} (Ok x) (Ok y) → x ≡ y
ok_same x y e = cc

-- a value is the number of this constant, where it has one
abbrev pub Is : Value → Constant → Type 0
Is v c = (n : ℕ) → c ≡ folds.Number n → (v ≡ Number n) × (n < 2 ^ 32)

pub variable_is : (v : Value) (c : Constant) → c ≡ folds.Variable → Is v c
variable_is v c h n e = no_variable n (sym h ∙ e)

pub binary_is : (op : BinaryOp) (s t : CType) (x y v : Value) (o q : Constant) → Is x o → Is y q → binary (word_op op (is_unsigned (operating_type op s t))) x y ≡ Ok v
    → Is v (combined op (value_type (plain s)) (value_type (plain t)) o q)
unfolding binary
binary_is op s t x y v o q h k e n w =
    let a = two_numbers (operated op (works_unsigned op (value_type (plain s)) (value_type (plain t)))) o q n w in
    let u = is_unsigned (operating_type op s t) in
    let done = defined_ok (if u then on_unsigned op a.0 a.1 else on_ints op a.0 a.1) n (ap (λ z. operated op z a.0 a.1) (sym (works_same op s t)) ∙ a.4) in
    let x_is = h a.0 a.2 in
    let y_is = k a.1 a.3 in
    let value : binary (word_op op u) (Number a.0) (Number a.1) ≡ Ok (Number n) = ap because (sym (words_same op u a.0 a.1) ∙ done) in
    let moved : binary (word_op op u) (Number a.0) (Number a.1) ≡ Ok v = subst (λ z. binary (word_op op u) z (Number a.1) ≡ Ok v) x_is.0 (subst (λ z. binary (word_op op u) x z ≡ Ok v) y_is.0 e) in
    (ok_same v (Number n) (sym moved ∙ value), subst Small done (words_small op u a.0 a.1 x_is.1 y_is.1))

-- ---- one operand

complement : (n : ℕ) → n < 2 ^ 32 → minus_one - n ≡ bit_xor minus_one n
complement n h = omega (arith, xor_add_and (2 ^ 32 - 1) n, and_comm (2 ^ 32 - 1) n, and_mask n 32)

minus_zero : (z : ℤ) → pos 0 -ℤ z ≡ neg_ℤ z
minus_zero z = +ℤ_idl (neg_ℤ z)

negated : (n r : ℕ) → operated Subtract false 0 n ≡ folds.Number r → because (signed_negate n) ≡ Ok (Number r)
negated n r e = ap (λ z. because (patterned (checked z))) (sym (minus_zero (signed n))) ∙ ap because (defined_ok (on_ints Subtract 0 n) r e)

negated_small : (n r : ℕ) → n < 2 ^ 32 → operated Subtract false 0 n ≡ folds.Number r → r < 2 ^ 32
negated_small n r h e = subst Small (defined_ok (on_ints Subtract 0 n) r e) (words_small Subtract false 0 n (lit< tt) h)

unary_gives : (w : World) (op : UnaryOp) (t : CType) (n r : ℕ) → n < 2 ^ 32 → turned op (values.is_unsigned (value_type (plain t))) n ≡ folds.Number r → (unary w (unary_op op t) (Number n) ≡ Ok (Number r)) × (r < 2 ^ 32)
unfolding unary is_stale
unary_gives w sign.Plus t n r h e = let s : n ≡ r = same_number n r e in (ap (λ z. Ok (Number z)) s, subst (λ z. z < 2 ^ 32) s h)
unary_gives w sign.Complement t n r h e =
    let s : minus_one - n ≡ r = complement n h ∙ same_number (bit_xor minus_one n) r e in
    (ap (λ z. Ok (Number z)) s, omega (arith, s))
unary_gives w sign.Not t n r h e = let s : truth (n == 0) ≡ r = same_number (truth (n == 0)) r e in (zero_of n r s, subst (λ z. z < 2 ^ 32) s (truth_small (n == 0)))
  where
    zero_of : (n r : ℕ) → truth (n == 0) ≡ r → unary w (unary_op sign.Not t) (Number n) ≡ Ok (Number r)
    zero_of zero r s = ap (λ z. Ok (Number z)) s
    zero_of (suc n) r s = ap (λ z. Ok (Number z)) (sym (ap truth (suc_is n)) ∙ s)
unary_gives w sign.Minus ctype.Unsigned n r h e = let s = same_number (subtract 0 n) r e in (ap (λ z. Ok (Number z)) s, subst (λ z. z < 2 ^ 32) s (words_small Subtract true 0 n (lit< tt) h))
unary_gives w sign.Minus ctype.Char n r h e = (negated n r e, negated_small n r h e)
unary_gives w sign.Minus ctype.Int n r h e = (negated n r e, negated_small n r h e)
unary_gives w sign.Minus ctype.Void n r h e = (negated n r e, negated_small n r h e)
unary_gives w sign.Minus (ctype.Pointer' b u) n r h e = (negated n r e, negated_small n r h e)
unary_gives w sign.Minus (ctype.Array' b u m) n r h e = (negated n r e, negated_small n r h e)
unary_gives w sign.Minus (ctype.Struct s) n r h e = (negated n r e, negated_small n r h e)

pub unary_is : (w : World) (op : UnaryOp) (t : CType) (x v : Value) (o : Constant) → Is x o → unary w (unary_op op t) x ≡ Ok v → Is v (with_one (turned op (values.is_unsigned (value_type (plain t)))) o)
unary_is w op t x v o h e n k =
    let a = one_number (turned op (values.is_unsigned (value_type (plain t)))) o n k in
    let x_is = h a.0 a.1 in
    let g = unary_gives w op t a.0 n x_is.1 a.2 in
    (ok_same v (Number n) (sym (subst (λ z. unary w (unary_op op t) z ≡ Ok v) x_is.0 e) ∙ g.0), g.1)

-- a conversion to an integer type
cast_gives : (t : CType) (n r : ℕ) → is_integer (plain t) ≡ true → n < 2 ^ 32 → converted (plain t) n ≡ folds.Number r → (extended (access_of t) (Number n) ≡ Ok (Number r)) × (r < 2 ^ 32)
cast_gives ctype.Char n r i h e = let s = same_number (low_byte n) r e in (ap (λ z. Ok (Number z)) s, subst (λ z. z < 2 ^ 32) s (byte_small n))
cast_gives ctype.Int n r i h e = let s = same_number n r e in (ap (λ z. Ok (Number z)) s, subst (λ z. z < 2 ^ 32) s h)
cast_gives ctype.Unsigned n r i h e = let s = same_number n r e in (ap (λ z. Ok (Number z)) s, subst (λ z. z < 2 ^ 32) s h)
cast_gives ctype.Void n r i h e = absurd (true≢false (sym i))
cast_gives (ctype.Pointer' b t) n r i h e = absurd (true≢false (sym i))
cast_gives (ctype.Array' b t m) n r i h e = absurd (true≢false (sym i))
cast_gives (ctype.Struct s) n r i h e = absurd (true≢false (sym i))

pub cast_is : (t : CType) (x v : Value) (o : Constant) → is_integer (plain t) ≡ true → Is x o → extended (access_of t) x ≡ Ok v → Is v (with_one (converted (plain t)) o)
cast_is t x v o i h e n k =
    let a = one_number (converted (plain t)) o n k in
    let x_is = h a.0 a.1 in
    let g = cast_gives t a.0 n i x_is.1 a.2 in
    (ok_same v (Number n) (sym (subst (λ z. extended (access_of t) z ≡ Ok v) x_is.0 e) ∙ g.0), g.1)
