-- What the operators of the language give on words are words.
use Rattle.std.proofs.Common.{◌≡◌, refl, ℕ, zero, suc, ◌/◌, ◌%◌, ◌^◌, ◌<◌, ◌≤◌, nat_lt, Bool, true, false, ℤ, pos, negsuc, neg_ℤ, nat_abs, to_z, w8, w32, lit<, arith}
use Rattle.std.specs.Prelude.{Result, Ok, Err, ◌==◌, not, ◌+ℤ◌, ◌-ℤ◌, ◌*ℤ◌, int_div, int_rem, int_lt, int_le, nat_le, if◌then◌else◌}
use Rattle.std.specs.Int.{int_shr}
use Rattle.std.specs.Int.RustNames.{unsigned_abs}
use Rattle.std.specs.Int.Bits.{and_lt}
use Rattle.std.proofs.lemmas.Nat.{or_lt, xor_lt}
use Rattle.std.proofs.Math.Nat.{div-le_self, mod-le}
use Rattle.ldb_words.specs.Word.{signed, word_of_signed}
use Rattle.ldb_words.specs.Arithmetic.{is_int, checked, divides, checked_quotient, shifted}
use Rattle.ldb_words.specs.declared.kinds.Undef.{Undef}
use Rattle.ldb_words.specs.declared.kinds.Undef.TheVariants.{Overflow, Division, Shift}
use Rattle.ldb_words.specs.declared.kinds.Way.TheVariants.{Left, RightSigned, RightUnsigned}
use Rattle.c_tree.specs.declared.typed.BinaryOp.{BinaryOp}
use Rattle.c_tree.specs.declared.typed.BinaryOp.TheVariants.{BitOr, BitXor, BitAnd, Equal, Unequal, Less, Greater, LessEqual, GreaterEqual, ShiftLeft, ShiftRight, Add, Subtract, Multiply, Divide, Remainder}
use Rattle.c_tree.specs.declared.typed.UnaryOp.{UnaryOp}
use Rattle.c_tree.specs.declared.typed.UnaryOp.TheVariants as unary
use Rattle.c_tree.specs.declared.types.CType.{CType}
use Rattle.c_tree.specs.Types.{is_unsigned}
use Rattle.c_operators.specs.Bits.{low_byte, patterned, subtract, signed_negate}
use Rattle.c_operators.specs.Arithmetic.{truth, on_ints, on_unsigned, on_integer}

abbrev IsSmall : ℤ → Type 0
IsSmall (pos n) = n < 2 ^ 32
IsSmall (negsuc n) = Unit {0}

signed_fits : (z : ℤ) → IsSmall z → word_of_signed z < 2 ^ 32
signed_fits (pos n) h = h
signed_fits (negsuc n) h = omega arith

small_by : (z : ℤ) → unsigned_abs z ≤ 2 ^ 31 → IsSmall z
small_by (pos n) h = omega (arith, h)
small_by (negsuc n) h = tt

abs_small : (n : ℕ) → n < 2 ^ 32 → unsigned_abs (to_z w32 n) ≤ 2 ^ 31
abs_small n h = grind arith

abs_byte : (n : ℕ) → n < 2 ^ 8 → unsigned_abs (to_z w8 n) ≤ 2 ^ 31
abs_byte n h = grind arith

pub byte_small : (n : ℕ) → low_byte n < 2 ^ 32
byte_small n = let m : n % 2 ^ 8 < 2 ^ 8 = omega arith in signed_fits (to_z w8 (n % 2 ^ 8)) (small_by (to_z w8 (n % 2 ^ 8)) (abs_byte (n % 2 ^ 8) m))

small_shift : (z : ℤ) (k : ℕ) → unsigned_abs z ≤ 2 ^ 31 → IsSmall (int_shr z k)
small_shift (pos n) k h = omega (arith, div-le_self n (2 ^ k))
small_shift (negsuc n) k h = tt

small_neg : (n : ℕ) → n < 2 ^ 32 → IsSmall (neg_ℤ (pos n))
small_neg zero h = h
small_neg (suc n) h = tt

small_quotient : (a b : ℤ) → unsigned_abs a ≤ 2 ^ 31 → IsSmall (int_div a b)
small_quotient (pos a) (pos b) h = omega (arith, div-le_self a b)
small_quotient (pos a) (negsuc b) h = small_neg (a / suc b) (omega (arith, div-le_self a (suc b)))
small_quotient (negsuc a) (pos b) h = small_neg (suc a / b) (omega (arith, div-le_self (suc a) b))
small_quotient (negsuc a) (negsuc b) h = omega (arith, div-le_self (suc a) (suc b))

small_remainder : (a b : ℤ) → unsigned_abs a ≤ 2 ^ 31 → IsSmall (int_rem a b)
small_remainder (pos a) b h = omega (arith, mod-le a (nat_abs b))
small_remainder (negsuc a) b h = small_neg (suc a % nat_abs b) (omega (arith, mod-le (suc a) (nat_abs b)))

abbrev pub Small : Result ℕ Undef → Type 0
Small (Ok n) = n < 2 ^ 32
Small (Err r) = Unit {0}

int_small : (z : ℤ) → is_int z ≡ true → IsSmall z
int_small (pos n) e = let h : n < 2 ^ 31 = grind arith in omega (arith, h)
int_small (negsuc n) e = tt

pub checked_small : (z : ℤ) → Small (patterned (checked z))
checked_small z = by (is_int z) refl
  where
    by : (b : Bool) → is_int z ≡ b → Small (patterned (if b then Ok z else Err Overflow))
    by true e = signed_fits z (int_small z e)
    by false e = tt

quotient_small : (a b q : ℤ) → IsSmall q → Small (patterned (checked_quotient a b q))
quotient_small a b q h = by (divides a b)
  where
    by : (o : Bool) → Small (patterned (if o then Ok q else Err Division))
    by true = signed_fits q h
    by false = tt

shift_small : (n : ℕ) (b : Bool) → n < 2 ^ 32 → Small (if b then Ok n else Err Shift)
shift_small n true h = h
shift_small n false h = tt

unless_small : (n : ℕ) (b : Bool) → n < 2 ^ 32 → Small (if b then Err Division else Ok n)
unless_small n true h = tt
unless_small n false h = h

pub truth_small : (b : Bool) → truth b < 2 ^ 32
truth_small true = lit< tt
truth_small false = lit< tt

pub words_small : (op : BinaryOp) (u : Bool) (m n : ℕ) → m < 2 ^ 32 → n < 2 ^ 32 → Small (if u then on_unsigned op m n else on_ints op m n)
words_small BitOr true m n h k = or_lt 32 m n h k
words_small BitOr false m n h k = or_lt 32 m n h k
words_small BitXor true m n h k = xor_lt 32 m n h k
words_small BitXor false m n h k = xor_lt 32 m n h k
words_small BitAnd true m n h k = and_lt 32 m n h k
words_small BitAnd false m n h k = and_lt 32 m n h k
words_small Equal true m n h k = truth_small (m == n)
words_small Equal false m n h k = truth_small (m == n)
words_small Unequal true m n h k = truth_small (not (m == n))
words_small Unequal false m n h k = truth_small (not (m == n))
words_small Less true m n h k = truth_small (nat_lt m n)
words_small Less false m n h k = truth_small (int_lt (signed m) (signed n))
words_small Greater true m n h k = truth_small (nat_lt n m)
words_small Greater false m n h k = truth_small (int_lt (signed n) (signed m))
words_small LessEqual true m n h k = truth_small (nat_le m n)
words_small LessEqual false m n h k = truth_small (int_le (signed m) (signed n))
words_small GreaterEqual true m n h k = truth_small (nat_le n m)
words_small GreaterEqual false m n h k = truth_small (int_le (signed n) (signed m))
words_small ShiftLeft true m n h k = shift_small (shifted m n Left) (nat_lt n 32) (omega arith)
words_small ShiftLeft false m n h k = shift_small (shifted m n Left) (nat_lt n 32) (omega arith)
words_small ShiftRight true m n h k = shift_small (shifted m n RightUnsigned) (nat_lt n 32) (omega (arith, div-le_self m (2 ^ n)))
words_small ShiftRight false m n h k = shift_small (shifted m n RightSigned) (nat_lt n 32) (signed_fits (int_shr (to_z w32 m) n) (small_shift (to_z w32 m) n (abs_small m h)))
words_small Add true m n h k = omega arith
words_small Add false m n h k = checked_small (signed m +ℤ signed n)
words_small Subtract true m n h k = omega arith
words_small Subtract false m n h k = checked_small (signed m -ℤ signed n)
words_small Multiply true m n h k = omega arith
words_small Multiply false m n h k = checked_small (signed m *ℤ signed n)
words_small Divide true m n h k = unless_small (m / n) (n == 0) (omega (arith, div-le_self m n))
words_small Divide false m n h k = quotient_small (signed m) (signed n) (int_div (signed m) (signed n)) (small_quotient (to_z w32 m) (signed n) (abs_small m h))
words_small Remainder true m n h k = unless_small (m % n) (n == 0) (omega (arith, mod-le m n))
words_small Remainder false m n h k = quotient_small (signed m) (signed n) (int_rem (signed m) (signed n)) (small_remainder (to_z w32 m) (signed n) (abs_small m h))

pub one_small : (op : UnaryOp) (t : CType) (n : ℕ) → n < 2 ^ 32 → Small (on_integer op t n)
one_small unary.Plus t n h = h
one_small unary.Minus t n h = by (is_unsigned t)
  where
    by : (u : Bool) → Small (if u then Ok (subtract 0 n) else signed_negate n)
    by true = omega arith
    by false = checked_small (neg_ℤ (signed n))
one_small unary.Complement t n h = omega arith
one_small unary.Not t n h = truth_small (n == 0)
