-- What fits a word.
use Rattle.std.proofs.Common.{ℕ, zero, suc, ◌+◌, ◌-◌, ◌*◌, ◌/◌, ◌%◌, ◌^◌, ◌<◌, ◌≤◌, nat_lt, Bool, true, false, if◌then◌else◌, ℤ, pos, negsuc, neg_ℤ, nat_abs, to_z, of_z, w32, w64, ◌*ℤ◌, lit<, arith}
use Rattle.std.specs.Prelude.{bit_and, bit_or, bit_xor, int_div, int_rem, FitsSigned}
use Rattle.std.specs.Int.{int_shr}
use Rattle.std.specs.Int.RustNames.{unsigned_abs}
use Rattle.std.specs.Int.Bits.{and_lt}
use Rattle.std.proofs.lemmas.Nat.{or_lt, xor_lt, mul-lt}
use Rattle.std.proofs.Math.Nat.{div-le_self, mod-le}
use Rattle.std.proofs.lemmas.Int.{fits_signed_mul}
use Rattle.ldb_words.specs.Word.{signed, word_of_signed, sum_of, difference_of, sign_extended, bit_of, product_signed, high_of}
use Rattle.ldb_words.specs.Arithmetic.{shifted}
use Rattle.ldb_words.specs.declared.kinds.Way.TheVariants.{RightSigned}

pub sum_fits : (a b : ℕ) → sum_of a b < 2 ^ 32
sum_fits a b = omega arith

pub difference_fits : (a b : ℕ) → difference_of a b < 2 ^ 32
difference_fits a b = omega arith

pub low_fits : (a : ℕ) → a % 2 ^ 32 < 2 ^ 32
low_fits a = omega arith

pub and_fits : (a b : ℕ) → a < 2 ^ 32 → b < 2 ^ 32 → bit_and a b < 2 ^ 32
and_fits a b h k = and_lt 32 a b h k

pub or_fits : (a b : ℕ) → a < 2 ^ 32 → b < 2 ^ 32 → bit_or a b < 2 ^ 32
or_fits a b h k = or_lt 32 a b h k

pub xor_fits : (a b : ℕ) → a < 2 ^ 32 → b < 2 ^ 32 → bit_xor a b < 2 ^ 32
xor_fits a b h k = xor_lt 32 a b h k

pub inverted_fits : (a : ℕ) → 2 ^ 32 - 1 - a < 2 ^ 32
inverted_fits a = omega arith

pub quotient_fits : (a b : ℕ) → a < 2 ^ 32 → a / b < 2 ^ 32
quotient_fits a b h = omega (arith, div-le_self a b)

pub remainder_fits : (a b : ℕ) → a < 2 ^ 32 → a % b < 2 ^ 32
remainder_fits a b h = omega (arith, mod-le a b)

pub bit_fits : (b : Bool) → bit_of b < 2 ^ 32
bit_fits true = lit< tt
bit_fits false = lit< tt

pub either_fits : (b : Bool) (x y : ℕ) → x < 2 ^ 32 → y < 2 ^ 32 → (if b then x else y) < 2 ^ 32
either_fits true x y h k = h
either_fits false x y h k = k

-- a number of some bits, extended by its sign
pub extended_fits : (width n : ℕ) → n < 2 ^ width → 2 ^ width ≤ 2 ^ 32 → sign_extended width n < 2 ^ 32
extended_fits width n h k = either_fits (nat_lt n (2 ^ (width - 1))) n (n + (2 ^ 32 - 2 ^ width)) (omega arith) (omega arith)

-- ---- numbers with a sign

-- not above a word
abbrev pub IsSmall : ℤ → Type 0
IsSmall (pos n) = n < 2 ^ 32
IsSmall (negsuc n) = Unit {0}

pub signed_fits : (z : ℤ) → IsSmall z → word_of_signed z < 2 ^ 32
signed_fits (pos n) h = h
signed_fits (negsuc n) h = omega arith

small_shift : (z : ℤ) (k : ℕ) → unsigned_abs z ≤ 2 ^ 31 → IsSmall (int_shr z k)
small_shift (pos n) k h = omega (arith, div-le_self n (2 ^ k))
small_shift (negsuc n) k h = tt

abs_small : (n : ℕ) → n < 2 ^ 32 → unsigned_abs (to_z w32 n) ≤ 2 ^ 31
abs_small n h = grind arith

pub shifted_fits : (a k : ℕ) → a < 2 ^ 32 → shifted a k RightSigned < 2 ^ 32
shifted_fits a k h = signed_fits (int_shr (to_z w32 a) k) (small_shift (to_z w32 a) k (abs_small a h))

small_neg : (n : ℕ) → n < 2 ^ 32 → IsSmall (neg_ℤ (pos n))
small_neg zero h = h
small_neg (suc n) h = tt

small_quotient : (a b : ℤ) → unsigned_abs a ≤ 2 ^ 31 → IsSmall (int_div a b)
small_quotient (pos a) (pos b) h = omega (arith, div-le_self a b)
small_quotient (pos a) (negsuc b) h = small_neg (a / suc b) (omega (arith, div-le_self a (suc b)))
small_quotient (negsuc a) (pos b) h = small_neg (suc a / b) (omega (arith, div-le_self (suc a) b))
small_quotient (negsuc a) (negsuc b) h = omega (arith, div-le_self (suc a) (suc b))

small_remainder : (a b : ℤ) → unsigned_abs a ≤ 2 ^ 31 → IsSmall (int_rem a b)
small_remainder (pos a) b h = omega (arith, mod-le a (nat_abs b))
small_remainder (negsuc a) b h = small_neg (suc a % nat_abs b) (omega (arith, mod-le (suc a) (nat_abs b)))

pub quotient_signed_fits : (a : ℕ) (z : ℤ) → a < 2 ^ 32 → word_of_signed (int_div (signed a) z) < 2 ^ 32
quotient_signed_fits a z h = signed_fits (int_div (to_z w32 a) z) (small_quotient (to_z w32 a) z (abs_small a h))

pub remainder_signed_fits : (a : ℕ) (z : ℤ) → a < 2 ^ 32 → word_of_signed (int_rem (signed a) z) < 2 ^ 32
remainder_signed_fits a z h = signed_fits (int_rem (to_z w32 a) z) (small_remainder (to_z w32 a) z (abs_small a h))

-- ---- products, of 64 bits

pub high_fits : (n : ℕ) → n < 2 ^ 64 → high_of n < 2 ^ 32
high_fits n h = omega arith

pub product_fits : (a b : ℕ) → a < 2 ^ 32 → b < 2 ^ 32 → a * b < 2 ^ 64
product_fits a b h k = mul-lt a b (2 ^ 32) (2 ^ 32) h k

of_z_below : (z : ℤ) → FitsSigned w64 z → of_z w64 z < 2 ^ 64
of_z_below (pos n) h = let small : n < 2 ^ 63 = h.sfits in omega (arith, small)
of_z_below (negsuc n) h = omega arith

pub product_signed_fits : (a b : ℕ) → a < 2 ^ 32 → b < 2 ^ 32 → product_signed a b < 2 ^ 64
product_signed_fits a b h k = of_z_below (to_z w32 a *ℤ to_z w32 b) (fits_signed_mul w64 (to_z w32 a) (to_z w32 b) (2 ^ 31) (2 ^ 31) (abs_small a h) (abs_small b k) (lit< tt))
