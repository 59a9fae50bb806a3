-- Quotients and condition codes: the SPARC V8 manual, sections B.12 and B.19, and this profile's results of quotients
-- that are too large.
use Rattle.std.specs.Prelude.{ℕ, ℤ, pos, negsuc, ◌+◌, ◌*◌, ◌-◌, ◌^◌, ◌/◌, ◌-ℤ◌, nat_eq, nat_lt, not, if◌then◌else◌, int_div}
use Rattle.std.specs.Int.{w64, cast_signed}
use Rattle.ldb_words.specs.Word.{signed, word_of_signed, difference_of, bit_of}
use Rattle.ldb_words.specs.Arithmetic.{is_int}

-- the greatest word where the quotient is above it
unfoldable pub quotient_unsigned : ℕ → ℕ → ℕ
quotient_unsigned a b = if nat_lt (a / b) (2 ^ 32) then a / b else 2 ^ 32 - 1

-- the nearest number of 32 bits with a sign
abbrev pub clamped : ℤ → ℤ
clamped (pos n) = if nat_lt n (2 ^ 31) then pos n else pos (2 ^ 31 - 1)
clamped (negsuc n) = if nat_lt n (2 ^ 31) then negsuc n else negsuc (2 ^ 31 - 1)

-- the quotient of 64 bits by 32 bits, both with a sign, rounded toward zero
unfoldable pub quotient_signed : ℕ → ℕ → ℕ
quotient_signed a b = word_of_signed (clamped (int_div (cast_signed w64 a) (signed b)))

-- the codes of a subtraction: N, Z, V (the difference has no 32 bits with a sign), C (a borrow)
unfoldable pub codes_of : ℕ → ℕ → ℕ
codes_of a b =
    8 * bit_of (nat_lt (2 ^ 31 - 1) (difference_of a b))
    + (4 * bit_of (nat_eq (difference_of a b) 0)
    + (2 * bit_of (not (is_int (signed a -ℤ signed b)))
    + bit_of (nat_lt a b)))
