-- Patterns of 32 bits, and C's arithmetic on them. An operand is read with its sign where its type is `int`.
use Rattle.std.specs.Prelude.{ℕ, ◌*◌, ◌-◌, ◌/◌, ◌%◌, ◌^◌, ℤ, neg_ℤ, ◌+ℤ◌, ◌-ℤ◌, ◌*ℤ◌, ◌==◌, if◌then◌else◌, int_div, int_rem, Result, Ok, Err}
use Rattle.std.specs.Int.{cast_signed, w8}
use Rattle.ldb_words.specs.declared.kinds.Undef.{Undef}
use Rattle.ldb_words.specs.declared.kinds.Undef.TheVariants.{Division}
use Rattle.ldb_words.specs.declared.kinds.Way.TheVariants.{Left, RightSigned, RightUnsigned}
use Rattle.ldb_words.specs.Arithmetic.{checked, checked_quotient, checked_shift}
use Rattle.ldb_words.specs.Word.{signed, word_of_signed, sum_of, difference_of}

-- the low 8 bits as a number with a sign
abbrev pub low_byte : ℕ → ℕ
low_byte n = word_of_signed (cast_signed w8 (n % 2 ^ 8))

abbrev pub minus_one : ℕ
minus_one = 2 ^ 32 - 1

-- the pattern of a result
abbrev pub patterned : Result ℤ Undef → Result ℕ Undef
patterned (Ok z) = Ok (word_of_signed z)
patterned (Err r) = Err r

-- ---- `int`: a result has to be in its range (C90 6.3)

abbrev pub signed_add : ℕ → ℕ → Result ℕ Undef
signed_add x y = patterned (checked (signed x +ℤ signed y))

abbrev pub signed_subtract : ℕ → ℕ → Result ℕ Undef
signed_subtract x y = patterned (checked (signed x -ℤ signed y))

abbrev pub signed_multiply : ℕ → ℕ → Result ℕ Undef
signed_multiply x y = patterned (checked (signed x *ℤ signed y))

abbrev pub signed_negate : ℕ → Result ℕ Undef
signed_negate x = patterned (checked (neg_ℤ (signed x)))

abbrev pub signed_divide : ℕ → ℕ → Result ℕ Undef
signed_divide x y = patterned (checked_quotient (signed x) (signed y) (int_div (signed x) (signed y)))

abbrev pub signed_remainder : ℕ → ℕ → Result ℕ Undef
signed_remainder x y = patterned (checked_quotient (signed x) (signed y) (int_rem (signed x) (signed y)))

-- ---- `unsigned`: modulo 2^32 (C90 6.1.2.5)

abbrev pub add : ℕ → ℕ → ℕ
add x y = sum_of x y

abbrev pub subtract : ℕ → ℕ → ℕ
subtract x y = difference_of x y

abbrev pub multiply : ℕ → ℕ → ℕ
multiply x y = (x * y) % 2 ^ 32

abbrev pub divide : ℕ → ℕ → Result ℕ Undef
divide x y = if y == 0 then Err Division else Ok (x / y)

abbrev pub remainder : ℕ → ℕ → Result ℕ Undef
remainder x y = if y == 0 then Err Division else Ok (x % y)

-- ---- shifts by a count, whose pattern is above 31 too where it is negative (C90 6.3.7)

abbrev pub shift_left : ℕ → ℕ → Result ℕ Undef
shift_left x y = checked_shift x y Left

abbrev pub shift_right : ℕ → ℕ → Result ℕ Undef
shift_right x y = checked_shift x y RightUnsigned

abbrev pub signed_shift_right : ℕ → ℕ → Result ℕ Undef
signed_shift_right x y = checked_shift x y RightSigned
