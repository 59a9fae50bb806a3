-- Checked arithmetic: the exact result, or the reason why C leaves it undefined.
use Rattle.std.specs.Prelude.{ℕ, ℤ, pos, negsuc, Bool, true, nat_lt, ◌||◌, ◌*◌, ◌^◌, ◌-◌, ◌/◌, ◌%◌, if◌then◌else◌, Result, Ok, Err}
use Rattle.std.specs.Int.{w32, cast_signed, cast_unsigned, int_shr}
use Rattle.ldb_words.specs.declared.kinds.Undef.{Undef}
use Rattle.ldb_words.specs.declared.kinds.Undef.TheVariants.{Overflow, Division, Shift}
use Rattle.ldb_words.specs.declared.kinds.Way.{Way}
use Rattle.ldb_words.specs.declared.kinds.Way.TheVariants.{Left, RightSigned, RightUnsigned}

-- whether a number is an `int`
abbrev pub is_int : ℤ → Bool
is_int (pos n) = nat_lt n (2 ^ 31)
is_int (negsuc n) = nat_lt n (2 ^ 31)

-- the number, or Overflow where it is no `int`
abbrev pub checked : ℤ → Result ℤ Undef
checked z = if is_int z then Ok z else Err Overflow

-- whether `/` and `%` are defined: not by zero, and not the least number by -1
abbrev pub divides : ℤ → ℤ → Bool
divides a (pos b) = nat_lt 0 b
divides a (negsuc b) = elim a as (λ _. Bool) [ pos n ↦ true | negsuc n ↦ (nat_lt 0 b || nat_lt n (2 ^ 31 - 1)) ]

-- the quotient or remainder q of a by b, or Division where there is none
abbrev pub checked_quotient : ℤ → ℤ → ℤ → Result ℤ Undef
checked_quotient a b q = if divides a b then Ok q else Err Division

-- the bits shifted one way by a count below 32
abbrev pub shifted : ℕ → ℕ → Way → ℕ
shifted bits by Left = bits * 2 ^ by % 2 ^ 32
shifted bits by RightSigned = cast_unsigned w32 (int_shr (cast_signed w32 bits) by)
shifted bits by RightUnsigned = bits / 2 ^ by

-- the shifted bits, or Shift where the count is above 31
abbrev pub checked_shift : ℕ → ℕ → Way → Result ℕ Undef
checked_shift bits by way = if nat_lt by 32 then Ok (shifted bits by way) else Err Shift
