-- Operators on integers and booleans.
use Rattle.std.specs.Prelude.{ℕ, ℤ, pos, negsuc, suc, ◌+ℤ◌, ◌-ℤ◌, ◌*ℤ◌, ◌*◌, ◌/◌, ◌^◌, ◌%◌, int_div, int_rem, int_le, int_lt, neg_ℤ, not, Bool, true, false, ◌&&◌, ◌||◌, nat_lt, unsigned_abs, if◌then◌else◌, Result, Ok, Err}
use Rattle.std.specs.Int.{w32, cast_signed, cast_unsigned, int_bit_and, int_bit_or, int_bit_xor, int_bit_not}
use Rattle.ps_store.specs.declared.object.PsObj.{PsObj}
use Rattle.ps_store.specs.declared.object.PsObj.TheVariants.{Int, Bool as Truth}
use Rattle.ps_step.specs.Results.{◌>>=◌}
use Rattle.ps_step.specs.declared.arithmetic.Arithmetic.{Arithmetic}
use Rattle.ps_step.specs.declared.arithmetic.Arithmetic.TheVariants.{Add, Sub, Mul, Idiv, Mod}
use Rattle.ps_step.specs.declared.arithmetic.Bitwise.{Bitwise}
use Rattle.ps_step.specs.declared.arithmetic.Bitwise.TheVariants.{And, Or, Xor}
use Rattle.ps_step.specs.declared.fault.PsError.{PsError}
use Rattle.ps_step.specs.declared.fault.PsError.TheVariants.{TypeCheck, RangeCheck, UndefinedResult}

-- the integer that an object is
abbrev pub integer_of : PsObj → Result ℤ PsError
integer_of (Int n) = Ok n
integer_of other = Err TypeCheck

-- the boolean that an object is
abbrev pub truth_of : PsObj → Result Bool PsError
truth_of (Truth b) = Ok b
truth_of other = Err TypeCheck

-- whether a number is an integer of 32 bits
abbrev pub is_integer : ℤ → Bool
is_integer (pos n) = nat_lt n (2 ^ 31)
is_integer (negsuc n) = nat_lt n (2 ^ 31)

-- a result, where it is an integer of 32 bits
abbrev pub in_range : ℤ → Result ℤ PsError
in_range n = if is_integer n then Ok n else Err RangeCheck

abbrev pub sum : ℤ → ℤ → Result ℤ PsError
sum x y = in_range (x +ℤ y)

abbrev pub difference : ℤ → ℤ → Result ℤ PsError
difference x y = in_range (x -ℤ y)

abbrev pub product : ℤ → ℤ → Result ℤ PsError
product x y = in_range (x *ℤ y)

-- a result of a division by a number, if that is not 0
abbrev pub divided_by : ℤ → Result ℤ PsError → Result ℤ PsError
divided_by (pos n) result = if nat_lt 0 n then result else Err UndefinedResult
divided_by (negsuc n) result = result

-- the quotient, rounded toward zero
abbrev pub quotient : ℤ → ℤ → Result ℤ PsError
quotient x y = divided_by y (in_range (int_div x y))

-- the remainder, with the sign of the dividend
abbrev pub remainder : ℤ → ℤ → Result ℤ PsError
remainder x y = divided_by y (Ok (int_rem x y))

abbrev pub negative : ℤ → Result ℤ PsError
negative x = in_range (neg_ℤ x)

-- what an operator makes of two integers, and of two objects
abbrev pub of_integers : Arithmetic → ℤ → ℤ → Result ℤ PsError
of_integers Add x y = sum x y
of_integers Sub x y = difference x y
of_integers Mul x y = product x y
of_integers Idiv x y = quotient x y
of_integers Mod x y = remainder x y

abbrev pub arithmetic_of : Arithmetic → PsObj → PsObj → Result PsObj PsError
arithmetic_of op a b = integer_of a >>= λ x. integer_of b >>= λ y. of_integers op x y >>= λ n. Ok (Int n)

-- what an operator makes of the bits of two integers, of two booleans, and of two objects of one of these types
abbrev pub bits_of : Bitwise → ℤ → ℤ → ℤ
bits_of And x y = int_bit_and w32 x y
bits_of Or x y = int_bit_or w32 x y
bits_of Xor x y = int_bit_xor w32 x y

abbrev pub truths_of : Bitwise → Bool → Bool → Bool
truths_of And x y = x && y
truths_of Or x y = x || y
truths_of Xor x y = if x then not y else y

abbrev pub bitwise_of : Bitwise → PsObj → PsObj → Result PsObj PsError
bitwise_of op (Truth x) (Truth y) = Ok (Truth (truths_of op x y))
bitwise_of op (Int x) (Int y) = Ok (Int (bits_of op x y))
bitwise_of op a b = Err TypeCheck

-- `not` of a boolean, or of each bit of an integer
abbrev pub opposite_of : PsObj → Result PsObj PsError
opposite_of (Truth b) = Ok (Truth (not b))
opposite_of (Int x) = Ok (Int (neg_ℤ x -ℤ pos 1))
opposite_of other = Err TypeCheck

-- `neg`
abbrev pub negation_of : PsObj → Result PsObj PsError
negation_of a = integer_of a >>= λ x. negative x >>= λ n. Ok (Int n)

-- the 32 bits of an integer moved to the left, or to the right where the number is negative; zeros come in
abbrev pub moved : ℕ → ℤ → ℕ
moved bits by =
    if nat_lt 31 (unsigned_abs by) then 0
    else if int_le (pos 0) by then bits * 2 ^ unsigned_abs by % 2 ^ 32
    else bits / 2 ^ unsigned_abs by

abbrev pub shifted : ℤ → ℤ → ℤ
shifted x by = cast_signed w32 (moved (cast_unsigned w32 x) by)

-- `bitshift`
abbrev pub shifting_of : PsObj → PsObj → Result PsObj PsError
shifting_of a b = integer_of a >>= λ x. integer_of b >>= λ by. Ok (Int (shifted x by))
