-- What the dialect's operators on words make of them: C's arithmetic (C90 6.3.5 to 6.3.8).
use Rattle.std.specs.Prelude.{ℕ, Result, Ok, Err}
use Rattle.ldb_words.specs.declared.kinds.Undef.{Undef}
use Rattle.ldb_words.specs.declared.kinds.Undef.TheVariants.{Overflow as Overflowed, Division as Divided, Shift as Shifted, Pointer as Pointed}
use Rattle.c_operators.specs.Bits.{signed_add, signed_subtract, signed_multiply, signed_divide, signed_remainder, add, subtract, multiply, divide, remainder, shift_left, shift_right, signed_shift_right}
use Rattle.ps_step.specs.declared.fault.PsError.{PsError}
use Rattle.ps_step.specs.declared.fault.PsError.TheVariants.{Overflow, Division, Shift, Pointer}
use Rattle.ps_words.specs.declared.words.WordOperator.{WordOperator}
use Rattle.ps_words.specs.declared.words.WordOperator.TheVariants as op

-- what an operator makes of two words
abbrev pub of_two : WordOperator → ℕ → ℕ → Result ℕ Undef
of_two op.SignedAdd x y = signed_add x y
of_two op.SignedSubtract x y = signed_subtract x y
of_two op.SignedMultiply x y = signed_multiply x y
of_two op.SignedDivide x y = signed_divide x y
of_two op.SignedRemainder x y = signed_remainder x y
of_two op.Divide x y = divide x y
of_two op.Remainder x y = remainder x y
of_two op.Add x y = Ok (add x y)
of_two op.Subtract x y = Ok (subtract x y)
of_two op.Multiply x y = Ok (multiply x y)
of_two op.ShiftLeft x y = shift_left x y
of_two op.SignedShiftRight x y = signed_shift_right x y
of_two op.ShiftRight x y = shift_right x y

-- the error of an undefined operation
abbrev pub error_of : Undef → PsError
error_of Overflowed = Overflow
error_of Divided = Division
error_of Shifted = Shift
error_of Pointed = Pointer

-- what is defined, or the error
abbrev pub defined : {A : Type 0} → Result A Undef → Result A PsError
defined (Ok x) = Ok x
defined (Err u) = Err (error_of u)
