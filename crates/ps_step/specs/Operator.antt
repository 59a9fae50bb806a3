-- The operators by their numbers.
use Rattle.std.specs.Prelude.{ℕ, Option, slice_get}
use Rattle.ps_step.specs.declared.operator.TheConstants.{OPERATORS}
use Rattle.ps_step.specs.declared.operator.Operator.{Operator}

-- the operator with a number
abbrev pub operator_at : ℕ → Option Operator
operator_at n = slice_get OPERATORS n
