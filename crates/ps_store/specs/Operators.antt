-- The operators' numbers.
use Rattle.std.specs.Prelude.{ℕ, Option, List, position, bytes_eq}
use Rattle.ps_store.specs.declared.operators.TheConstants.{OPERATOR_NAMES}

-- the number of the operator with a name: its place among the names
unfoldable pub operator_number : List ℕ → Option ℕ
operator_number name = position (λ other. bytes_eq other.now name) OPERATOR_NAMES
