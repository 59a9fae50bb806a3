-- The operators stand in the order of their names.
use Rattle.std.specs.Prelude.{◌≡◌, ℕ, List, map, drop}
use Rattle.std.proofs.Common.{refl}
use Rattle.ps_store.specs.declared.operators.TheConstants.{OPERATOR_NAMES}
use Rattle.dialect_model.specs.Operators.{Operator, operators}

abbrev name_of : Operator → List ℕ
name_of o = o.name

-- those of the dialect follow the 61 of the manual
pub operators_are_named : map name_of operators ≡ drop 61 (map (λ name. name.now) OPERATOR_NAMES)
operators_are_named = refl
