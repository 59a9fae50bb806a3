-- The names that are defined, as sets.
use Rattle.std.specs.Prelude.{ℕ, Bool, false, if◌then◌else◌, List, Option, Some, None, slice_get}
use Rattle.c_defs.specs.declared.numbers.Numbers.{Numbers}
use Rattle.c_scope.specs.NumberedNames.{has_name}
use Rattle.c_rows.specs.declared.defined.DefinedNames.{DefinedNames}

abbrev pub in_file : Option Numbers → List ℕ → Bool
in_file None t = false
in_file (Some m) t = has_name m t

abbrev pub defined_in : DefinedNames → (unit : ℕ) → Bool → List ℕ → Bool
defined_in m u s t = if s then in_file (slice_get m.statics.items u) t else has_name m.externals t
