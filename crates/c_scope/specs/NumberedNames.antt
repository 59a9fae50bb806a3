-- Whether a name has a number.
use Rattle.std.specs.Prelude.{ℕ, Bool, List}
use Rattle.std.specs.Option.{is_some}
use Rattle.c_defs.specs.declared.numbers.Numbers.{Numbers}
use Rattle.c_defs.specs.Numbers.{number_in}

abbrev pub has_name : Numbers → List ℕ → Bool
has_name m t = is_some (number_in m t)
