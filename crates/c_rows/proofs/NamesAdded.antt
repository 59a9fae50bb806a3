-- A name more in a set of names.
use Rattle.std.proofs.Common.{◌≡◌, ℕ, Bool, true, false, ◌||◌, List, ◌∙◌, refl, ap, Option, Some, bytes_eq, if◌then◌else◌}
use Rattle.std.specs.Map.{update}
use Rattle.std.specs.Option.{is_some}
use Rattle.c_defs.specs.declared.numbers.Numbers.{Numbers}
use Rattle.c_defs.specs.Numbers.{number_in}
use Rattle.c_scope.specs.NumberedNames.{has_name}

added : (b : Bool) (n : ℕ) (o : Option ℕ) → is_some (if b then Some n else o) ≡ (b || is_some o)
added true n o = refl
added false n o = refl

pub name_added : (old new : Numbers) (x : List ℕ) (n : ℕ) → ((t : List ℕ) → number_in new t ≡ update bytes_eq (number_in old) x (Some n) t)
    → (t : List ℕ) → has_name new t ≡ (bytes_eq x t || has_name old t)
name_added old new x n u t = ap is_some (u t) ∙ added (bytes_eq x t) n (number_in old t)
