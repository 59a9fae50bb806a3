-- Numbers of names, and maps from names to their numbers.
use Rattle.std.specs.Prelude.{ℕ, suc, ◌≡◌, if◌then◌else◌, List, [], ◌∷◌, Option, Some, None, bytes_eq}
use Rattle.std.specs.BTreeMap.{get_by}
use Rattle.c_defs.specs.Digests.{digest, compared}
use Rattle.c_defs.specs.declared.numbers.Numbers.{Numbers}

-- the number of the first text on a list that is this one, where the list is numbered from n on
abbrev pub number_from : ℕ → List (List ℕ) → List ℕ → Option ℕ
number_from n [] text = None
number_from n (t ∷ ts) text = if bytes_eq t text then Some n else number_from (suc n) ts text

abbrev pub first_number : List (List ℕ) → List ℕ → Option ℕ
first_number texts text = number_from 0 texts text

-- the number that a map has for a name
abbrev pub number_in : Numbers → List ℕ → Option ℕ
number_in m t = get_by (λ k. compared (digest t) t k) m.of

-- a map finds the first on a list
abbrev pub Finds : Numbers → List (List ℕ) → Type 0
Finds m names = (t : List ℕ) → number_in m t ≡ first_number names t
