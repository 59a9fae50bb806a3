-- Tables of instruction words: what stands beside a code, and a word that has an instruction's every bit.
use Rattle.std.specs.Prelude.{ℕ, nat_eq, if◌then◌else◌, List, [], ◌∷◌, Option, Some, None}

-- what stands beside a code in a table
abbrev pub at_code : {T : Type 0} → ℕ → List (ℕ × T) → Option T
at_code code [] = None
at_code code (row ∷ rows) = if nat_eq code row.0 then Some row.1 else at_code code rows

-- the instruction that a word's codes name, if it has this word: so the fields that it does not use are zero
abbrev pub if_exact : {I : Type 0} → (word_of : I → ℕ) → ℕ → Option I → Option I
if_exact word_of w None = None
if_exact word_of w (Some i) = if nat_eq (word_of i) w then Some i else None
