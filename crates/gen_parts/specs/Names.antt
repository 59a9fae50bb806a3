-- The names that an object gives: a letter and a number in decimal.
use Rattle.std.specs.Prelude.{ℕ, List, ◌∷◌, decimal}

abbrev pub numbered : (letter number : ℕ) → List ℕ
numbered letter number = letter ∷ decimal number

-- `f` for a function
abbrev pub function_name : ℕ → List ℕ
function_name number = numbered 102 number

-- `g` for a static object, or a string, which are numbered after the objects
abbrev pub object_name : ℕ → List ℕ
object_name number = numbered 103 number

-- `m` for the code that copies a struct, `a` and `d` for its parts that ascend and descend
abbrev pub mover_name : ℕ → List ℕ
mover_name number = numbered 109 number

abbrev pub ascending_name : ℕ → List ℕ
ascending_name number = numbered 97 number

abbrev pub descending_name : ℕ → List ℕ
descending_name number = numbered 100 number
