-- What the rows of files say.
use Rattle.std.specs.Prelude.{ℕ, suc, ◌==◌, if◌then◌else◌, List, [], ◌∷◌, Option, Some, None, slice_get}
use Rattle.c_tree.specs.declared.rows.UnitRow.{UnitRow}
use Rattle.c_tree.specs.declared.rows.Function.{Function}

abbrev pub file_of : UnitRow → List ℕ
file_of u = u.file

abbrev pub functions_or_none : Option UnitRow → List ℕ
functions_or_none None = []
functions_or_none (Some u) = u.functions

-- the functions of a file
abbrev pub files_functions : List UnitRow → (unit : ℕ) → List ℕ
files_functions us u = functions_or_none (slice_get us u)

-- the numbers of those that stand in a file
abbrev pub functions_by : (unit number : ℕ) → List Function → List ℕ
functions_by u n [] = []
functions_by u n (f ∷ fs) = if f.unit == u then n ∷ functions_by u (suc n) fs else functions_by u (suc n) fs
