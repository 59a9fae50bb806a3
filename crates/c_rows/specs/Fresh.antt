-- Which definitions of objects are the first of theirs, where a map tells which were seen.
use Rattle.std.specs.Prelude.{ℕ, Bool, ◌&&◌, ◌||◌, ◌==◌, if◌then◌else◌, List, [], ◌∷◌, ◌++◌, bytes_eq}
use Rattle.std.specs.Option.{is_some}
use Rattle.c_linkage.specs.FileNumbers.{number_at}
use Rattle.c_linkage.specs.declared.file_numbers.FileNumbers.{FileNumbers}
use Rattle.c_linkage.specs.Names.{Defining}
use Rattle.c_linkage.specs.Defined.{is_body}

abbrev pub sees : FileNumbers → (unit : ℕ) → List ℕ → Bool
sees m u name = is_some (number_at m u name)

abbrev pub one_object : (ℕ → List ℕ → Bool) → Defining → List Defining
one_object seen d = if is_body d.manner || seen d.unit d.name then [] else d ∷ []

-- what was seen, and a definition of an object
abbrev pub marked : (ℕ → List ℕ → Bool) → Defining → ℕ → List ℕ → Bool
marked seen d u name = if is_body d.manner || seen d.unit d.name then seen u name else ((d.unit == u) && bytes_eq d.name name) || seen u name

abbrev pub fresh : (ℕ → List ℕ → Bool) → List Defining → List Defining
fresh seen [] = []
fresh seen (d ∷ ds) = one_object seen d ++ fresh (marked seen d) ds
