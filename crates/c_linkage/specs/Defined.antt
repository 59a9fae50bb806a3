-- The definitions of objects and of functions with bodies, and their numbers.
use Rattle.std.specs.Prelude.{ℕ, suc, Bool, true, false, ◌&&◌, ◌||◌, ◌==◌, if◌then◌else◌, List, [], ◌∷◌, Option, Some, None, bytes_eq}
use Rattle.c_linkage.specs.declared.definitions.Manner.{Manner}
use Rattle.c_linkage.specs.declared.definitions.Manner.TheVariants.{Body}
use Rattle.c_linkage.specs.Names.{Defining, defines}

abbrev pub is_body : Manner → Bool
is_body Body = true
is_body _ = false

abbrev pub is_on : Defining → List Defining → Bool
is_on d [] = false
is_on d (e ∷ es) = ((d.unit == e.unit) && bytes_eq d.name e.name) || is_on d es

-- the definitions of objects, each once
abbrev pub objects_from : List Defining → List Defining → List Defining
objects_from seen [] = []
objects_from seen (d ∷ ds) = if is_body d.manner || is_on d seen then objects_from seen ds else d ∷ objects_from (d ∷ seen) ds

abbrev pub bodies_of : List Defining → List Defining
bodies_of [] = []
bodies_of (d ∷ ds) = if is_body d.manner then d ∷ bodies_of ds else bodies_of ds

-- the number of the first that defines a name of a file
abbrev pub number_from : ℕ → List Defining → (unit : ℕ) → Bool → List ℕ → Option ℕ
number_from n [] u s name = None
number_from n (d ∷ ds) u s name = if defines u s name d then Some n else number_from (suc n) ds u s name
