-- The code's numbers of objects and functions, and its initializers, are those of a program.
use Rattle.std.specs.Prelude.{◌≡◌, ℕ, List, map}
use Rattle.c_linkage.specs.FileNumbers.{number_at}
use Rattle.c_linkage.specs.Wanted.{started}
use Rattle.c_file.specs.Files.{State}
use Rattle.c_file.specs.Made.{object_number, function_number}
use Rattle.c_rows.specs.declared.places.Places.{Places}
use Rattle.c_rows.specs.declared.starts.Starts.{Starts as Kept}
use Rattle.c_rows.specs.Objects.{start_number}
use Rattle.c_rows.specs.Placed.{object_by, function_by}

-- the places are those of the program
pub record ArePlaces (p : Places) (q : State) : Type 0 where
  pub objects : (u : ℕ) (name : List ℕ) → object_by p u name ≡ object_number q u name
  pub functions : (u : ℕ) (name : List ℕ) → function_by p u name ≡ function_number q u name

-- the initializers are those of the program
pub record AreStarts (k : Kept) (q : State) : Type 0 where
  pub defs : k.defs.now ≡ q.others
  pub of : map started k.of.now ≡ q.starts
  pub numbers : (u : ℕ) (t : List ℕ) → number_at k.numbers u t ≡ start_number 0 (map started k.of.now) u t
