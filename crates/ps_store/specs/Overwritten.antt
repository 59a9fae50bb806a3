-- Lists that are written over.
use Rattle.std.specs.Prelude.{ℕ, ◌+◌, List, ◌++◌, length, take, drop}

-- a list with other items from a place on
abbrev pub overwritten : {X : Type 0} → List X → ℕ → List X → List X
overwritten old at items = take at old ++ items ++ drop (at + length items) old
