-- The objects of one part of a store.
use Rattle.std.specs.Prelude.{ℕ, List}
use Rattle.ps_store.specs.declared.object.PsObj.{PsObj}
use Rattle.ps_store.specs.declared.object.Pair.{Pair}
use Rattle.ps_store.specs.declared.key.Key.{Key}

-- its arrays, dictionaries and strings in the order in which they were made, and how many units they count
pub record Held : Type 0 where
  pub arrays : List (List PsObj)
  pub dicts : List (List (Key × Pair))
  pub strings : List (List ℕ)
  pub units : ℕ
