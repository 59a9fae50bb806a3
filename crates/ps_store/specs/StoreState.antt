-- What contracts see of a store.
use Rattle.std.specs.Prelude.{ℕ, Option, List}
use Rattle.ps_store.specs.declared.object.Part.{Part}
use Rattle.ps_store.specs.declared.object.DictId.{DictId}
use Rattle.ps_store.specs.declared.object.Mark.{Mark}
use Rattle.ps_store.specs.declared.object.PsObj.{PsObj}
use Rattle.ps_store.specs.declared.object.Pair.{Pair}
use Rattle.ps_store.specs.declared.key.Key.{Key}
use Rattle.ps_store.specs.Held.{Held}

-- The objects of both parts, the part in which objects are made, how many of the table's objects are closed,
-- the base dictionaries and the table's top dictionary.
pub record StoreState : Type 0 where
  pub table : Held
  pub command : Held
  pub part : Part
  pub closed : Mark
  pub base : List DictId
  pub top : Option DictId

-- What is closed of a store, how much that is, and what only the store's owner changes: the part in which objects are made,
-- the base dictionaries and the top dictionary.
pub record Closed : Type 0 where
  pub arrays : List (List PsObj)
  pub dicts : List (List (Key × Pair))
  pub strings : List (List ℕ)
  pub mark : Mark
  pub part : Part
  pub base : List DictId
  pub top : Option DictId
