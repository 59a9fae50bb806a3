-- A store to which objects were added, and nothing else.
use Rattle.std.specs.Prelude.{◌≡◌, ◌≤◌, ◌<◌, length}
use Rattle.ps_store.specs.declared.object.ArrayId.{ArrayId}
use Rattle.ps_store.specs.declared.object.DictId.{DictId}
use Rattle.ps_store.specs.declared.object.StringId.{StringId}
use Rattle.ps_store.specs.Held.{Held}
use Rattle.ps_store.specs.StoreState.{StoreState}
use Rattle.ps_store.specs.Store.{held}
use Rattle.ps_store.specs.Settled.{Begins}

-- the objects of a part are the first ones there
pub record Adds (old new : Held) : Type 0 where
  pub arrays : Begins old.arrays new.arrays
  pub dicts : Begins old.dicts new.dicts
  pub strings : Begins old.strings new.strings
  pub units : old.units ≤ new.units

pub record Extends (old new : StoreState) : Type 0 where
  pub table : Adds old.table new.table
  pub command : Adds old.command new.command
  pub part : new.part ≡ old.part
  pub closed : new.closed ≡ old.closed
  pub base : new.base ≡ old.base
  pub top : new.top ≡ old.top

-- the store holds the array, the dictionary, the string of an id
abbrev pub HoldsArray : StoreState → ArrayId → Type 0
HoldsArray s a = a.index < length (held s a.part).arrays

abbrev pub HoldsDict : StoreState → DictId → Type 0
HoldsDict s d = d.index < length (held s d.part).dicts

abbrev pub HoldsString : StoreState → StringId → Type 0
HoldsString s t = t.index < length (held s t.part).strings
