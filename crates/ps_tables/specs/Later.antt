-- Stores that come of others where nothing is changed.
use Rattle.std.specs.Prelude.{◌≡◌, ℕ, ◌+◌, ◌<◌, ◌≤◌, List, ◌++◌, length, drop}
use Rattle.ps_store.specs.declared.object.Part.TheVariants.{Table}
use Rattle.ps_store.specs.declared.object.PsObj.{PsObj}
use Rattle.ps_store.specs.declared.object.ArrayId.{ArrayId}
use Rattle.ps_store.specs.declared.object.DictId.{DictId}
use Rattle.ps_store.specs.declared.object.StringId.{StringId}
use Rattle.ps_store.specs.StoreState.{StoreState}
use Rattle.ps_store.specs.Store.{held, entries_of}
use Rattle.ps_text.specs.Grown.{IsArray, IsString}
use Rattle.ps_text.specs.Reading.{Lead}

abbrev pub IsThere : StoreState → DictId → Type 0
IsThere s d = d.index < length (held s d.part).dicts

-- a dictionary of the table's part that is not closed
abbrev pub IsOpen : StoreState → DictId → Type 0
IsOpen s d = (i : ℕ) × (d ≡ record { part = Table; index = i }) × (s.closed.dicts ≤ i)

-- what was there is as it was, and at most so many units were made
pub record Later (units : ℕ) (s s' : StoreState) : Type 0 where
  pub strings : (t : StringId) (text : List ℕ) → IsString s t text → IsString s' t text
  pub arrays : (a : ArrayId) (xs : List PsObj) → IsArray s a xs → IsArray s' a xs
  pub dicts : (d : DictId) → IsThere s d → IsThere s' d × (entries_of s' d ≡ entries_of s d)
  pub part : s'.part ≡ s.part
  pub closed : s'.closed ≡ s.closed
  pub base : s'.base ≡ s.base
  pub command : s.part ≡ Table → s'.command ≡ s.command
  pub more : length s.table.dicts ≤ length s'.table.dicts
  pub counted : s'.table.units + s'.command.units ≤ s.table.units + s.command.units + units

-- from a place of a string on this is its text, behind one space at most
pub record StandsAt (s : StoreState) (t : StringId) (at : ℕ) (rest : List ℕ) : Type 0 where
  pub text : List ℕ
  pub lead : List ℕ
  pub is_lead : Lead lead
  pub is : IsString s t text
  pub here : drop at text ≡ lead ++ rest
  pub within : at ≤ length text
