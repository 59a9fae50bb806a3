-- Stores that come of others where one dictionary gets more under integers.
use Rattle.std.specs.Prelude.{◌≡◌, ℕ, ◌+◌, ◌≤◌, false, Some, None, List, length}
use Rattle.ps_store.specs.declared.object.Part.TheVariants.{Table}
use Rattle.ps_store.specs.declared.object.PsObj.{PsObj}
use Rattle.ps_store.specs.declared.object.ArrayId.{ArrayId}
use Rattle.ps_store.specs.declared.object.DictId.{DictId}
use Rattle.ps_store.specs.declared.object.StringId.{StringId}
use Rattle.ps_store.specs.declared.key.Key.{Key}
use Rattle.ps_store.specs.declared.key.Key.TheVariants.{Name as NameKey}
use Rattle.ps_store.specs.Key.{same_key}
use Rattle.ps_store.specs.Entries.{value_at}
use Rattle.ps_store.specs.StoreState.{StoreState}
use Rattle.ps_store.specs.Store.{entries_of}
use Rattle.ps_step.specs.Composites.{same_dict}
use Rattle.ps_text.specs.Grown.{IsArray, IsString}
use Rattle.ps_tables.specs.Later.{IsThere}

-- A value is put under a key of a dictionary. All else is as it was, and one unit is made at most.
pub record PutsUnder (s s' : StoreState) (d : DictId) (key : Key) (v : PsObj) : Type 0 where
  pub found : value_at (entries_of s' d) key ≡ Some v
  pub others : (other : Key) → same_key other key ≡ false → value_at (entries_of s' d) other ≡ value_at (entries_of s d) other
  pub few : length (entries_of s' d) ≤ length (entries_of s d) + 1
  pub dicts : (e : DictId) → same_dict e d ≡ false → entries_of s' e ≡ entries_of s e
  pub there : (e : DictId) → IsThere s e → IsThere s' e
  pub strings : (t : StringId) (text : List ℕ) → IsString s t text → IsString s' t text
  pub arrays : (a : ArrayId) (xs : List PsObj) → IsArray s a xs → IsArray s' a xs
  pub part : s'.part ≡ s.part
  pub closed : s'.closed ≡ s.closed
  pub base : s'.base ≡ s.base
  pub command : s'.command ≡ s.command
  pub more : length s'.table.dicts ≡ length s.table.dicts
  pub counted : s'.table.units + s'.command.units ≤ s.table.units + s.command.units + 1

-- What was there is as it was but for one dictionary, which has the same names, and at most so many units were made.
pub record Amended (units : ℕ) (d : DictId) (s s' : StoreState) : Type 0 where
  pub strings : (t : StringId) (text : List ℕ) → IsString s t text → IsString s' t text
  pub arrays : (a : ArrayId) (xs : List PsObj) → IsArray s a xs → IsArray s' a xs
  pub dicts : (e : DictId) → same_dict e d ≡ false → IsThere s e → IsThere s' e × (entries_of s' e ≡ entries_of s e)
  pub own : IsThere s d → IsThere s' d
  pub names : IsThere s d → (name : List ℕ) → value_at (entries_of s' d) (NameKey name) ≡ value_at (entries_of s d) (NameKey name)
  pub part : s'.part ≡ s.part
  pub closed : s'.closed ≡ s.closed
  pub base : s'.base ≡ s.base
  pub command : s.part ≡ Table → s'.command ≡ s.command
  pub more : length s.table.dicts ≤ length s'.table.dicts
  pub counted : s'.table.units + s'.command.units ≤ s.table.units + s.command.units + units

-- a dictionary has no names
abbrev pub HasNoNames : StoreState → DictId → Type 0
HasNoNames s d = (name : List ℕ) → value_at (entries_of s d) (NameKey name) ≡ None
