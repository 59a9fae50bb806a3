-- What `def` does.
use Rattle.std.specs.Prelude.{◌≡◌, ℕ, ◌+◌, ◌≤◌, false, suc, Some, List, [], ◌∷◌, ◌++◌, length}
use Rattle.ps_store.specs.declared.object.Part.TheVariants.{Table}
use Rattle.ps_store.specs.declared.object.PsObj.{PsObj}
use Rattle.ps_store.specs.declared.object.ArrayId.{ArrayId}
use Rattle.ps_store.specs.declared.object.DictId.{DictId}
use Rattle.ps_store.specs.declared.object.StringId.{StringId}
use Rattle.ps_store.specs.declared.key.Key.{Key}
use Rattle.ps_store.specs.declared.key.Key.TheVariants.{Name as NameKey}
use Rattle.ps_store.specs.Key.{same_key}
use Rattle.ps_store.specs.Entries.{value_at}
use Rattle.ps_store.specs.StoreState.{StoreState}
use Rattle.ps_store.specs.Store.{entries_of}
use Rattle.ps_step.specs.Composites.{same_dict}
use Rattle.ps_step.specs.declared.item.Item.{Item}
use Rattle.ps_step.specs.declared.item.Item.TheVariants.{Text as TextItem}
use Rattle.ps_text.specs.Grown.{IsArray, IsString}
use Rattle.ps_terms.specs.Stands.{core}
use Rattle.ps_tables.specs.Taken.{Takes}
use Rattle.ps_tables.specs.Later.{IsThere, Later, StandsAt}
use Rattle.ps_tables.specs.Pieces.{Values, Show}

-- the dictionary of the table's part with an index
abbrev pub in_table : ℕ → DictId
in_table index = record { part = Table; index = index }

-- A value is put under a name of a dictionary. All else is as it was, and one unit is made at most.
pub record Puts (s s' : StoreState) (d : DictId) (name : List ℕ) (v : PsObj) : Type 0 where
  pub found : value_at (entries_of s' d) (NameKey name) ≡ Some v
  pub others : (key : Key) → same_key key (NameKey name) ≡ false → value_at (entries_of s' d) key ≡ value_at (entries_of s d) key
  pub few : length (entries_of s' d) ≤ length (entries_of s d) + 1
  pub dicts : (e : DictId) → same_dict e d ≡ false → entries_of s' e ≡ entries_of s e
  pub there : (e : DictId) → IsThere s e → IsThere s' e
  pub strings : (t : StringId) (text : List ℕ) → IsString s t text → IsString s' t text
  pub arrays : (a : ArrayId) (xs : List PsObj) → IsArray s a xs → IsArray s' a xs
  pub part : s'.part ≡ s.part
  pub closed : s'.closed ≡ s.closed
  pub base : s'.base ≡ s.base
  pub command : s'.command ≡ s.command
  pub counted : s'.table.units + s'.command.units ≤ s.table.units + s.command.units + 1

-- A definition in a text is executed: these values are made, and the value is put under the name of the topmost dictionary. The operands are as before.
pub record Defines (cost steps : ℕ) (name : List ℕ) (value : Values) (s : StoreState) (d : DictId) (ds : List DictId) (o : List PsObj) (t : StringId) (at : ℕ) (rest : List ℕ) (under : List Item) : Type 0 where
  pub made : StoreState
  pub object : PsObj
  pub later : Later cost s made
  pub shows : Show made (object ∷ []) value
  pub store : StoreState
  pub puts : Puts made store d name object
  pub to : ℕ
  pub stands : StandsAt store t to rest
  pub takes : Takes steps (core s (d ∷ ds) o (TextItem t at ∷ under)) (core store (d ∷ ds) o (TextItem t to ∷ under))
