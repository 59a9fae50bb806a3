-- Stores that come of others where one dictionary is changed.
use Rattle.std.specs.Prelude.{◌≡◌, ℕ, false, None, List, codes}
use Rattle.ps_store.specs.declared.object.PsObj.{PsObj}
use Rattle.ps_store.specs.declared.object.ArrayId.{ArrayId}
use Rattle.ps_store.specs.declared.object.DictId.{DictId}
use Rattle.ps_store.specs.declared.object.StringId.{StringId}
use Rattle.ps_store.specs.declared.key.Key.TheVariants.{Name as NameKey}
use Rattle.ps_store.specs.Entries.{value_at}
use Rattle.ps_store.specs.StoreState.{StoreState}
use Rattle.ps_store.specs.Store.{entries_of}
use Rattle.ps_step.specs.Composites.{same_dict}
use Rattle.ps_text.specs.Grown.{IsArray, IsString}
use Rattle.ps_tables.specs.Later.{IsThere}

-- what was there is as it was, but for one dictionary
pub record Elsewhere (d : DictId) (s s' : StoreState) : Type 0 where
  pub strings : (t : StringId) (text : List ℕ) → IsString s t text → IsString s' t text
  pub arrays : (a : ArrayId) (xs : List PsObj) → IsArray s a xs → IsArray s' a xs
  pub dicts : (e : DictId) → same_dict e d ≡ false → IsThere s e → IsThere s' e × (entries_of s' e ≡ entries_of s e)

-- a dictionary is no symbol's, point's, function's or type's: it lacks the names by which these are known
pub record Lacks (s : StoreState) (d : DictId) : Type 0 where
  pub kind : value_at (entries_of s d) (NameKey (codes "kind")) ≡ None
  pub line : value_at (entries_of s d) (NameKey (codes "line")) ≡ None
  pub name : value_at (entries_of s d) (NameKey (codes "name")) ≡ None
  pub size : value_at (entries_of s d) (NameKey (codes "size")) ≡ None
