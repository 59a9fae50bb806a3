-- A table of no units.
use Rattle.std.specs.Prelude.{ℕ, pos, false, List, [], ◌∷◌, codes, Some}
use Rattle.ps_store.specs.declared.object.Part.TheVariants.{Table}
use Rattle.ps_store.specs.declared.object.PsObj.{PsObj}
use Rattle.ps_store.specs.declared.object.PsObj.TheVariants.{Int, Name, Str, Array, Dict}
use Rattle.ps_store.specs.declared.object.DictId.{DictId}
use Rattle.ps_store.specs.declared.object.Pair.{Pair}
use Rattle.ps_store.specs.declared.key.Key.{Key}
use Rattle.ps_store.specs.declared.key.Key.TheVariants.{Name as NameKey}
use Rattle.ps_store.specs.StoreState.{StoreState}

abbrev pub dict : ℕ → DictId
dict n = record { part = Table; index = n }

abbrev under : ℕ → List ℕ → PsObj → Key × Pair
under n name x = (NameKey name, record { key = Name (record { part = Table; index = n }) false; value = x })

-- the store after `<< /ldb 1 /target (TARGET) /anchors << >> /structs << >> /units [ ] >>`, above two base dictionaries; the first
-- three strings are the spaces' names
abbrev pub bare_table : List ℕ → StoreState
bare_table target = record {
  table = record {
    arrays = [] ∷ [];
    dicts = [] ∷ [] ∷ [] ∷ [] ∷ (under 4 (codes "ldb") (Int (pos 1)) ∷ under 5 (codes "target") (Str (record { part = Table; index = 3 }) false) ∷ under 6 (codes "anchors") (Dict (dict 2)) ∷ under 7 (codes "structs") (Dict (dict 3)) ∷ under 8 (codes "units") (Array (record { part = Table; index = 0 }) false) ∷ []) ∷ [];
    strings = codes "d" ∷ codes "r" ∷ codes "i" ∷ target ∷ codes "ldb" ∷ codes "target" ∷ codes "anchors" ∷ codes "structs" ∷ codes "units" ∷ [];
    units = 29;
  };
  command = record { arrays = []; dicts = []; strings = []; units = 0 };
  part = Table;
  closed = record { arrays = 1; dicts = 5; strings = 9; units = 29 };
  base = dict 0 ∷ dict 1 ∷ [];
  top = Some (dict 4);
}
