-- Dictionaries under literal names.
use Rattle.std.specs.Prelude.{◌≡◌, ℕ, ◌+◌, false, bytes_eq, if◌then◌else◌, List, [], ◌∷◌, ◌++◌, length}
use Rattle.ps_store.specs.declared.object.Part.TheVariants.{Table}
use Rattle.ps_store.specs.declared.object.PsObj.{PsObj}
use Rattle.ps_store.specs.declared.object.PsObj.TheVariants.{Name}
use Rattle.ps_store.specs.declared.object.DictId.{DictId}
use Rattle.ps_store.specs.declared.object.StringId.{StringId}
use Rattle.ps_store.specs.declared.object.Pair.{Pair}
use Rattle.ps_store.specs.declared.key.Key.{Key}
use Rattle.ps_store.specs.declared.key.Key.TheVariants.{Name as NameKey}
use Rattle.ps_store.specs.StoreState.{StoreState}
use Rattle.ps_text.specs.Grown.{IsString}

-- names with their values, in the order in which the names were first put
abbrev pub Fields : Type 0
Fields = List (List ℕ × PsObj)

-- the fields with a value under a name: in the place of the one that is there, or behind all
abbrev pub updated : Fields → List ℕ → PsObj → Fields
updated [] name v = (name, v) ∷ []
updated (f ∷ fs) name v = if bytes_eq name f.0 then (f.0, v) ∷ fs else f ∷ updated fs name v

-- the fields with these values under these names, one after another
abbrev pub filled : Fields → List (List ℕ) → List PsObj → Fields
filled fs (name ∷ names) (v ∷ vs) = filled (updated fs name v) names vs
filled fs names vs = fs

-- the fields with those of others, one after another
abbrev pub joined : Fields → Fields → Fields
joined fs [] = fs
joined fs (g ∷ gs) = joined (updated fs g.0 g.1) gs

-- pairs are these fields, each under a literal name of the store
pub data AreFields (s : StoreState) : List (Key × Pair) → Fields → Type 0 where
  none : AreFields s [] []
  field : (name : List ℕ) (t : StringId) (v : PsObj) (es : List (Key × Pair)) (fs : Fields) → IsString s t name → AreFields s es fs
      → AreFields s ((NameKey name, record { key = Name t false; value = v }) ∷ es) ((name, v) ∷ fs)

-- a store whose table's part has one more dictionary, which counts a unit and one for each pair
abbrev pub with_dict : StoreState → List (Key × Pair) → StoreState
with_dict s entries = record {
  table = record s.table { dicts = s.table.dicts ++ entries ∷ []; units = s.table.units + (1 + length entries) };
  command = s.command;
  part = Table;
  closed = s.closed;
  base = s.base;
  top = s.top;
}

abbrev pub next_dict : StoreState → DictId
next_dict s = record { part = Table; index = length s.table.dicts }
