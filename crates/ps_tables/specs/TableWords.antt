-- The words of a table as makers. The dictionaries that their own begin as are found by a name, and have such fields.
use Rattle.std.specs.Prelude.{List, [], ◌∷◌, codes}
use Rattle.ps_store.specs.declared.object.DictId.{DictId}
use Rattle.ps_tables.specs.Dictionaries.{Fields}
use Rattle.ps_tables.specs.Makers.{Maker, Fresh, Begun, Twice, More, Told}

-- `line column address symbols NewPoint`, `(name) static entry end frame saved points NewFunction`, `(file) functions NewUnit`
abbrev pub new_point : Maker
new_point = Fresh 4 (codes "symbols" ∷ codes "address" ∷ codes "column" ∷ codes "line" ∷ [])

abbrev pub new_function : Maker
new_function = Fresh 7 (codes "points" ∷ codes "saved" ∷ codes "frame" ∷ codes "end" ∷ codes "entry" ∷ codes "static" ∷ codes "name" ∷ [])

abbrev pub new_unit : Maker
new_unit = Fresh 2 (codes "functions" ∷ codes "file" ∷ [])

module _ (dict : DictId) (fields : Fields) where
  -- `to PointerTo`, `/tag size NewStruct`
  abbrev pub pointer_to : Maker
  pointer_to = Begun (codes "PointerType") dict fields 4 (codes "to" ∷ [])

  abbrev pub new_struct : Maker
  new_struct = Begun (codes "StructType") dict fields 5 (codes "size" ∷ codes "tag" ∷ [])

  -- `(label) where type NewString`, `(name) (label) where type NewObject`
  abbrev pub new_string : Maker
  new_string = Begun (codes "Variable") dict fields 6 (codes "type" ∷ codes "where" ∷ codes "label" ∷ [])

  abbrev pub new_object : Maker
  new_object = More (codes "NewString") new_string (codes "name" ∷ [])

  -- `(name) type where uplink NewSymbol`, and the same `FunctionSymbol`
  abbrev pub new_symbol : Maker
  new_symbol = Twice (codes "Variable") dict fields 6 (codes "uplink" ∷ codes "where" ∷ codes "type" ∷ []) (codes "name") (codes "label")

  abbrev pub function_symbol : Maker
  function_symbol = Told (codes "NewSymbol") new_symbol (codes "kind") (codes "function")
