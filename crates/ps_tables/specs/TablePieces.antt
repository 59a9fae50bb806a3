-- The parts of a table's text as pieces.
use Rattle.std.specs.Prelude.{ℕ, ℤ, pos, suc, false, List, [], ◌∷◌, length, codes, Option, Some, None}
use Rattle.ldb_words.specs.Word.{signed}
use Rattle.obj_file.specs.declared.object.FunctionRow.{FunctionRow}
use Rattle.c_tree.specs.declared.types.StructDef.{StructDef}
use Rattle.c_tree.specs.declared.types.Member.{Member}
use Rattle.c_tree.specs.declared.rows.ObjectRow.{ObjectRow}
use Rattle.c_tree.specs.declared.rows.Program.{Program}
use Rattle.c_tree.specs.declared.rows.UnitRow.{UnitRow}
use Rattle.c_tree.specs.declared.rows.Point.{Point}
use Rattle.ps_store.specs.declared.object.PsObj.{PsObj}
use Rattle.ps_store.specs.declared.object.PsObj.TheVariants.{Array, Null}
use Rattle.ps_store.specs.declared.object.ArrayId.{ArrayId}
use Rattle.ps_store.specs.declared.object.DictId.{DictId}
use Rattle.ps_text.specs.Code.{Code, Stop, Num, Word, Lit, render}
use Rattle.ps_emit.specs.declared.placement.Placement.{Placement}
use Rattle.ps_emit.specs.Terms.{anchor_name}
use Rattle.ps_emit.specs.Functions.{deferred}
use Rattle.ps_emit.specs.Places.{object_label, string_label}
use Rattle.ps_emit.specs.Table.{target_name}
use Rattle.ps_tables.specs.TableWords.{new_point, new_unit, new_struct, new_string, new_object}
use Rattle.ps_tables.specs.Dictionaries.{Fields}
use Rattle.ps_tables.specs.Types.{written, Basic, Many}
use Rattle.ps_tables.specs.Pieces.{Piece, End, Number, Literal, Chars, Quote, Value, Element, Make, Row, Loaded, Deferred, Field, Pairs, Typed}

-- a procedure that leaves the place of an anchor
abbrev pub anchor_body : ℕ → Code
anchor_body k = Num (pos 0) (Lit (anchor_name k) (Word (codes "Anchor") (Word (codes "Absolute") Stop)))

-- a register that a function saves
abbrev pub saved : ℕ → ℤ → Piece → Piece
saved register offset rest = Row (Number (pos register) (Number offset End)) rest

-- the symbol of a number, where the dictionaries have this object under it; or null
abbrev pub link : Option ℕ → PsObj → Piece
link None x = Value (codes "null") Null End
link (Some s) x = Loaded (signed s) x End

-- a stopping point, whose symbol is this object
abbrev pub point : (address : ℕ) → Point → PsObj → Piece → Piece
point address q x rest = Make (codes "NewPoint") new_point (Number (signed q.line) (Number (signed q.column) (Number (signed address) (link q.symbol x)))) rest

-- the addresses of the static objects and strings, from a number on
abbrev pub anchors : ℕ → List (List ℕ × ℕ) → Piece
anchors k [] = End
anchors k (a ∷ rest) = Field (anchor_name k) (Number (signed a.1) End) (anchors (suc k) rest)

-- the structs' types by their tags, from a number on, where the array of the structs holds these objects
abbrev pub tags : ℕ → List StructDef → List PsObj → Piece
tags s (d ∷ ds) (x ∷ xs) = Field d.tag (Element (codes "structs") s x End) (tags (suc s) ds xs)
tags s ds xs = End

-- ---- structs

-- an array of a member's name, its offset and its type
abbrev pub members : List StructDef → List Member → Piece
members defs [] = End
members defs (m ∷ ms) = Row (Chars m.name (Number (signed m.at) (Typed (written defs m.ctype) End))) (members defs ms)

module _ (dict : DictId) (fields : Fields) where
  -- the structs, whose members come later, where the dictionary that they begin as is this one
  abbrev pub structs : List StructDef → Piece
  structs [] = End
  structs (d ∷ ds) = Make (codes "NewStruct") (new_struct dict fields) (Literal d.tag (Number (signed d.size) End)) (structs ds)

  -- ---- objects

  -- the objects from a number on, where symbols of variables begin as this dictionary
  abbrev pub objects_then : List StructDef → List UnitRow → ℕ → List ObjectRow → Piece → Piece
  objects_then defs us k [] rest = rest
  objects_then defs us k (o ∷ os) rest =
      Make (codes "NewObject") (new_object dict fields) (Chars o.name (Chars (object_label us o) (Quote (anchor_body k) (Typed (written defs o.ctype) End)))) (objects_then defs us (suc k) os rest)

  -- the strings from a number on, each an array of characters
  abbrev pub strings : (k anchor : ℕ) → List (List ℕ) → Piece
  strings k anchor [] = End
  strings k anchor (t ∷ ts) =
      Make (codes "NewString") (new_string dict fields) (Chars (string_label k) (Quote (anchor_body anchor) (Typed (Many (Basic (codes "char") 1) (suc (length t))) End))) (strings (suc k) (suc anchor) ts)

  abbrev pub objects : Program → Piece
  objects p = Row (objects_then p.defs p.units 0 p.objects (strings 0 (length p.objects) p.strings)) End

-- ---- units

-- the units, whose functions are made later
abbrev pub units : Program → List FunctionRow → List UnitRow → Piece
units p fs [] = End
units p fs (u ∷ us) = Make (codes "NewUnit") new_unit (Chars u.file (Deferred (render (deferred p fs u)) End)) (units p fs us)

-- the dictionary that a table leaves, where `objects` is this array and `structs` holds these objects
abbrev pub top : Program → Placement → (objects : ArrayId) → (structs : List PsObj) → Piece
top p at objects structs = Pairs (
    Field (codes "ldb") (Number (pos 1) End) (
    Field (codes "target") (Chars (target_name at.target) End) (
    Field (codes "anchors") (Pairs (anchors 0 at.anchors) End) (
    Field (codes "structs") (Pairs (tags 0 p.defs structs) End) (
    Field (codes "objects") (Value (codes "objects") (Array objects false) End) (
    Field (codes "units") (Row (units p at.functions p.units) End) End)))))) End
