-- How a unit makes its symbols: what they are made of, in how many steps, and with how many units at most.
use Rattle.std.specs.Prelude.{◌<◌, ◌≤◌, ◌^◌, ℕ, ◌+◌, codes, Option, Some, None, List, ◌∷◌, length, slice_get}
use Rattle.ldb_words.specs.Word.{signed}
use Rattle.obj_file.specs.declared.object.LocalPlace.{LocalPlace}
use Rattle.obj_file.specs.declared.object.LocalPlace.TheVariants.{Slot, Reg}
use Rattle.c_tree.specs.declared.types.StructDef.{StructDef}
use Rattle.c_tree.specs.declared.rows.SymbolRow.{SymbolRow}
use Rattle.c_tree.specs.declared.rows.Referent.{Referent}
use Rattle.c_tree.specs.declared.rows.Referent.TheVariants as refers
use Rattle.ps_store.specs.declared.object.PsObj.{PsObj}
use Rattle.ps_store.specs.declared.object.PsObj.TheVariants.{Null}
use Rattle.ps_store.specs.declared.object.DictId.{DictId}
use Rattle.ps_store.specs.declared.object.StringId.{StringId}
use Rattle.ps_store.specs.StoreState.{StoreState}
use Rattle.ps_store.specs.Store.{text_units}
use Rattle.ps_step.specs.declared.item.Item.{Item}
use Rattle.ps_step.specs.declared.item.Item.TheVariants.{Text as TextItem}
use Rattle.ps_text.specs.Code.{Code, Stop, Num, Word, Proc}
use Rattle.ps_text.specs.Spells.{units}
use Rattle.ps_emit.specs.Places.{Homes, home_words}
use Rattle.ps_emit.specs.Lengths.{IsInteger}
use Rattle.ps_terms.specs.Stands.{core}
use Rattle.ps_tables.specs.Taken.{Takes}
use Rattle.ps_tables.specs.Later.{StandsAt}
use Rattle.ps_tables.specs.Defined.{in_table}
use Rattle.ps_tables.specs.Types.{written, type_steps, type_cost}
use Rattle.ps_tables.specs.Pieces.{Piece, End, Chars, Quote, Value, Element, Loaded, Typed}
use Rattle.ps_tables.specs.Runnable.{RunsType}
use Rattle.unit_tables.specs.Amended.{Amended}
use Rattle.unit_tables.specs.Running.{Running}

-- ---- what they are made of

-- the symbol of a number, which is this object, or null
abbrev pub linked_then : Option ℕ → PsObj → Piece → Piece
linked_then None x rest = Value (codes "null") Null rest
linked_then (Some s) x rest = Loaded (signed s) x rest

-- a name, a type, a place and a symbol outward
abbrev pub named_parts : List StructDef → SymbolRow → (place : Code) → (uplink : PsObj) → Piece
named_parts defs row place uplink = Chars row.name (Typed (written defs row.ctype) (Quote place (linked_then row.up uplink End)))

-- a symbol outward and a static object
abbrev pub object_parts : SymbolRow → (uplink : PsObj) → (o : ℕ) → (object : PsObj) → Piece
object_parts row uplink o object = linked_then row.up uplink (Element (codes "objects") o object End)

abbrev pub address_words : ℕ → Code
address_words address = Num (signed address) (Word (codes "Absolute") Stop)

-- ---- steps and units

abbrev pub link_steps : Option ℕ → ℕ
link_steps None = 1
link_steps (Some s) = 2

abbrev pub link_made : Option ℕ → ℕ
link_made None = text_units (codes "null")
link_made (Some s) = text_units (codes "load")

abbrev pub steps_by : List StructDef → SymbolRow → Referent → ℕ
steps_by defs row (refers.Object o) = 15 + link_steps row.up
steps_by defs row (refers.Local x) = 38 + type_steps (written defs row.ctype) + link_steps row.up
steps_by defs row other = 43 + type_steps (written defs row.ctype) + link_steps row.up

abbrev pub symbol_steps : List StructDef → SymbolRow → ℕ
symbol_steps defs row = steps_by defs row row.refers

abbrev pub units_by : List StructDef → Homes → SymbolRow → Referent → ℕ
units_by defs h row (refers.Object o) = 16 + link_made row.up
units_by defs h row (refers.Local x) = text_units row.name + type_cost (written defs row.ctype) + units (Proc (home_words h x) Stop) + link_made row.up + 12
units_by defs h row other = text_units row.name + type_cost (written defs row.ctype) + link_made row.up + 17

abbrev pub symbol_made : List StructDef → Homes → SymbolRow → ℕ
symbol_made defs h row = units_by defs h row row.refers

-- ---- conditions

-- a place of a local is an offset of 32 bits or a register that is an integer of the dialect
abbrev pub RunsPlace : Option LocalPlace → Type 0
RunsPlace None = Unit {0}
RunsPlace (Some (Slot offset)) = IsInteger offset
RunsPlace (Some (Reg r)) = r < 2 ^ 31

-- the places of a function's locals are so
abbrev pub ArePlaces : Homes → Type 0
ArePlaces h = (x : ℕ) → RunsPlace (slice_get h.places x)

-- What a name denotes is there: an object is one of so many.
abbrev pub RunsReferent : List StructDef → (objects : ℕ) → SymbolRow → Referent → Type 0
RunsReferent defs objects row (refers.Object o) = o < objects
RunsReferent defs objects row other = RunsType defs row.ctype

-- a symbol whose name is no longer than a string, and whose type runs
pub record RunsSymbol (defs : List StructDef) (objects : ℕ) (row : SymbolRow) : Type 0 where
  pub name : length row.name ≤ 16777216
  pub referent : RunsReferent defs objects row row.refers

-- ---- what a run does

-- A symbol is made and stands under its number: so many steps, so many units at most, and the operands are as before.
pub record DefinesSymbol (defs : List StructDef) (ss : List SymbolRow) (objects cost steps : ℕ) (s : StoreState) (i : ℕ) (ds : List DictId) (entries : ℕ) (made : ℕ → Type 0)
    (o : List PsObj) (t : StringId) (at : ℕ) (rest : List ℕ) (under : List Item) : Type 0 where
  pub store : StoreState
  pub to : ℕ
  pub running : Running defs ss objects store i ds entries made
  pub amended : Amended cost (in_table i) s store
  pub stands : StandsAt store t to rest
  pub takes : Takes steps (core s (in_table i ∷ ds) o (TextItem t at ∷ under)) (core store (in_table i ∷ ds) o (TextItem t to ∷ under))
