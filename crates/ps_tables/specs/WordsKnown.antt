-- The words that a table begins with, and what they stand for.
use Rattle.std.specs.Prelude.{List, [], ◌∷◌, codes}
use Rattle.ps_store.specs.declared.object.PsObj.{PsObj}
use Rattle.ps_text.specs.Code.{Code, Stop, Word}
use Rattle.ps_tables.specs.Making.{taking, making, copying, begun_as, sharing}
use Rattle.ps_tables.specs.Makers.{telling}
use Rattle.ps_tables.specs.Types.{array_body}
use Rattle.ps_tables.specs.Pieces.{IsNoMark}
use Rattle.ps_tables.specs.Senses.{Sense, Stands, Sized, Kind, Variables, Called, Senses}

-- ---- procedures

abbrev pub pointer_body : Code
pointer_body = begun_as (codes "PointerType") 4 (codes "to" ∷ []) Stop

abbrev pub struct_body : Code
struct_body = begun_as (codes "StructType") 5 (codes "size" ∷ codes "tag" ∷ []) Stop

abbrev pub string_body : Code
string_body = begun_as (codes "Variable") 6 (codes "type" ∷ codes "where" ∷ codes "label" ∷ []) Stop

abbrev pub object_body : Code
object_body = Word (codes "NewString") (taking (codes "name" ∷ []) Stop)

abbrev pub object_symbol_body : Code
object_symbol_body = copying 6 (codes "uplink" ∷ []) Stop

abbrev pub symbol_body : Code
symbol_body = begun_as (codes "Variable") 6 (codes "uplink" ∷ codes "where" ∷ codes "type" ∷ []) (sharing (codes "name") (taking (codes "label" ∷ []) Stop))

abbrev pub function_symbol_body : Code
function_symbol_body = Word (codes "NewSymbol") (telling (codes "kind") (codes "function") Stop)

abbrev pub point_body : Code
point_body = making 4 (codes "symbols" ∷ codes "address" ∷ codes "column" ∷ codes "line" ∷ [])

abbrev pub function_body : Code
function_body = making 7 (codes "points" ∷ codes "saved" ∷ codes "frame" ∷ codes "end" ∷ codes "entry" ∷ codes "static" ∷ codes "name" ∷ [])

abbrev pub unit_body : Code
unit_body = making 2 (codes "functions" ∷ codes "file" ∷ [])

-- ---- words

-- the printers that the prelude leaves
pub record Printers : Type 0 where
  pub int : PsObj
  pub unsigned : PsObj
  pub char : PsObj
  pub pointer : PsObj
  pub array : PsObj
  pub struct : PsObj

-- none is a mark
abbrev pub AreNoMarks : Printers → Type 0
AreNoMarks p = IsNoMark p.int × IsNoMark p.unsigned × IsNoMark p.char × IsNoMark p.pointer × IsNoMark p.array × IsNoMark p.struct

abbrev pub printer_senses : Printers → Senses
printer_senses p =
    (codes "PrintInt", Stands p.int) ∷ (codes "PrintUnsigned", Stands p.unsigned) ∷ (codes "PrintChar", Stands p.char) ∷ (codes "PrintPointer", Stands p.pointer)
    ∷ (codes "PrintArray", Stands p.array) ∷ (codes "PrintStruct", Stands p.struct) ∷ []

-- the last one that is defined first
abbrev pub word_senses : Senses
word_senses =
    (codes "NewUnit", Called unit_body) ∷ (codes "NewFunction", Called function_body) ∷ (codes "NewPoint", Called point_body)
    ∷ (codes "FunctionSymbol", Called function_symbol_body) ∷ (codes "NewSymbol", Called symbol_body) ∷ (codes "ObjectSymbol", Called object_symbol_body)
    ∷ (codes "NewObject", Called object_body) ∷ (codes "NewString", Called string_body) ∷ (codes "Variable", Variables)
    ∷ (codes "NewStruct", Called struct_body) ∷ (codes "ArrayOf", Called array_body) ∷ (codes "PointerTo", Called pointer_body)
    ∷ (codes "StructType", Kind) ∷ (codes "ArrayType", Kind) ∷ (codes "PointerType", Sized 4)
    ∷ (codes "char", Sized 1) ∷ (codes "unsigned", Sized 4) ∷ (codes "int", Sized 4) ∷ []
