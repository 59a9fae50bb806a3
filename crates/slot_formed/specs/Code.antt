-- The slot code of a whole program, row by row.
use Rattle.std.specs.Prelude.{◌≡◌, slice_get, ℕ, suc, List, [], ◌∷◌, Option, Some, None, map, drop, if◌then◌else◌}
use Rattle.std.specs.List.{AllZip}
use Rattle.ldb_words.specs.declared.kinds.Kind.{Kind}
use Rattle.ldb_words.specs.declared.kinds.Kind.TheVariants.{Address}
use Rattle.c_tree.specs.declared.types.CType.TheVariants.{Struct}
use Rattle.c_tree.specs.declared.types.StructDef.{StructDef}
use Rattle.c_tree.specs.declared.types.Leaf.{Leaf}
use Rattle.c_tree.specs.declared.rows.Program.{Program}
use Rattle.c_tree.specs.declared.rows.Function.{Function}
use Rattle.c_tree.specs.declared.rows.Local.{Local}
use Rattle.c_tree.specs.declared.rows.ObjectRow.{ObjectRow}
use Rattle.c_tree.specs.declared.rows.Start.{Start}
use Rattle.c_tree.specs.declared.rows.Start.TheVariants as tree
use Rattle.c_tree.specs.Layout.{size_of, leaves_of}
use Rattle.c_tree.specs.Ordered.{width_of}
use Rattle.c_source.specs.Begin.{main_from}
use Rattle.slot_ir.specs.declared.code.Home.{Home}
use Rattle.slot_ir.specs.declared.code.Home.TheVariants.{Block, Register}
use Rattle.slot_ir.specs.declared.code.SlotOp.{SlotOp}
use Rattle.slot_ir.specs.declared.code.SlotOp.TheVariants.{Stop}
use Rattle.slot_ir.specs.declared.code.SlotCode.{SlotCode}
use Rattle.slot_ir.specs.declared.code.SlotFunction.{SlotFunction}
use Rattle.slot_ir.specs.declared.code.SlotLocal.{SlotLocal}
use Rattle.slot_ir.specs.declared.code.SlotObject.{SlotObject}
use Rattle.slot_ir.specs.declared.code.SlotStart.{SlotStart}
use Rattle.slot_ir.specs.declared.code.SlotStruct.{SlotStruct}
use Rattle.slot_ir.specs.declared.code.SlotValue.{SlotValue}
use Rattle.slot_ir.specs.declared.code.SlotValue.TheVariants as slot
use Rattle.slot_gen.specs.Expressions.{access_of, registers_from, register_at}
use Rattle.slot_gen.specs.Statements.{function_code}
use Rattle.slot_gen.specs.Bounds.{function_temps, AreBelow}
use Rattle.slot_gen.specs.Rows.{member_of, is_stop}

-- ---- functions

abbrev pub home_of : Option ℕ → Home
home_of None = Block
home_of (Some r) = Register r

abbrev pub local_row : List StructDef → Local → Option ℕ → SlotLocal
local_row defs l r = record { home = home_of r; access = access_of l.ctype; size = size_of defs l.ctype; leaves = leaves_of defs l.ctype }

-- locals, and the register of each that is in one
abbrev pub local_rows : List StructDef → List Local → List (Option ℕ) → List SlotLocal
local_rows defs [] rs = []
local_rows defs (l ∷ ls) rs = local_row defs l (register_at rs 0) ∷ local_rows defs ls (drop 1 rs)

-- where a stopping point stands first in a code
abbrev pub stop_place : ℕ → List SlotOp → ℕ
stop_place q [] = 0
stop_place q (op ∷ rest) = if is_stop q op then 0 else suc (stop_place q rest)

abbrev pub stop_places : List SlotOp → List ℕ → List ℕ
stop_places code qs = map (λ q. stop_place q code) qs

-- the row of function number f
abbrev pub function_row : Program → ℕ → Function → SlotFunction
function_row p f fn = record {
  name = fn.name;
  params = fn.params;
  locals = local_rows p.defs fn.locals (registers_from fn.locals 0);
  temporaries = function_temps fn;
  points = fn.points;
  places = stop_places (function_code p f fn) fn.points;
  code = function_code p f fn;
}

abbrev pub function_rows : Program → ℕ → List Function → List SlotFunction
function_rows p f [] = []
function_rows p f (fn ∷ rest) = function_row p f fn ∷ function_rows p (suc f) rest

-- ---- static objects and structs

-- what a leaf of a kind holds at first; an address that is a number is null
abbrev pub start_value : Kind → Start → SlotValue
start_value Address (tree.Number n) = slot.Null
start_value k (tree.Number n) = slot.Number n
start_value k (tree.Object o i) = slot.Object o i
start_value k (tree.Str s) = slot.Str s

abbrev pub start_row : Leaf → Start → SlotStart
start_row l x = record { at = l.at; width = width_of l.kind; value = start_value l.kind x }

abbrev pub start_rows : List Leaf → List Start → List SlotStart
start_rows [] xs = []
start_rows (l ∷ ls) [] = []
start_rows (l ∷ ls) (x ∷ xs) = start_row l x ∷ start_rows ls xs

abbrev pub object_row : Program → ObjectRow → SlotObject
object_row p row = record { name = row.name; size = size_of p.defs row.ctype; start = start_rows (leaves_of p.defs row.ctype) row.start }

abbrev pub struct_row : List StructDef → ℕ → StructDef → SlotStruct
struct_row defs s d = record { size = d.size; members = map member_of d.members; leaves = leaves_of defs (Struct s) }

abbrev pub struct_rows : List StructDef → ℕ → List StructDef → List SlotStruct
struct_rows defs s [] = []
struct_rows defs s (d ∷ rest) = struct_row defs s d ∷ struct_rows defs (suc s) rest

-- ---- the code of a program

-- each point has a place at which its stop stands
abbrev pub ArePlaces : List SlotOp → List ℕ → List ℕ → Type 0
ArePlaces code qs is = AllZip (λ q i. slice_get code i ≡ Some (Stop q)) qs is

-- The row of function number f. It may have more temporaries than its code names.
pub record IsFunctionRow (p : Program) (f : ℕ) (fn : Function) (g : SlotFunction) : Type 0 where
  pub name : g.name ≡ fn.name
  pub params : g.params ≡ fn.params
  pub locals : g.locals ≡ local_rows p.defs fn.locals (registers_from fn.locals 0)
  pub temporaries : AreBelow g.temporaries g.code
  pub points : g.points ≡ fn.points
  pub places : ArePlaces g.code g.points g.places
  pub code : g.code ≡ function_code p f fn

abbrev pub AreFunctionRows : Program → ℕ → List Function → List SlotFunction → Type 0
AreFunctionRows p f [] [] = Unit {0}
AreFunctionRows p f (fn ∷ fns) (g ∷ gs) = IsFunctionRow p f fn g × AreFunctionRows p (suc f) fns gs
AreFunctionRows p f _ _ = ⊥

pub record IsProgramCode (p : Program) (c : SlotCode) : Type 0 where
  pub functions : AreFunctionRows p 0 p.functions c.functions
  pub main : c.main ≡ main_from 0 p.functions
  pub objects : c.objects ≡ map (object_row p) p.objects
  pub strings : c.strings ≡ p.strings
  pub structs : c.structs ≡ struct_rows p.defs 0 p.defs

-- ---- such a code, with the fewest temporaries that the tree tells

abbrev pub program_code : Program → SlotCode
program_code p = record {
  functions = function_rows p 0 p.functions;
  main = main_from 0 p.functions;
  objects = map (object_row p) p.objects;
  strings = p.strings;
  structs = struct_rows p.defs 0 p.defs;
}
