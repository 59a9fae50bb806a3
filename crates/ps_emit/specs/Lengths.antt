-- How long the items of a table's text are.
use Rattle.std.specs.Prelude.{◌≡◌, ℕ, ℤ, ◌≤◌, ◌<◌, ◌^◌, List, length, Option, Some, None, slice_get}
use Rattle.ldb_words.specs.Word.{signed}
use Rattle.ps_scan.specs.Escaping.{escaped}
use Rattle.c_tree.specs.declared.types.CType.{CType}
use Rattle.c_tree.specs.declared.types.CType.TheVariants.{Pointer', Array', Struct}
use Rattle.c_tree.specs.declared.types.StructDef.{StructDef}
use Rattle.c_tree.specs.declared.types.Member.{Member}
use Rattle.c_tree.specs.declared.rows.Point.{Point}
use Rattle.c_tree.specs.declared.rows.SymbolRow.{SymbolRow}
use Rattle.c_tree.specs.declared.rows.ObjectRow.{ObjectRow}
use Rattle.c_tree.specs.declared.rows.UnitRow.{UnitRow}
use Rattle.c_tree.specs.declared.rows.Function.{Function}
use Rattle.c_tree.specs.declared.rows.Referent.{Referent}
use Rattle.c_tree.specs.declared.rows.Referent.TheVariants as refers
use Rattle.obj_file.specs.declared.object.LocalPlace.{LocalPlace}
use Rattle.obj_file.specs.declared.object.LocalPlace.TheVariants.{Slot, Reg}
use Rattle.obj_file.specs.declared.object.FunctionRow.{FunctionRow}
use Rattle.ps_text.specs.Code.{Code, render}
use Rattle.ps_emit.specs.Places.{Homes, file_in}
use Rattle.ps_emit.specs.Symbols.{entry_in}

-- how many bytes a term has, and how many as it stands in a deferred string
abbrev pub size : Code → ℕ
size k = length (render k)

abbrev pub written : Code → ℕ
written k = length (escaped (render k))

-- ---- what is known of a program and its placement

-- a word of 32 bits, and the number that one is with its sign
abbrev pub IsWord : ℕ → Type 0
IsWord n = n < 2 ^ 32

abbrev pub IsInteger : ℤ → Type 0
IsInteger z = (n : ℕ) × IsWord n × (z ≡ signed n)

-- a name of C: at most 63 bytes, none of which is escaped
pub record IsName (bytes : List ℕ) : Type 0 where
  pub plain : escaped bytes ≡ bytes
  pub short : length bytes ≤ 63

abbrev pub HasWords : CType → Type 0
HasWords (Pointer' _ t) = HasWords t
HasWords (Array' _ t n) = HasWords t × IsWord n
HasWords (Struct s) = IsWord s
HasWords other = Unit {0}

abbrev pub IsLink : Option ℕ → Type 0
IsLink None = Unit {0}
IsLink (Some s) = IsWord s

pub record IsPointRow (q : Point) : Type 0 where
  pub line : IsWord q.line
  pub column : IsWord q.column
  pub symbol : IsLink q.symbol

abbrev pub IsPlace : Option LocalPlace → Type 0
IsPlace None = Unit {0}
IsPlace (Some (Slot offset)) = IsInteger offset
IsPlace (Some (Reg r)) = IsWord r

-- what a name denotes has such a place
abbrev pub IsFound : List FunctionRow → Homes → Referent → Type 0
IsFound fs h (refers.Object o) = IsWord o
IsFound fs h (refers.Local x) = IsPlace (slice_get h.places x)
IsFound fs h (refers.Function f) = IsWord (entry_in (slice_get fs f))
IsFound fs h refers.Declared = Unit {0}

pub record IsSymbolRow (fs : List FunctionRow) (h : Homes) (s : ℕ) (row : SymbolRow) : Type 0 where
  pub number : IsWord s
  pub name : IsName row.name
  pub ctype : HasWords row.ctype
  pub up : IsLink row.up
  pub found : IsFound fs h row.refers

pub record IsMemberRow (m : Member) : Type 0 where
  pub name : IsName m.name
  pub at : IsWord m.at
  pub ctype : HasWords m.ctype

pub record IsStructRow (s : ℕ) (d : StructDef) : Type 0 where
  pub number : IsWord s
  pub tag : IsName d.tag
  pub size : IsWord d.size

-- a static object's file has a name of at most 255 bytes
pub record IsObjectRow (us : List UnitRow) (k place : ℕ) (o : ObjectRow) : Type 0 where
  pub number : IsWord k
  pub address : IsWord place
  pub name : IsName o.name
  pub ctype : HasWords o.ctype
  pub file : length (file_in (slice_get us o.unit)) ≤ 255

pub record IsFunctionRow (f : Function) (row : FunctionRow) : Type 0 where
  pub name : IsName f.name
  pub entry : IsWord row.entry
  pub end : IsWord row.end
  pub frame : IsWord row.frame
