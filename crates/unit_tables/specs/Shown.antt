-- What the symbols, points and functions of a table are in a store: dictionaries with the keys that a debugger reads.
use Rattle.std.specs.Prelude.{◌≡◌, ℕ, ℤ, pos, ◌∷◌, [], List, codes, true, false, Option, Some, None, slice_get}
use Rattle.ldb_words.specs.Word.{signed}
use Rattle.c_tree.specs.declared.types.StructDef.{StructDef}
use Rattle.c_tree.specs.declared.rows.SymbolRow.{SymbolRow}
use Rattle.c_tree.specs.declared.rows.Referent.{Referent}
use Rattle.c_tree.specs.declared.rows.Referent.TheVariants as refers
use Rattle.c_tree.specs.declared.rows.Point.{Point}
use Rattle.c_tree.specs.declared.rows.Function.{Function}
use Rattle.obj_file.specs.declared.object.FunctionRow.{FunctionRow as Placed}
use Rattle.ps_store.specs.declared.object.PsObj.{PsObj}
use Rattle.ps_store.specs.declared.object.PsObj.TheVariants.{Int, Bool as Truth, Str, Array, Dict, Null}
use Rattle.ps_store.specs.declared.object.ArrayId.{ArrayId}
use Rattle.ps_store.specs.declared.object.DictId.{DictId}
use Rattle.ps_store.specs.declared.object.StringId.{StringId}
use Rattle.ps_store.specs.declared.key.Key.TheVariants.{Name as NameKey}
use Rattle.ps_store.specs.Entries.{value_at}
use Rattle.ps_store.specs.StoreState.{StoreState}
use Rattle.ps_store.specs.Store.{entries_of}
use Rattle.ps_text.specs.Grown.{IsArray, IsString}
use Rattle.ps_tables.specs.Later.{IsThere}
use Rattle.ps_tables.specs.Types.{written, IsType}

-- a dictionary has this value under a name
abbrev pub Has : StoreState → DictId → List ℕ → PsObj → Type 0
Has s d name v = value_at (entries_of s d) (NameKey name) ≡ Some v

-- ---- symbols

-- What is known of a symbol's name and type. A symbol of a static object has those of the object.
abbrev pub IsOwn : StoreState → List StructDef → SymbolRow → Referent → (name : StringId) → (ctype : PsObj) → Type 0
IsOwn s defs row (refers.Object o) name ctype = Unit {0}
IsOwn s defs row other name ctype = IsString s name row.name × IsType s ctype (written defs row.ctype)

-- a symbol, whose place is a procedure, and what stands outward of it
pub record IsSymbol (s : StoreState) (defs : List StructDef) (d : DictId) (row : SymbolRow) (uplink : PsObj) : Type 0 where
  pub there : IsThere s d
  pub kind : PsObj
  pub has_kind : Has s d (codes "kind") kind
  pub has_uplink : Has s d (codes "uplink") uplink
  pub ctype : PsObj
  pub has_type : Has s d (codes "type") ctype
  pub place : ArrayId
  pub has_place : Has s d (codes "where") (Array place true)
  pub label : StringId
  pub has_label : Has s d (codes "label") (Str label false)
  pub name : StringId
  pub has_name : Has s d (codes "name") (Str name false)
  pub own : IsOwn s defs row row.refers name ctype

-- The symbol with a number, and all that stand outward of it; no symbol is null.
pub data Chained (s : StoreState) (defs : List StructDef) (ss : List SymbolRow) : PsObj → Option ℕ → Type 0 where
  outermost : Chained s defs ss Null None
  symbol : (d : DictId) (n : ℕ) (row : SymbolRow) (uplink : PsObj) → slice_get ss n ≡ Some row → IsSymbol s defs d row uplink → Chained s defs ss uplink row.up
      → Chained s defs ss (Dict d) (Some n)

-- ---- points

-- a stopping point at an address
pub record IsPoint (s : StoreState) (defs : List StructDef) (ss : List SymbolRow) (x : PsObj) (q : Point) (address : ℕ) : Type 0 where
  pub dict : DictId
  pub is : x ≡ Dict dict
  pub there : IsThere s dict
  pub has_line : Has s dict (codes "line") (Int (signed q.line))
  pub has_column : Has s dict (codes "column") (Int (signed q.column))
  pub has_address : Has s dict (codes "address") (Int (signed address))
  pub symbols : PsObj
  pub has_symbols : Has s dict (codes "symbols") symbols
  pub chain : Chained s defs ss symbols q.symbol

abbrev pub ArePoints : StoreState → List StructDef → List SymbolRow → List PsObj → List (Point × ℕ) → Type 0
ArePoints s defs ss [] [] = Unit {0}
ArePoints s defs ss (x ∷ xs) (q ∷ qs) = IsPoint s defs ss x q.0 q.1 × ArePoints s defs ss xs qs
ArePoints s defs ss xs qs = ⊥

-- ---- functions

-- saved registers, each with its offset
abbrev pub AreSaved : StoreState → List PsObj → List (ℕ × ℤ) → Type 0
AreSaved s [] [] = Unit {0}
AreSaved s (x ∷ xs) (r ∷ rs) = ((a : ArrayId) × (x ≡ Array a false) × IsArray s a (Int (pos r.0) ∷ Int r.1 ∷ [])) × AreSaved s xs rs
AreSaved s xs rs = ⊥

-- a function, with those points
pub record IsFunction (s : StoreState) (defs : List StructDef) (ss : List SymbolRow) (x : PsObj) (f : Function) (at : Placed) (rows : List (Point × ℕ)) : Type 0 where
  pub dict : DictId
  pub is : x ≡ Dict dict
  pub there : IsThere s dict
  pub name : StringId
  pub has_name : Has s dict (codes "name") (Str name false)
  pub named : IsString s name f.name
  pub has_static : Has s dict (codes "static") (Truth f.is_static)
  pub has_entry : Has s dict (codes "entry") (Int (signed at.entry))
  pub has_end : Has s dict (codes "end") (Int (signed at.end))
  pub has_frame : Has s dict (codes "frame") (Int (signed at.frame))
  pub saved : ArrayId
  pub has_saved : Has s dict (codes "saved") (Array saved false)
  pub registers : List PsObj
  pub holds_saved : IsArray s saved registers
  pub are_saved : AreSaved s registers at.saved
  pub points : ArrayId
  pub has_points : Has s dict (codes "points") (Array points false)
  pub items : List PsObj
  pub holds_points : IsArray s points items
  pub are_points : ArePoints s defs ss items rows
