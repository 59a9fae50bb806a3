-- The state in which a unit's symbols are made.
use Rattle.std.specs.Prelude.{◌≡◌, ◌<◌, ◌^◌, ℕ, zero, suc, nat_lt, if◌then◌else◌, false, codes, Option, Some, None, List, ◌∷◌, length, slice_get}
use Rattle.ldb_words.specs.Word.{signed}
use Rattle.c_tree.specs.declared.types.StructDef.{StructDef}
use Rattle.c_tree.specs.declared.rows.SymbolRow.{SymbolRow}
use Rattle.c_tree.specs.Layout.{struct_size_of}
use Rattle.ps_store.specs.declared.object.PsObj.{PsObj}
use Rattle.ps_store.specs.declared.object.PsObj.TheVariants.{Array}
use Rattle.ps_store.specs.declared.object.ArrayId.{ArrayId}
use Rattle.ps_store.specs.declared.object.DictId.{DictId}
use Rattle.ps_store.specs.declared.key.Key.TheVariants.{Int as IntKey}
use Rattle.ps_store.specs.Entries.{value_at}
use Rattle.ps_store.specs.StoreState.{StoreState}
use Rattle.ps_store.specs.Store.{entries_of}
use Rattle.ps_step.specs.Keys.{named}
use Rattle.ps_text.specs.Grown.{IsArray}
use Rattle.ps_emit.specs.Symbols.{up_in}
use Rattle.ps_tables.specs.Defined.{in_table}
use Rattle.ps_tables.specs.Senses.{BeginWith, Knowing}
use Rattle.ps_tables.specs.Types.{IsSized}
use Rattle.ps_tables.specs.WordsKnown.{word_senses}
use Rattle.unit_tables.specs.Amended.{HasNoNames}
use Rattle.unit_tables.specs.Shown.{Chained}

-- ---- names

-- a name outward of another one, or that one
pub data IsOutward (ss : List SymbolRow) : (inner outer : ℕ) → Type 0 where
  here : (n : ℕ) → IsOutward ss n n
  further : (n m outer : ℕ) → up_in (slice_get ss n) ≡ Some m → IsOutward ss m outer → IsOutward ss n outer

-- a name on the chain of the one below which all are made
abbrev pub IsMade : List SymbolRow → (made : ℕ) → ℕ → Type 0
IsMade ss zero n = ⊥
IsMade ss (suc top) n = IsOutward ss top n

-- the first name of a chain with a number below `made`
abbrev pub first_made : ℕ → List SymbolRow → (made : ℕ) → Option ℕ → Option ℕ
first_made zero ss made x = None
first_made (suc n) ss made None = None
first_made (suc n) ss made (Some s) = if nat_lt s made then Some s else first_made n ss made (up_in (slice_get ss s))

-- ---- arrays of the table

-- `objects` is an array that begins with so many static objects
pub record HasObjects (s : StoreState) (ds : List DictId) (count : ℕ) : Type 0 where
  pub array : ArrayId
  pub items : List PsObj
  pub means : named s ds (codes "objects") ≡ Some (Array array false)
  pub holds : IsArray s array items
  pub are : BeginWith s count items

-- `structs` is an array of the structs' types, each of its size
pub record HasStructs (s : StoreState) (ds : List DictId) (defs : List StructDef) : Type 0 where
  pub array : ArrayId
  pub items : List PsObj
  pub means : named s ds (codes "structs") ≡ Some (Array array false)
  pub holds : IsArray s array items
  pub sized : (n : ℕ) → n < length defs → (x : PsObj) × (slice_get items n ≡ Some x) × IsSized s x (struct_size_of defs n)

-- ---- the state

-- the symbol with a number stands under it in a dictionary
pub record IsDefined (s : StoreState) (d : DictId) (defs : List StructDef) (ss : List SymbolRow) (n : ℕ) : Type 0 where
  pub word : n < 2 ^ 32
  pub object : PsObj
  pub found : value_at (entries_of s d) (IntKey (signed n)) ≡ Some object
  pub chain : Chained s defs ss object (Some n)

-- The table's words have their senses, a unit's dictionary is on top, which has so many entries at most and no names, and these symbols stand in it.
pub record Running (defs : List StructDef) (ss : List SymbolRow) (objects : ℕ) (s : StoreState) (i : ℕ) (ds : List DictId) (entries : ℕ) (made : ℕ → Type 0) : Type 0 where
  pub knowing : Knowing s i ds entries word_senses
  pub nameless : HasNoNames s (in_table i)
  pub structs : HasStructs s (in_table i ∷ ds) defs
  pub listed : HasObjects s (in_table i ∷ ds) objects
  pub defined : (n : ℕ) → made n → IsDefined s (in_table i) defs ss n
