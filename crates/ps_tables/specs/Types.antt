-- Types in the text of a table.
use Rattle.std.specs.Prelude.{◌≡◌, ℕ, pos, suc, ◌+◌, ◌*◌, ◌<◌, ◌^◌, false, Some, List, [], ◌∷◌, slice_get, codes}
use Rattle.ldb_words.specs.Word.{signed}
use Rattle.c_tree.specs.declared.types.CType.{CType}
use Rattle.c_tree.specs.declared.types.CType.TheVariants as types
use Rattle.c_tree.specs.declared.types.StructDef.{StructDef}
use Rattle.c_tree.specs.Layout.{struct_size_of}
use Rattle.ps_store.specs.declared.object.PsObj.{PsObj}
use Rattle.ps_store.specs.declared.object.PsObj.TheVariants.{Int, Array, Dict, Null}
use Rattle.ps_store.specs.declared.object.ArrayId.{ArrayId}
use Rattle.ps_store.specs.declared.object.DictId.{DictId}
use Rattle.ps_store.specs.declared.key.Key.TheVariants.{Name as NameKey}
use Rattle.ps_store.specs.Entries.{value_at}
use Rattle.ps_store.specs.StoreState.{StoreState}
use Rattle.ps_store.specs.Store.{entries_of, text_units}
use Rattle.ps_step.specs.Keys.{named}
use Rattle.ps_text.specs.Code.{Code, Stop, Num, Word}
use Rattle.ps_text.specs.Grown.{IsArray}
use Rattle.ps_text.specs.Spells.{Fine}
use Rattle.ps_terms.specs.Machine.{Does}
use Rattle.ps_terms.specs.Stands.{Means}
use Rattle.ps_terms.specs.Printing.{further}
use Rattle.ps_tables.specs.Dictionaries.{Fields}
use Rattle.ps_tables.specs.Making.{begun_as, array_making, HasFields}
use Rattle.ps_tables.specs.Later.{IsThere}
use Rattle.ps_tables.specs.Makers.{body, Ready}
use Rattle.ps_tables.specs.TableWords.{pointer_to}

-- A type as it is written: a word that stands for a type of so many bytes; none; a pointer; so many of a type; the struct with a number, of so many bytes.
pub data Type' : Type 0 where
  Basic : (word : List ℕ) (size : ℕ) → Type'
  Nothing : Type'
  To : (t : Type') → Type'
  Many : (t : Type') (n : ℕ) → Type'
  Numbered : (s size : ℕ) → Type'

-- a type of C, among these structs
abbrev pub written : List StructDef → CType → Type'
written defs types.Char = Basic (codes "char") 1
written defs types.Int = Basic (codes "int") 4
written defs types.Unsigned = Basic (codes "unsigned") 4
written defs types.Void = Nothing
written defs (types.Pointer' _ t) = To (written defs t)
written defs (types.Array' _ t n) = Many (written defs t) n
written defs (types.Struct s) = Numbered s (struct_size_of defs s)

abbrev pub type_term : Type' → Code → Code
type_term (Basic word size) k = Word word k
type_term Nothing k = Word (codes "null") k
type_term (To t) k = type_term t (Word (codes "PointerTo") k)
type_term (Many t n) k = type_term t (Num (signed n) (Word (codes "ArrayOf") k))
type_term (Numbered s size) k = Word (codes "structs") (Num (signed s) (Word (codes "get") k))

-- its bytes
abbrev pub bytes_of_type : Type' → ℕ
bytes_of_type (Basic word size) = size
bytes_of_type Nothing = 0
bytes_of_type (To t) = 4
bytes_of_type (Many t n) = n * bytes_of_type t
bytes_of_type (Numbered s size) = size

-- the steps that it takes, and the units that it makes at most
abbrev pub type_steps : Type' → ℕ
type_steps (Basic word size) = 1
type_steps Nothing = 1
type_steps (To t) = further (type_steps t) 11
type_steps (Many t n) = further (type_steps t) 30
type_steps (Numbered s size) = 3

abbrev pub type_cost : Type' → ℕ
type_cost (Basic word size) = text_units word
type_cost Nothing = text_units (codes "null")
type_cost (To t) = type_cost t + (text_units (codes "PointerTo") + 5)
type_cost (Many t n) = type_cost t + (text_units (codes "ArrayOf") + 6)
type_cost (Numbered s size) = text_units (codes "structs") + text_units (codes "get")

-- ---- what is known of the words

-- an object is a dictionary that is there, with a size
pub record IsSized (s : StoreState) (x : PsObj) (size : ℕ) : Type 0 where
  pub dict : DictId
  pub is : x ≡ Dict dict
  pub there : IsThere s dict
  pub has : value_at (entries_of s dict) (NameKey (codes "size")) ≡ Some (Int (pos size))

-- the object of a type
abbrev pub IsType : StoreState → PsObj → Type' → Type 0
IsType s x Nothing = x ≡ Null
IsType s x t = IsSized s x (bytes_of_type t)

-- what the types of pointers and of arrays have in common: a kind and a printer, and pointers their size
abbrev pub of_pointers : (kind printer : PsObj) → Fields
of_pointers kind printer = (codes "kind", kind) ∷ (codes "size", Int (pos 4)) ∷ (codes "printer", printer) ∷ []

abbrev pub of_arrays : (kind printer : PsObj) → Fields
of_arrays kind printer = (codes "kind", kind) ∷ (codes "printer", printer) ∷ []

abbrev pub array_body : Code
array_body = array_making (begun_as (codes "ArrayType") 5 (codes "size" ∷ codes "count" ∷ codes "to" ∷ []) Stop)

-- items of an array are of some type
abbrev pub IsSome : Type' → Type 0
IsSome Nothing = ⊥
IsSome t = Unit {0}

-- Each word of a type has its meaning, and the sizes are integers of the dialect.
abbrev pub KnowsType : StoreState → List DictId → Type' → Type 0
KnowsType s ds (Basic word size) = Fine (Word word Stop) × (x : PsObj) × (named s ds word ≡ Some x) × IsSized s x size
KnowsType s ds Nothing = Unit {0}
KnowsType s ds (To t) = KnowsType s ds t
    × (dict : DictId) × (kind printer : PsObj) × Means s ds (codes "PointerTo") (Does (body (pointer_to dict (of_pointers kind printer)))) × Ready s ds (pointer_to dict (of_pointers kind printer))
KnowsType s ds (Many t n) = KnowsType s ds t × IsSome t × (n < 2 ^ 31) × (n * bytes_of_type t < 2 ^ 31)
    × (dict : DictId) × (kind printer : PsObj) × Means s ds (codes "ArrayOf") (Does array_body) × (named s ds (codes "ArrayType") ≡ Some (Dict dict)) × HasFields s dict (of_arrays kind printer)
KnowsType s ds (Numbered n size) =
    (n < 2 ^ 31) × (a : ArrayId) × (xs : List PsObj) × (x : PsObj) × (named s ds (codes "structs") ≡ Some (Array a false)) × IsArray s a xs × (slice_get xs n ≡ Some x) × IsSized s x size
