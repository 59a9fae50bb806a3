-- What is known of the words of a table while it runs.
use Rattle.std.specs.Prelude.{◌≡◌, ℕ, zero, suc, pos, ◌≤◌, true, false, Some, None, List, [], ◌∷◌, length, codes}
use Rattle.ldb_words.specs.Word.{signed}
use Rattle.c_tree.specs.declared.types.StructDef.{StructDef}
use Rattle.ps_store.specs.declared.object.PsObj.{PsObj}
use Rattle.ps_store.specs.declared.object.PsObj.TheVariants.{Int, Str, Array, Dict, Null}
use Rattle.ps_store.specs.declared.object.ArrayId.{ArrayId}
use Rattle.ps_store.specs.declared.object.DictId.{DictId}
use Rattle.ps_store.specs.declared.object.StringId.{StringId}
use Rattle.ps_store.specs.declared.key.Key.TheVariants.{Name as NameKey}
use Rattle.ps_store.specs.Entries.{value_at}
use Rattle.ps_store.specs.StoreState.{StoreState}
use Rattle.ps_store.specs.Store.{entries_of, elements_of}
use Rattle.ps_step.specs.Composites.{same_dict}
use Rattle.ps_step.specs.Keys.{named}
use Rattle.ps_text.specs.Code.{Code}
use Rattle.ps_text.specs.Grown.{HasArray, IsArray}
use Rattle.ps_text.specs.Spells.{Spells}
use Rattle.ps_tables.specs.Dictionaries.{Fields}
use Rattle.ps_tables.specs.Making.{IsMaking, HasFields}
use Rattle.ps_tables.specs.Defined.{in_table}
use Rattle.ps_tables.specs.Later.{IsThere, IsOpen}
use Rattle.ps_tables.specs.Types.{of_arrays}

-- What a word stands for: this object; a type of so many bytes; what the types of a kind, and what the symbols of variables have in common; a
-- procedure of this term; an array of these structs, with so many entries at
-- most in each one's dictionary; an array that begins with so many static objects.
pub data Sense : Type 0 where
  Stands : (x : PsObj) → Sense
  Sized : (size : ℕ) → Sense
  Kind : Sense
  Variables : Sense
  Called : (body : Code) → Sense
  Structs : (few : ℕ) (defs : List StructDef) → Sense
  Objects : (count : ℕ) → Sense

abbrev pub basic_fields : ℕ → (kind printer : PsObj) → Fields
basic_fields size kind printer = (codes "kind", kind) ∷ (codes "size", Int (pos size)) ∷ (codes "printer", printer) ∷ []

abbrev pub variable_fields : (kind : PsObj) → Fields
variable_fields kind = (codes "kind", kind) ∷ (codes "uplink", Null) ∷ []

-- the dictionary of a struct: it is not closed, has so many entries at most, and has its size and a tag
pub record IsStruct (s : StoreState) (few : ℕ) (x : PsObj) (d : StructDef) : Type 0 where
  pub dict : DictId
  pub is : x ≡ Dict dict
  pub opened : IsOpen s dict
  pub there : IsThere s dict
  pub size : value_at (entries_of s dict) (NameKey (codes "size")) ≡ Some (Int (signed d.size))
  pub small : length (entries_of s dict) ≤ few
  pub tag : PsObj
  pub tagged : value_at (entries_of s dict) (NameKey (codes "tag")) ≡ Some tag

abbrev pub AreStructs : StoreState → ℕ → List PsObj → List StructDef → Type 0
AreStructs s few [] [] = Unit {0}
AreStructs s few (x ∷ xs) (d ∷ ds) = IsStruct s few x d × AreStructs s few xs ds
AreStructs s few xs ds = ⊥

-- ---- static objects

abbrev pub object_fields : (kind uplink ctype place label name : PsObj) → Fields
object_fields kind uplink ctype place label name =
    (codes "kind", kind) ∷ (codes "uplink", uplink) ∷ (codes "type", ctype) ∷ (codes "where", place) ∷ (codes "label", label) ∷ (codes "name", name) ∷ []

-- the dictionary of a static object, whose place is a procedure
pub record IsObject (s : StoreState) (x : PsObj) : Type 0 where
  pub dict : DictId
  pub is : x ≡ Dict dict
  pub kind : PsObj
  pub ctype : PsObj
  pub place : ArrayId
  pub label : StringId
  pub name : StringId
  pub has : HasFields s dict (object_fields kind Null ctype (Array place true) (Str label false) (Str name false))

abbrev pub BeginWith : StoreState → ℕ → List PsObj → Type 0
BeginWith s zero xs = Unit {0}
BeginWith s (suc n) [] = ⊥
BeginWith s (suc n) (x ∷ xs) = IsObject s x × BeginWith s n xs

-- ---- senses

-- an object is of such a sense
abbrev pub IsOf : StoreState → PsObj → Sense → Type 0
IsOf s x (Stands y) = x ≡ y
IsOf s x (Sized size) = (d : DictId) × (kind printer : PsObj) × (x ≡ Dict d) × HasFields s d (basic_fields size kind printer)
IsOf s x Kind = (d : DictId) × (kind printer : PsObj) × (x ≡ Dict d) × HasFields s d (of_arrays kind printer)
IsOf s x Variables = (d : DictId) × (kind : PsObj) × (x ≡ Dict d) × HasFields s d (variable_fields kind)
IsOf s x (Called body) = (a : ArrayId) × (x ≡ Array a true) × HasArray s a × Spells s (elements_of s a) body
IsOf s x (Structs few defs) = (a : ArrayId) × (xs : List PsObj) × (x ≡ Array a false) × IsArray s a xs × AreStructs s few xs defs
IsOf s x (Objects count) = (a : ArrayId) × (xs : List PsObj) × (x ≡ Array a false) × IsArray s a xs × BeginWith s count xs

abbrev pub HasSense : StoreState → List DictId → List ℕ → Sense → Type 0
HasSense s ds word sense = (x : PsObj) × (named s ds word ≡ Some x) × IsOf s x sense

-- the sense when each struct's dictionary has so many entries
abbrev pub raised : (ℕ → ℕ) → Sense → Sense
raised up (Structs few defs) = Structs (up few) defs
raised up other = other

-- words with what they stand for
abbrev pub Senses : Type 0
Senses = List (List ℕ × Sense)

abbrev pub HaveSenses : StoreState → List DictId → Senses → Type 0
HaveSenses s ds [] = Unit {0}
HaveSenses s ds (w ∷ ws) = HasSense s ds w.0 w.1 × HaveSenses s ds ws

-- none of these dictionaries is that one
abbrev pub AreOther : List DictId → DictId → Type 0
AreOther [] e = Unit {0}
AreOther (d ∷ ds) e = (same_dict d e ≡ false) × AreOther ds e

-- A state in which a table makes definitions, in a dictionary of its part that is on top of others and has so few names: these words have their senses.
pub record Knowing (s : StoreState) (index : ℕ) (ds : List DictId) (few : ℕ) (ws : Senses) : Type 0 where
  pub making : IsMaking s (in_table index ∷ ds)
  pub unclosed : s.closed.dicts ≤ index
  pub others : AreOther ds (in_table index)
  pub small : length (entries_of s (in_table index)) ≤ few
  pub no_kind : named s (in_table index ∷ ds) (codes "kind") ≡ None
  pub no_tag : named s (in_table index ∷ ds) (codes "tag") ≡ None
  pub have : HaveSenses s (in_table index ∷ ds) ws
