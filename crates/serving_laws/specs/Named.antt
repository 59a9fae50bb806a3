-- Names whose places short procedures tell, as in each table that a compiler makes, and what their pieces come to.
use Rattle.std.specs.Prelude.{◌≡◌, ◌≢◌, ℕ, suc, ◌+◌, ◌<◌, ◌≤◌, ◌^◌, pos, Bool, true, List, [], ◌∷◌, length, reverse, codes, slice_get, Some, Result, Ok, Err}
use Rattle.std.specs.List.{list_all}
use Rattle.ldb_words.specs.Word.{signed, sum_of}
use Rattle.c_tree.specs.declared.types.CType.{CType}
use Rattle.c_tree.specs.declared.types.CType.TheVariants.{Char, Int, Unsigned, Pointer', Struct}
use Rattle.c_tree.specs.declared.types.Member.{Member}
use Rattle.c_tree.specs.declared.typed.Head.{Head}
use Rattle.c_tree.specs.declared.typed.Typed.{Typed}
use Rattle.c_tree.specs.declared.typed.Typed.TheVariants.{Address', Dot', Name, Parens'}
use Rattle.c_tree.specs.Types.{type_of, is_array}
use Rattle.c_tree.specs.Layout.{members_of}
use Rattle.c_judge.specs.declared.symbol.Symbol.{Symbol}
use Rattle.ps_store.specs.declared.object.PsObj.{PsObj}
use Rattle.ps_store.specs.declared.object.PsObj.TheVariants.{Array}
use Rattle.ps_store.specs.declared.object.ArrayId.{ArrayId}
use Rattle.ps_store.specs.declared.object.DictId.{DictId}
use Rattle.ps_store.specs.declared.object.Part.TheVariants.{Table}
use Rattle.ps_store.specs.StoreState.{StoreState}
use Rattle.ps_store.specs.Store.{elements_of, bytes_of}
use Rattle.ps_step.specs.declared.fault.PsError.TheVariants.{RangeCheck}
use Rattle.ps_step.specs.declared.fault.PsFault.TheVariants.{Error, Spent, NoMemory}
use Rattle.ps_step.specs.declared.item.Item.{Item}
use Rattle.ps_step.specs.declared.machine.PsCore.{PsCore}
use Rattle.ps_run.specs.Runs.{Answer, Runs}
use Rattle.ps_text.specs.Code.{Code, Stop, Num, Word, Lit}
use Rattle.ps_text.specs.Grown.{HasArray}
use Rattle.ps_text.specs.Spells.{Spells}
use Rattle.ps_terms.specs.Stands.{core}
use Rattle.ps_words.specs.Operators.{integer}
use Rattle.frame_bytes.specs.declared.frame.Space.{Space}
use Rattle.frame_bytes.specs.declared.frame.Space.TheVariants.{Memory, Registers}
use Rattle.frame_bytes.specs.declared.frame.Place.{Place}
use Rattle.table_model.specs.Reading.{entry}
use Rattle.table_model.specs.Objects.{anchor_of}
use Rattle.table_model.specs.Symbols.{symbol_named}
use Rattle.dialect_model.specs.Dial.{Dial, InFrame}
use Rattle.dialect_model.specs.Operating.{Operates}
use Rattle.dialect_model.specs.TableUse.{TableUse, Trouble, Kind}
use Rattle.c_bytes.specs.Lvalues.{Cause, Scene}
use Rattle.c_bytes.specs.Evaluation.{value_of}
use Rattle.expr_serve.specs.Literals.{is_part}

-- the types of scalars
abbrev pub IsScalar : CType → Type 0
IsScalar Char = Unit {0}
IsScalar Int = Unit {0}
IsScalar Unsigned = Unit {0}
IsScalar (Pointer' _ t) = Unit {0}
IsScalar other = ⊥

-- the dialect's state in a scene
abbrev pub dial_in : Scene → (cell : ℕ) → (out : List ℕ) → (raw : Bool) → Dial
dial_in sc cell out raw = record { target = Some sc.target; standing = InFrame sc.frame sc.scope; cell = cell; out = out; raw = raw }

-- a store begins with the names of the spaces
pub record HasSpaces (s : StoreState) : Type 0 where
  pub memory : bytes_of s (record { part = Table; index = 0 }) ≡ codes "d"
  pub registers : bytes_of s (record { part = Table; index = 1 }) ≡ codes "r"

abbrev place : Space → ℕ → Place
place space at = record { space = space; at = at }

-- The procedures of a static variable, of a local one, of one that is `register` and yet in memory, and of one in a register or at an address, and the places that they
-- leave.
pub data Leads (sc : Scene) (s : StoreState) : Code → Place → Type 0 where
  at_anchor : (n at : ℕ) (name : List ℕ) → n < 2 ^ 32 → length name ≤ 127 → anchor_of s name ≡ Ok at
      → Leads sc s (Num (signed n) (Lit name (Word (codes "Anchor") (Word (codes "Absolute") Stop)))) (place Memory (sum_of n at))
  in_frame : (n : ℕ) → n < 2 ^ 32 → Leads sc s (Num (signed n) (Word (codes "Local") Stop)) (place Memory (sum_of sc.frame.base n))
  in_frame_as_register : (n : ℕ) → n < 2 ^ 32
      → Leads sc s (Num (signed n) (Word (codes "Local") (Num (pos 0) (Word (codes "Register") (Word (codes "pop") (Word (codes "pop") Stop)))))) (place Memory (sum_of sc.frame.base n))
  at_address : (n : ℕ) → n < 2 ^ 32 → Leads sc s (Num (signed n) (Word (codes "Absolute") Stop)) (place Memory n)
  in_register : (n : ℕ) → n < 2 ^ 32 → Leads sc s (Num (signed n) (Word (codes "Register") Stop)) (place Registers n)

-- A name of the expression: its symbol is the one in scope, whose procedure leads to a place.
pub record IsNamed (sc : Scene) (s : StoreState) (names : List Symbol) (n : ℕ) (p : Place) : Type 0 where
  pub symbol : DictId
  pub row : Symbol
  pub body : ArrayId
  pub code : Code
  pub symbol_is : slice_get sc.symbols n ≡ Some symbol
  pub row_is : slice_get names n ≡ Some row
  pub plain : list_all is_part row.name ≡ true
  pub short : length row.name ≤ 127
  pub found : symbol_named s sc.scope row.name ≡ Ok (Some symbol)
  pub where_is : entry s symbol (codes "where") ≡ Ok (Array body true)
  pub has : HasArray s body
  pub spells : Spells s (elements_of s body) code
  pub leads : Leads sc s code p

-- An lvalue that stands where a name tells, and the type of what is read there: a name; a member, so far behind the place of its struct; one in parentheses.
pub data Stands (sc : Scene) (s : StoreState) (names : List Symbol) : Typed → CType → Place → Type 0 where
  by_name : (h : Head) (n : ℕ) (p : Place) → IsNamed sc s names n p → Stands sc s names (Name h n) h.ctype p
  in_struct : (h : Head) (b : _) (a : Typed) (t : CType) (k m : ℕ) (row : Member) (p : Place) → Stands sc s names a t p → type_of a ≡ Struct k → slice_get (members_of sc.defs k) m ≡ Some row → row.at < 2 ^ 32
      → Stands sc s names (Dot' h b a m) h.ctype (record { space = p.space; at = sum_of p.at row.at })
  in_parens : (h : Head) (b : _) (a : Typed) (t : CType) (p : Place) → Stands sc s names a t p → Stands sc s names (Parens' h b a) t p

-- What needs such places alone: the value of a scalar there; an array, which is its place; and the address of a place.
pub data IsRead (sc : Scene) (s : StoreState) (names : List Symbol) : Typed → Type 0 where
  scalar : (e : Typed) (t : CType) (p : Place) → Stands sc s names e t p → IsScalar t → IsRead sc s names e
  array : (e : Typed) (t : CType) (p : Place) → Stands sc s names e t p → is_array t ≡ true → IsRead sc s names e
  address : (h : Head) (b : _) (e : Typed) (t : CType) (p : Place) → Stands sc s names e t p → IsRead sc s names (Address' h b e)

-- the dictionaries of a command, whose own is on top, and a use of the table in it
abbrev pub dictionaries_in : StoreState → (own : DictId) → List DictId
dictionaries_in s own = own ∷ reverse s.base

abbrev pub use_in : StoreState → (cell : ℕ) → (own : DictId) → TableUse
use_in s cell own = record { store = s; left = 0; cell = cell; own = Some own }

-- the same with so many steps left
abbrev pub with_left : TableUse → ℕ → TableUse
with_left t n = record t { left = n }

-- What an expression comes to: the table's own procedures take some steps of those that are left, and nothing else changes.
pub record ComesTo (sc : Scene) (e : Typed) (t : TableUse) (r : Result ℕ (Trouble Cause)) : Type 0 where
  pub taken : ℕ
  pub comes : (n : ℕ) → value_of sc e (with_left t (taken + suc n)) r (with_left t (suc n))

-- The run goes on with the expression's value on the operands that were there; or it ended since the target doesn't hold a byte; or its steps were spent.
pub data Reads (sc : Scene) (e : Typed) (t : TableUse) (s : StoreState) (ds : List DictId) (o : List PsObj) (items : List Item) (d : Dial) : Answer → ℕ → Dial → PsCore → Type 0 where
  reads : (v left : ℕ) (r : Answer) (m : ℕ) (d' : Dial) (c' : PsCore) → ComesTo sc e t (Ok v) → Runs Operates left d (core s ds (integer v ∷ o) items) r m d' c'
      → Reads sc e t s ds o items d r m d' c'
  outside : (m : ℕ) (operands : List PsObj) → ComesTo sc e t (Err (Kind RangeCheck)) → Reads sc e t s ds o items d (Err (Error RangeCheck)) m d (core s ds operands [])
  spends : (m : ℕ) (d' : Dial) (c' : PsCore) → Reads sc e t s ds o items d (Err Spent) m d' c'

-- each run from here, of which memory does not run out, comes to that
abbrev pub AreRead : Scene → Typed → StoreState → (cell : ℕ) → (own : DictId) → List PsObj → List Item → Dial → PsCore → Type 0
AreRead sc e s cell own o items d c =
    (n : ℕ) (r : Answer) (m : ℕ) (d' : Dial) (c' : PsCore) → r ≢ Err NoMemory → Runs Operates n d c r m d' c' → Reads sc e (use_in s cell own) s (dictionaries_in s own) o items d r m d' c'
