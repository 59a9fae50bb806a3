-- What is known of a store that holds the prelude.
use Rattle.std.specs.Prelude.{◌≡◌, ℕ, ◌+◌, ◌<◌, ◌≤◌, ◌*◌, zero, suc, true, false, Some, None, List, [], ◌∷◌, ◌++◌, length, map, slice_get, codes}
use Rattle.std.specs.List.{AllByRecursion}
use Rattle.ps_store.specs.declared.object.PsObj.{PsObj}
use Rattle.ps_store.specs.declared.object.PsObj.TheVariants.{Array, Str, Op}
use Rattle.ps_store.specs.declared.object.ArrayId.{ArrayId}
use Rattle.ps_store.specs.declared.object.DictId.{DictId}
use Rattle.ps_store.specs.declared.object.StringId.{StringId}
use Rattle.ps_store.specs.StoreState.{StoreState}
use Rattle.ps_store.specs.Store.{elements_of}
use Rattle.ps_step.specs.declared.item.Item.{Item}
use Rattle.ps_store.specs.declared.key.Key.TheVariants.{Name as NameKey}
use Rattle.ps_step.specs.Keys.{found_in, named}
use Rattle.ps_text.specs.Grown.{HasArray, IsString}
use Rattle.ps_text.specs.Spells.{Spells}
use Rattle.ps_terms.specs.Machine.{Obj, Dup, Pop, Exch, Index, Roll, Add, Sub, Eq, Lt', Acts, Branch, Branches, Does, Gives, Words}
use Rattle.ps_terms.specs.Stands.{Knows}
use Rattle.ps_print.specs.Prelude.{digits_body, signed_body, showint_body, showunsigned_body, showchar_body, showpointer_body, showarray_body, showstruct_body, show_body, items_body, members_body, print_body, printers}

abbrev pub words : ArrayId → Words
words digits =
    (codes "dup", Acts Dup) ∷ (codes "pop", Acts Pop) ∷ (codes "exch", Acts Exch) ∷ (codes "index", Acts Index) ∷ (codes "roll", Acts Roll) ∷ (codes "add", Acts Add) ∷ (codes "sub", Acts Sub)
    ∷ (codes "eq", Acts Eq) ∷ (codes "lt", Acts Lt') ∷ (codes "if", Branch) ∷ (codes "ifelse", Branches)
    ∷ (codes "digits", Gives (Obj (Array digits false)))
    ∷ (codes "Digits", Does digits_body) ∷ (codes "Signed", Does signed_body) ∷ (codes "ShowInt", Does showint_body) ∷ (codes "ShowUnsigned", Does showunsigned_body)
    ∷ (codes "Items", Does items_body) ∷ (codes "ShowArray", Does showarray_body) ∷ (codes "Show", Does show_body)
    ∷ (codes "ShowChar", Does showchar_body) ∷ (codes "ShowPointer", Does showpointer_body) ∷ (codes "ShowStruct", Does showstruct_body) ∷ (codes "Members", Does members_body) ∷ []

-- a store and dictionaries in which the words mean what the prelude says
pub record Holds (s : StoreState) (ds : List DictId) (digits : ArrayId) : Type 0 where
  pub knows : Knows s ds (words digits)
  pub get : named s ds (codes "get") ≡ Some (Op 32)
  pub length_of : named s ds (codes "length") ≡ Some (Op 34)
  pub fetch : named s ds (codes "fetch") ≡ Some (Op 67)
  pub udivs : named s ds (codes "udivs") ≡ Some (Op 75)
  pub urem : named s ds (codes "urem") ≡ Some (Op 76)
  pub usub : named s ds (codes "usub") ≡ Some (Op 78)
  pub uadd : named s ds (codes "uadd") ≡ Some (Op 77)
  pub put_chars : named s ds (codes "PutChars") ≡ Some (Op 92)
  pub put_char : named s ds (codes "PutChar") ≡ Some (Op 90)
  pub put_pointer : named s ds (codes "PutPointer") ≡ Some (Op 91)
  pub charrun : named s ds (codes "charrun") ≡ Some (Op 93)
  pub put : named s ds (codes "Put") ≡ Some (Op 89)
  pub digit : (r : ℕ) → r < 10 → (t : StringId) × (slice_get (elements_of s digits) r ≡ Some (Str t false)) × IsString s t ((48 + r) ∷ [])

-- the names that the printers' procedures execute
abbrev pub operators : List (List ℕ)
operators =
    codes "get" ∷ codes "length" ∷ codes "fetch" ∷ codes "udivs" ∷ codes "urem" ∷ codes "usub" ∷ codes "uadd" ∷ codes "PutChars" ∷ codes "PutChar" ∷ codes "PutPointer" ∷ codes "charrun" ∷ codes "Put" ∷ []

abbrev pub executed_names : ArrayId → List (List ℕ)
executed_names digits = map (λ word. word.0) (words digits) ++ operators

-- none of these dictionaries has one of the names
abbrev pub Lacks : StoreState → List DictId → List (List ℕ) → Type 0
Lacks s ds names = AllByRecursion (λ name. found_in s ds (NameKey name) ≡ None) names

-- a printer is a procedure of the one body
abbrev pub IsPrinter : StoreState → PsObj → Type 0
IsPrinter s x = (a : ArrayId) × (x ≡ Array a true) × HasArray s a × Spells s (elements_of s a) print_body

-- each of the printers' names means one
abbrev pub HasPrinters : StoreState → List DictId → Type 0
HasPrinters s ds = AllByRecursion (λ name. (x : PsObj) × (named s ds name ≡ Some x) × IsPrinter s x) printers

-- room for so many calls within one another
pub record RoomFor (k : ℕ) (o : List PsObj) (under : List Item) : Type 0 where
  pub operands : length o + 101 + k ≤ 100000
  pub items : length under + 10 + k ≤ 1000

-- ten to a power
abbrev pub ten : ℕ → ℕ
ten zero = 1
ten (suc f) = 10 * ten f
