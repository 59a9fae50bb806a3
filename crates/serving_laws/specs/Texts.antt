-- What a text comes to, once it is executed as a string, whose pieces have the value of an expression.
use Rattle.std.specs.Prelude.{◌≡◌, ◌+◌, ℕ, List, ◌∷◌, length, codes, Some}
use Rattle.std.specs.List.{AllByRecursion}
use Rattle.c_tree.specs.declared.typed.Typed.{Typed}
use Rattle.c_judge.specs.declared.symbol.Symbol.{Symbol}
use Rattle.c_judge.specs.declared.check.Mode.TheVariants.{Value}
use Rattle.ps_store.specs.declared.object.PsObj.{PsObj}
use Rattle.ps_store.specs.declared.object.PsObj.TheVariants.{Name, Str, Array}
use Rattle.ps_store.specs.declared.object.ArrayId.{ArrayId}
use Rattle.ps_store.specs.declared.object.DictId.{DictId}
use Rattle.ps_store.specs.declared.object.StringId.{StringId}
use Rattle.ps_store.specs.declared.key.Key.{Key}
use Rattle.ps_store.specs.StoreState.{StoreState}
use Rattle.ps_store.specs.Store.{elements_of, entries_of, text_units}
use Rattle.ps_store.specs.Entries.{value_at}
use Rattle.ps_step.specs.declared.item.Item.{Item}
use Rattle.ps_step.specs.declared.item.Item.TheVariants.{Text as Reading}
use Rattle.ps_text.specs.Code.{Stop, Proc}
use Rattle.ps_text.specs.Grown.{Grown, HasString, HasArray}
use Rattle.ps_text.specs.Spells.{units}
use Rattle.ps_terms.specs.Stands.{core}
use Rattle.dialect_model.specs.Dial.{Dial}
use Rattle.c_bytes.specs.Lvalues.{Scene}
use Rattle.expr_serve.specs.Codes.{value_code, text_of}
use Rattle.serving_laws.specs.Named.{dictionaries_in}
use Rattle.serving_laws.specs.Evaluated.{AreEvaluated}

-- the store holds the string or the array that an object is
abbrev pub IsThere : StoreState → PsObj → Type 0
IsThere s (Name t executable) = HasString s t
IsThere s (Str t executable) = HasString s t
IsThere s (Array a executable) = HasArray s a
IsThere s other = Unit {0}

-- a store holds what the values of its dictionaries and the elements of its arrays are
pub record IsWhole (s : StoreState) : Type 0 where
  pub values : (d : DictId) (key : Key) (x : PsObj) → value_at (entries_of s d) key ≡ Some x → IsThere s x
  pub elements : (a : ArrayId) → AllByRecursion (IsThere s) (elements_of s a)

-- Each run of a text with an expression's pieces comes to its value, once the text was read: the text's objects were added to the store, and nothing of the text is left.
pub record AreReadAndEvaluated (sc : Scene) (names : List Symbol) (e : Typed) (s : StoreState) (cell : ℕ) (own : DictId) (o : List PsObj) (items : List Item) (text : StringId) (d : Dial) : Type 0 where
  pub store : StoreState
  pub grown : Grown (units (Proc (value_code names sc.defs e) Stop) + text_units (codes "exec")) s store
  pub evaluated : AreEvaluated sc e store cell own o (Reading text (length (text_of names sc.defs Value e)) ∷ items) d (core s (dictionaries_in s own) o (Reading text 0 ∷ items))
