-- What queries of `print` may lack: no unit is lacking for them, and an error is told of all else.
use Rattle.std.proofs.Common.{◌≡◌, refl, Bool, true, false, bytes_eq, if◌then◌else◌, List, ℕ, codes, Option, Some, None, Ok, Err}
use Rattle.ps_store.specs.declared.key.Key.TheVariants.{Name as NameKey}
use Rattle.ps_store.specs.declared.object.DictId.{DictId}
use Rattle.ps_store.specs.declared.object.PsObj.{PsObj}
use Rattle.ps_store.specs.declared.object.PsObj.TheVariants.{Name, Array}
use Rattle.ps_store.specs.StoreState.{StoreState}
use Rattle.ps_store.specs.Store.{entries_of, bytes_of}
use Rattle.ps_store.specs.Entries.{value_at}
use Rattle.ps_step.specs.Results.{◌>>=◌}
use Rattle.table_model.specs.declared.lack.Lack.{Lack}
use Rattle.table_model.specs.declared.lack.Lack.TheVariants as lack
use Rattle.table_model.specs.Reading.{Walked, kind_of, or_missing, entry, dict_in, dict_at, name_in, name_at}
use Rattle.table_model.specs.Symbols.{function_kind, is_function}
use Rattle.table_model.specs.Types.{is_within}
use Rattle.dialect_model.specs.Running.{procedure}
use Rattle.ps_places.specs.Lacks.{error_of}
use Rattle.table_asks.proofs.Fair.{LacksOnly, Usual, gives_any, lacking_any, behind_any, reads_any}
use Rattle.asking.specs.Printing.{procedure_of, unless_too_deep, printed_type}

-- an error is told of it
abbrev pub IsTold : Lack → Type 0
IsTold l = kind_of l ≡ Some (error_of l)

usually : Usual IsTold
usually = record { key = refl; kind = refl }

wrong : (A : Type 0) → LacksOnly {A = A} IsTold (Err lack.WrongType)
wrong A = lacking_any A IsTold lack.WrongType refl

found : {A : Type 0} (o : Option A) → LacksOnly IsTold (or_missing o)
found {A = A} None = lacking_any A IsTold lack.Missing refl
found (Some x) = gives_any IsTold x

pub entry_told : (s : StoreState) (d : DictId) (name : List ℕ) → LacksOnly IsTold (entry s d name)
entry_told s d name = found (value_at (entries_of s d) (NameKey name))

-- ---- a symbol's procedure

procedure_any : (x : PsObj) → LacksOnly IsTold (procedure x)
procedure_any (Array a true) = gives_any IsTold (Array a true)
procedure_any x = wrong PsObj

pub procedure_told : (s : StoreState) (x : DictId) → LacksOnly IsTold (procedure_of s x)
procedure_told s x = behind_any IsTold (entry s x (codes "where")) procedure (entry_told s x (codes "where")) (λ y e. procedure_any y)

-- ---- whether it is of a function

name_any : (s : StoreState) (x : PsObj) → LacksOnly IsTold (name_in s x)
name_any s (Name t b) = gives_any IsTold (bytes_of s t)
name_any s x = wrong (List ℕ)

either : {A : Type 0} (b : Bool) (x y : Walked A) → LacksOnly IsTold x → LacksOnly IsTold y → LacksOnly IsTold (if b then x else y)
either true x y h k = h
either false x y h k = k

kind_any : (text : List ℕ) → LacksOnly IsTold (function_kind text)
kind_any text =
    either (bytes_eq text (codes "function")) (Ok true) (if bytes_eq text (codes "variable") then Ok false else Err lack.WrongType) (gives_any IsTold true)
    (either (bytes_eq text (codes "variable")) (Ok false) (Err lack.WrongType) (gives_any IsTold false) (wrong Bool))

pub function_told : (s : StoreState) (x : DictId) → LacksOnly IsTold (is_function s x)
function_told s x =
    behind_any IsTold (name_at s x (codes "kind")) function_kind (behind_any IsTold (entry s x (codes "kind")) (name_in s) (entry_told s x (codes "kind")) (λ y e. name_any s y)) (λ text e. kind_any text)

-- ---- its type

pub dict_told : (s : StoreState) (d : DictId) (name : List ℕ) → LacksOnly IsTold (dict_at s d name)
dict_told s d name = behind_any IsTold (entry s d name) dict_in (entry_told s d name) (λ y e. (reads_any IsTold usually s y).dict)

deep_any : (t : DictId) (within : Walked (Unit {0})) → LacksOnly IsTold (unless_too_deep t within)
deep_any t (Err lack.TooDeep) = lacking_any DictId IsTold lack.TooDeep refl
deep_any t other = gives_any IsTold t

printed_any : (s : StoreState) (t : DictId) → LacksOnly IsTold (printed_type s t)
unfolding printed_type
printed_any s t = deep_any t (is_within s 64 t)

pub type_told : (s : StoreState) (x : DictId) → LacksOnly IsTold (dict_at s x (codes "type") >>= printed_type s)
type_told s x = behind_any IsTold (dict_at s x (codes "type")) (printed_type s) (dict_told s x (codes "type")) (λ t e. printed_any s t)
