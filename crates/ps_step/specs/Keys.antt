-- Keys of dictionaries, and look-up on the stack of dictionaries.
use Rattle.std.specs.Prelude.{ℕ, nat_le, option_map, is_some, if◌then◌else◌, Option, Some, None, Result, Ok, Err, List, [], ◌∷◌, length}
use Rattle.ps_store.specs.declared.object.PsObj.{PsObj}
use Rattle.ps_store.specs.declared.object.PsObj.TheVariants.{Int, Bool as Truth, Name, Str, Op}
use Rattle.ps_store.specs.declared.object.DictId.{DictId}
use Rattle.ps_store.specs.declared.key.Key.{Key}
use Rattle.ps_store.specs.declared.key.Key.TheVariants.{Name as NameKey, Int as IntKey, Bool as TruthKey}
use Rattle.ps_store.specs.StoreState.{StoreState}
use Rattle.ps_store.specs.Store.{bytes_of, entries_of, putting_value, putting_under_name}
use Rattle.ps_store.specs.Entries.{value_at}
use Rattle.ps_store.specs.Operators.{operator_number}
use Rattle.ps_step.specs.Results.{◌>>=◌, stored}
use Rattle.ps_step.specs.declared.fault.PsError.{PsError}
use Rattle.ps_step.specs.declared.fault.PsError.TheVariants.{DictStackUnderflow, TypeCheck, LimitCheck, Undefined}

-- the key that a text is: a name of at most 127 characters
abbrev pub text_key : List ℕ → Result Key PsError
text_key text = if nat_le (length text) 127 then Ok (NameKey text) else Err LimitCheck

-- the key that an object is; a string is the name of its characters
abbrev pub key_of : StoreState → PsObj → Result Key PsError
key_of s (Name t x) = text_key (bytes_of s t)
key_of s (Str t x) = text_key (bytes_of s t)
key_of s (Int n) = Ok (IntKey n)
key_of s (Truth b) = Ok (TruthKey b)
key_of s other = Err TypeCheck

-- the dictionary in which `def` defines: the topmost one
abbrev pub current : List DictId → Result DictId PsError
current [] = Err DictStackUnderflow
current (d ∷ ds) = Ok d

-- the value of a dictionary under the key that an object is
abbrev pub value_under : StoreState → DictId → PsObj → Result (Option PsObj) PsError
value_under s d place = key_of s place >>= λ key. Ok (value_at (entries_of s d) key)

-- a value is put under the key that an object is
abbrev pub put_key : StoreState → DictId → PsObj → PsObj → Result StoreState PsError
put_key s d place value = key_of s place >>= λ key. stored (putting_value s d key value) >>= λ given. Ok given.1

-- the same, where a pair that is new keeps a name
abbrev pub put_under : StoreState → DictId → PsObj → PsObj → Result StoreState PsError
put_under s d (Name t x) value = stored (putting_under_name s d t value) >>= λ given. Ok given.1
put_under s d place value = put_key s d place value

-- a value, or else another
abbrev pub or_else : {A : Type 0} → Option A → Option A → Option A
or_else (Some x) other = Some x
or_else None other = other

-- the value of a key in the dictionaries, the topmost first
abbrev pub found_in : StoreState → List DictId → Key → Option PsObj
found_in s [] key = None
found_in s (d ∷ ds) key = or_else (value_at (entries_of s d) key) (found_in s ds key)

-- the topmost dictionary that has a key
abbrev pub holder_of : StoreState → List DictId → Key → Option DictId
holder_of s [] key = None
holder_of s (d ∷ ds) key = if is_some (value_at (entries_of s d) key) then Some d else holder_of s ds key

-- the value of a name: in the dictionaries, or else the operator of that name
abbrev pub named : StoreState → List DictId → List ℕ → Option PsObj
named s ds text = or_else (found_in s ds (NameKey text)) (option_map (λ n. Op n) (operator_number text))

-- the value of a key: that of a name, or the one in the dictionaries
abbrev pub valued : StoreState → List DictId → Key → Option PsObj
valued s ds (NameKey text) = named s ds text
valued s ds key = found_in s ds key

-- what `load` gives for an object: the value of the key that it is
abbrev pub meant_by : StoreState → List DictId → PsObj → Result (Option PsObj) PsError
meant_by s ds object = key_of s object >>= λ key. Ok (valued s ds key)

-- a value that was looked up
abbrev pub under : Option PsObj → Result PsObj PsError
under (Some x) = Ok x
under None = Err Undefined
