-- What the operands of operators are read as, and what stands in arrays and strings.
use Rattle.std.specs.Prelude.{ℕ, Bool, true, nat_le, slice_get, option_map, int_le, pos, if◌then◌else◌, Option, Some, None, Result, Ok, Err, List, length, unsigned_abs}
use Rattle.ps_store.specs.declared.object.PsObj.{PsObj}
use Rattle.ps_store.specs.declared.object.PsObj.TheVariants.{Int, Name, Str, Array, Dict}
use Rattle.ps_store.specs.declared.object.ArrayId.{ArrayId}
use Rattle.ps_store.specs.declared.object.DictId.{DictId}
use Rattle.ps_store.specs.declared.object.StringId.{StringId}
use Rattle.ps_store.specs.StoreState.{StoreState}
use Rattle.ps_store.specs.Store.{bytes_of, entries_of, elements_of}
use Rattle.ps_step.specs.Results.{◌>>=◌}
use Rattle.ps_step.specs.declared.fault.PsError.{PsError}
use Rattle.ps_step.specs.declared.fault.PsError.TheVariants.{TypeCheck, RangeCheck}

-- the procedure that an object is: an executable array
abbrev pub procedure_of : PsObj → Result ArrayId PsError
procedure_of (Array a true) = Ok a
procedure_of other = Err TypeCheck

-- the count that an object is: an integer that is not negative
abbrev pub count_of : PsObj → Result ℕ PsError
count_of (Int n) = if int_le (pos 0) n then Ok (unsigned_abs n) else Err RangeCheck
count_of other = Err TypeCheck

-- the array, the dictionary, the string that an object is
abbrev pub array_of : PsObj → Result ArrayId PsError
array_of (Array a x) = Ok a
array_of other = Err TypeCheck

abbrev pub dict_of : PsObj → Result DictId PsError
dict_of (Dict d) = Ok d
dict_of other = Err TypeCheck

abbrev pub string_of : PsObj → Result (StringId × Bool) PsError
string_of (Str t x) = Ok (t, x)
string_of other = Err TypeCheck

-- the byte that an object is
abbrev pub byte_of : PsObj → Result ℕ PsError
byte_of x = count_of x >>= λ n. if nat_le n 255 then Ok n else Err RangeCheck

-- a count as an integer
abbrev pub as_count : ℕ → Result PsObj PsError
as_count n = if nat_le n 2147483647 then Ok (Int (pos n)) else Err RangeCheck

-- how many elements, bytes or pairs an object has
abbrev pub length_of : StoreState → PsObj → Result ℕ PsError
length_of s (Array a x) = Ok (length (elements_of s a))
length_of s (Str t x) = Ok (length (bytes_of s t))
length_of s (Name t x) = Ok (length (bytes_of s t))
length_of s (Dict d) = Ok (length (entries_of s d))
length_of s other = Err TypeCheck

-- what a list holds at a place
abbrev pub within : Option PsObj → Result PsObj PsError
within (Some x) = Ok x
within None = Err RangeCheck

-- an element of an array; a byte of a string
abbrev pub element_at : StoreState → ArrayId → ℕ → Result PsObj PsError
element_at s a at = within (slice_get (elements_of s a) at)

abbrev pub byte_at : StoreState → StringId → ℕ → Result PsObj PsError
byte_at s t at = within (option_map (λ b. Int (pos b)) (slice_get (bytes_of s t) at))
