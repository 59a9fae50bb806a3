-- What stands in arrays, strings and dictionaries, and copies between them.
use Rattle.std.specs.Prelude.{ℕ, ◌==◌, Bool, true, false, ◌&&◌, nat_lt, if◌then◌else◌, Result, Ok, Err, List, [], ◌∷◌, length}
use Rattle.ps_store.specs.declared.object.PsObj.{PsObj}
use Rattle.ps_store.specs.declared.object.PsObj.TheVariants.{Str, Array, Dict}
use Rattle.ps_store.specs.declared.object.Pair.{Pair}
use Rattle.ps_store.specs.declared.object.ArrayId.{ArrayId}
use Rattle.ps_store.specs.declared.object.DictId.{DictId}
use Rattle.ps_store.specs.declared.object.StringId.{StringId}
use Rattle.ps_store.specs.declared.key.Key.{Key}
use Rattle.ps_store.specs.StoreState.{StoreState}
use Rattle.ps_store.specs.Store.{bytes_of, entries_of, elements_of, putting_element, writing_elements, writing_bytes, making_array, making_string, making_dict}
use Rattle.ps_step.specs.Results.{◌>>=◌, stored, opened, at}
use Rattle.ps_step.specs.Values.{count_of, byte_of, element_at, byte_at}
use Rattle.ps_step.specs.Keys.{value_under, put_under, under}
use Rattle.ps_step.specs.Compare.{same_part}
use Rattle.ps_step.specs.declared.fault.PsError.{PsError}
use Rattle.ps_step.specs.declared.fault.PsError.TheVariants.{TypeCheck, RangeCheck}

-- `get`: the value at a place of an array, a string or a dictionary
abbrev pub value_in : StoreState → PsObj → PsObj → Result PsObj PsError
value_in s (Dict d) place = value_under s d place >>= λ found. under found
value_in s (Array a x) place = count_of place >>= λ n. element_at s a n
value_in s (Str t x) place = count_of place >>= λ n. byte_at s t n
value_in s other place = Err TypeCheck

-- `put`: a value is put at a place of an array, a string or a dictionary
abbrev pub put_in : StoreState → PsObj → PsObj → PsObj → Result StoreState PsError
put_in s (Dict d) place value = put_under s d place value
put_in s (Array a x) place value = count_of place >>= λ n.
    if nat_lt n (length (elements_of s a)) then opened (putting_element s a n value) else Err RangeCheck
put_in s (Str t x) place value = count_of place >>= λ n.
    if nat_lt n (length (bytes_of s t)) then (byte_of value >>= λ b. opened (writing_bytes s t n (b ∷ []))) else Err RangeCheck
put_in s other place value = Err TypeCheck

-- An object and the store after it is made, or an error and the store as it stands then: what was made
-- or put before the error stays.
abbrev pub MadePart : Type 0
MadePart = Result (PsObj × StoreState) (PsError × StoreState)

-- a text is put at the front of a string; the result is that string where they are as long, and else a string of the text
abbrev pub placed_text : StoreState → List ℕ → StringId → Bool → MadePart
placed_text s text t x =
    if nat_lt (length (bytes_of s t)) (length text) then Err (RangeCheck, s)
    else at s (opened (writing_bytes s t 0 text)) >>= λ s'.
    if length text == length (bytes_of s t) then Ok (Str t x, s')
    else at s' (stored (making_string s' text)) >>= λ given. Ok (Str given.0 x, given.1)

-- an array is copied to the front of another
abbrev pub copied_array : StoreState → ArrayId → ArrayId → Bool → MadePart
copied_array s a b x =
    if nat_lt (length (elements_of s b)) (length (elements_of s a)) then Err (RangeCheck, s)
    else at s (opened (writing_elements s b 0 (elements_of s a))) >>= λ s'.
    if length (elements_of s a) == length (elements_of s b) then Ok (Array b x, s')
    else at s' (stored (making_array s' (elements_of s a))) >>= λ given. Ok (Array given.0 x, given.1)

abbrev pub same_dict : DictId → DictId → Bool
same_dict a b = same_part a.part b.part && a.index == b.index

-- pairs are put into a dictionary in their order
abbrev pub putting_pairs : StoreState → DictId → List (Key × Pair) → Result StoreState (PsError × StoreState)
putting_pairs s d [] = Ok s
putting_pairs s d (e ∷ rest) = at s (put_under s d e.1.key e.1.value) >>= λ s'. putting_pairs s' d rest

-- the pairs of a dictionary are copied to another one
abbrev pub copied_dict : StoreState → DictId → DictId → MadePart
copied_dict s d e = if same_dict d e then Ok (Dict e, s) else putting_pairs s e (entries_of s d) >>= λ s'. Ok (Dict e, s')

-- `copy` of one array, string or dictionary to another
abbrev pub copied : StoreState → PsObj → PsObj → MadePart
copied s (Array a x) (Array b y) = copied_array s a b y
copied s (Str t x) (Str u y) = placed_text s (bytes_of s t) u y
copied s (Dict d) (Dict e) = copied_dict s d e
copied s from to = Err (TypeCheck, s)

-- values are put under keys, which are each before its value
abbrev pub putting_objects : StoreState → DictId → List PsObj → Result StoreState (PsError × StoreState)
putting_objects s d [] = Ok s
putting_objects s d (place ∷ []) = Ok s
putting_objects s d (place ∷ value ∷ rest) = at s (put_under s d place value) >>= λ s'. putting_objects s' d rest

-- the same, where the first key and its value are known
abbrev pub putting_first : StoreState → DictId → PsObj → PsObj → List PsObj → Result StoreState (PsError × StoreState)
putting_first s d place value rest = at s (put_under s d place value) >>= λ s'. putting_objects s' d rest

-- a dictionary of keys and values
abbrev pub filled : StoreState → List PsObj → MadePart
filled s items = at s (stored (making_dict s)) >>= λ given. putting_objects given.1 given.0 items >>= λ s'. Ok (Dict given.0, s')
