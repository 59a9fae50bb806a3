-- What is put into arrays, strings and dictionaries, and copied between them, leaves what is closed.
use Rattle.std.proofs.Common.{ℕ, ◌==◌, Bool, nat_lt, Result, List, [], ◌∷◌, length}
use Rattle.ps_store.specs.declared.key.Key.{Key}
use Rattle.ps_store.specs.declared.object.ArrayId.{ArrayId}
use Rattle.ps_store.specs.declared.object.DictId.{DictId}
use Rattle.ps_store.specs.declared.object.Pair.{Pair}
use Rattle.ps_store.specs.declared.object.PsObj.{PsObj}
use Rattle.ps_store.specs.declared.object.PsObj.TheVariants.{Name, Str, Array, Dict}
use Rattle.ps_store.specs.declared.object.StringId.{StringId}
use Rattle.ps_store.specs.StoreState.{StoreState}
use Rattle.ps_store.specs.Store.{elements_of, entries_of, bytes_of, making_array, making_dict, making_string, writing_elements, writing_bytes, putting_value, putting_under_name}
use Rattle.ps_step.specs.declared.fault.PsError.{PsError}
use Rattle.ps_step.specs.Composites.{MadePart, put_in, placed_text, copied_array, copied_dict, same_dict, copied, putting_pairs, putting_objects, filled}
use Rattle.ps_step.specs.Keys.{key_of, put_under, put_key}
use Rattle.ps_step.specs.Results.{at, stored, opened}
use Rattle.ps_step.specs.Values.{count_of, byte_of}
use Rattle.printing_laws.proofs.Leaving.{All, all_map, behind, behind_all, either, Both, behind_both, either_both, at_both, Leaves, leaves_same, leaves_on}
use Rattle.printing_laws.proofs.Stores.{array_leaves, dict_leaves, text_leaves, elements_leave, bytes_leave, value_leaves, name_leaves}

key_left : (s : StoreState) (d : DictId) (place value : PsObj) → All (Leaves s) (put_key s d place value)
key_left s d place value = behind (Leaves s) (key_of s place) _ (λ key. behind_all (Leaves s) (λ made. Leaves s made.1) (stored (putting_value s d key value)) _ (value_leaves s d key value) (λ made l. l))

pub put_left : (s : StoreState) (d : DictId) (place value : PsObj) → All (Leaves s) (put_under s d place value)
put_left s d (Name t x) value = behind_all (Leaves s) (λ made. Leaves s made.1) (stored (putting_under_name s d t value)) _ (name_leaves s d t value) (λ made l. l)
put_left s d place value = key_left s d place value

pub put_in_left : (s : StoreState) (whole place value : PsObj) → All (Leaves s) (put_in s whole place value)
put_in_left s (Dict d) place value = put_left s d place value
put_in_left s (Array a x) place value = behind (Leaves s) (count_of place) _ (λ n. either (Leaves s) (nat_lt n (length (elements_of s a))) _ _ (elements_leave s a n (value ∷ [])) tt)
put_in_left s (Str t x) place value =
    behind (Leaves s) (count_of place) _ (λ n. either (Leaves s) (nat_lt n (length (bytes_of s t))) _ _ (behind (Leaves s) (byte_of value) _ (λ b. bytes_leave s t n (b ∷ []))) tt)
put_in_left s whole place value = tt

-- a store that is left, or that stands where an error comes
abbrev pub StoreLeft : StoreState → Result StoreState (PsError × StoreState) → Type 0
StoreLeft s r = Both (Leaves s) (λ failed. Leaves s failed.1) r

abbrev pub PartLeft : StoreState → MadePart → Type 0
PartLeft s r = Both (λ made. Leaves s made.1) (λ failed. Leaves s failed.1) r

module _ (s : StoreState) where
  abbrev Failed : PsError × StoreState → Type 0
  Failed failed = Leaves s failed.1

  abbrev Given : PsObj × StoreState → Type 0
  Given made = Leaves s made.1

  string_made : (now : StoreState) → Leaves s now → (text : List ℕ) → Both (λ (made : StringId × StoreState). Leaves s made.1) Failed (at now (stored (making_string now text)))
  string_made now l text =
      at_both (λ made. Leaves s made.1) Failed now (stored (making_string now text))
      (all_map (λ made. Leaves now made.1) (λ made. Leaves s made.1) (λ made k. leaves_on s now made.1 l k) (stored (making_string now text)) (text_leaves 16777216 now text)) (λ e. l)

  array_made : (now : StoreState) → Leaves s now → (items : List PsObj) → Both (λ (made : ArrayId × StoreState). Leaves s made.1) Failed (at now (stored (making_array now items)))
  array_made now l items =
      at_both (λ made. Leaves s made.1) Failed now (stored (making_array now items))
      (all_map (λ made. Leaves now made.1) (λ made. Leaves s made.1) (λ made k. leaves_on s now made.1 l k) (stored (making_array now items)) (array_leaves now items)) (λ e. l)

  pub placed_left : (text : List ℕ) (t : StringId) (x : Bool) → PartLeft s (placed_text s text t x)
  placed_left text t x =
      either_both Given Failed (nat_lt (length (bytes_of s t)) (length text)) _ _ (leaves_same s)
      (behind_both Given Failed (Leaves s) (at s (opened (writing_bytes s t 0 text))) _ (at_both (Leaves s) Failed s (opened (writing_bytes s t 0 text)) (bytes_leave s t 0 text) (λ e. leaves_same s)) (λ s' l.
      either_both Given Failed (length text == length (bytes_of s t)) _ _ l
      (behind_both Given Failed (λ made. Leaves s made.1) (at s' (stored (making_string s' text))) _ (string_made s' l text) (λ made k. k))))

  array_left : (a b : ArrayId) (x : Bool) → PartLeft s (copied_array s a b x)
  array_left a b x =
      either_both Given Failed (nat_lt (length (elements_of s b)) (length (elements_of s a))) _ _ (leaves_same s)
      (behind_both Given Failed (Leaves s) (at s (opened (writing_elements s b 0 (elements_of s a)))) _
      (at_both (Leaves s) Failed s (opened (writing_elements s b 0 (elements_of s a))) (elements_leave s b 0 (elements_of s a)) (λ e. leaves_same s)) (λ s' l.
      either_both Given Failed (length (elements_of s a) == length (elements_of s b)) _ _ l
      (behind_both Given Failed (λ made. Leaves s made.1) (at s' (stored (making_array s' (elements_of s a)))) _ (array_made s' l (elements_of s a)) (λ made k. k))))

  put_on : (now : StoreState) → Leaves s now → (d : DictId) (place value : PsObj) → Both (Leaves s) Failed (at now (put_under now d place value))
  put_on now l d place value =
      at_both (Leaves s) Failed now (put_under now d place value) (all_map (Leaves now) (Leaves s) (λ t k. leaves_on s now t l k) (put_under now d place value) (put_left now d place value)) (λ x. l)

  pairs_left : (now : StoreState) → Leaves s now → (d : DictId) (es : List (Key × Pair)) → StoreLeft s (putting_pairs now d es)
  pairs_left now l d [] = l
  pairs_left now l d (e ∷ es) = behind_both (Leaves s) Failed (Leaves s) (at now (put_under now d e.1.key e.1.value)) _ (put_on now l d e.1.key e.1.value) (λ s' k. pairs_left s' k d es)

  objects_left : (now : StoreState) → Leaves s now → (d : DictId) (xs : List PsObj) → StoreLeft s (putting_objects now d xs)
  objects_left now l d [] = l
  objects_left now l d (place ∷ []) = l
  objects_left now l d (place ∷ value ∷ rest) = behind_both (Leaves s) Failed (Leaves s) (at now (put_under now d place value)) _ (put_on now l d place value) (λ s' k. objects_left s' k d rest)

  dict_left : (d e : DictId) → PartLeft s (copied_dict s d e)
  dict_left d e =
      either_both Given Failed (same_dict d e) _ _ (leaves_same s)
      (behind_both Given Failed (Leaves s) (putting_pairs s e (entries_of s d)) _ (pairs_left s (leaves_same s) e (entries_of s d)) (λ s' l. l))

  pub copied_left : (from to : PsObj) → PartLeft s (copied s from to)
  copied_left (Array a x) (Array b y) = array_left a b y
  copied_left (Str t x) (Str u y) = placed_left (bytes_of s t) u y
  copied_left (Dict d) (Dict e) = dict_left d e
  copied_left from to = leaves_same s

  pub filled_left : (items : List PsObj) → PartLeft s (filled s items)
  filled_left items =
      behind_both Given Failed (λ made. Leaves s made.1) (at s (stored (making_dict s))) _ (at_both (λ made. Leaves s made.1) Failed s (stored (making_dict s)) (dict_leaves s) (λ e. leaves_same s))
      (λ made l. behind_both Given Failed (Leaves s) (putting_objects made.1 made.0 items) _ (objects_left made.1 l made.0 items) (λ s' k. k))
