-- Where the pairs of a dictionary stand.
use Rattle.std.proofs.Common.{◌≡◌, ℕ, zero, suc, ◌<◌, Bool, true, false, List, [], ◌∷◌, ◌++◌, Option, Some, None, if◌then◌else◌, length, is_some, option_map, slice_get, refl, sym, ap, ◌∙◌, arith}
use Rattle.std.specs.Map.{lookup, values_of}
use Rattle.std.proofs.lemmas.Option.{none-some}
use Rattle.indexmap.specs.IndexMap.{insert_entry, set_value_at}
use Rattle.indexmap.proofs.MapLemmas.{Found-position, Missing-position, insert_entry-first}
use Rattle.ps_store.specs.declared.object.PsObj.{PsObj}
use Rattle.ps_store.specs.declared.object.Pair.{Pair}
use Rattle.ps_store.specs.declared.key.Key.{Key}
use Rattle.ps_store.specs.Key.{same_key}
use Rattle.ps_store.specs.Entries.{value_at, value_in, replaced, place_of, with_value, with_value_in}

value_looked_up : (es : List (Key × Pair)) (key : Key) → option_map (λ (p : Pair). p.value) (lookup (same_key key) es) ≡ value_at es key
value_looked_up [] key = refl
value_looked_up (e ∷ es) key = mapped (same_key key e.0) e.1 (lookup (same_key key) es) ∙ ap (λ v. if same_key key e.0 then Some e.1.value else v) (value_looked_up es key)
  where
    mapped : (b : Bool) (p : Pair) (found : Option Pair) → option_map (λ (q : Pair). q.value) (if b then Some p else found) ≡ (if b then Some p.value else option_map (λ (q : Pair). q.value) found)
    mapped true p found = refl
    mapped false p found = refl

value_among : (es : List (Key × Pair)) (i : ℕ) → value_in es (Some i) ≡ option_map (λ (p : Pair). p.value) (slice_get (values_of es) i)
value_among [] i = refl
value_among (e ∷ es) zero = refl
value_among (e ∷ es) (suc i) = value_among es i

-- the value under a key is the one at its place
value_by : (es : List (Key × Pair)) (key : Key) (r : Option ℕ) → place_of es key ≡ r → value_in es r ≡ value_at es key
value_by es key None h = ap (option_map (λ (p : Pair). p.value)) (sym (Missing-position (same_key key) es h).value) ∙ value_looked_up es key
value_by es key (Some i) h =
    value_among es i ∙ ap (option_map (λ (p : Pair). p.value)) (sym (Found-position (same_key key) es i h).value) ∙ value_looked_up es key

pub value_there : (es : List (Key × Pair)) (key : Key) → value_in es (place_of es key) ≡ value_at es key
value_there es key = value_by es key (place_of es key) refl

-- a key without a place has no value
pub value_nowhere : (es : List (Key × Pair)) (key : Key) → place_of es key ≡ None → value_at es key ≡ None
value_nowhere es key h = sym (value_by es key None h)

-- a value that was written into the pair at a place
pub value_written : (es : List (Key × Pair)) (i : ℕ) (p : Pair) (value : PsObj) → slice_get (values_of es) i ≡ Some p → set_value_at es i (record p { value = value }) ≡ with_value_in es i value
value_written [] i p value h = refl
value_written (e ∷ es) zero p value h = let same : e.1 ≡ p = cc in ap (λ (q : Pair). (e.0, record q { value = value }) ∷ es) (sym same)
value_written (e ∷ es) (suc i) p value h = ap (λ l. e ∷ l) (value_written es i p value h)

-- a pair that was found is put with another value
put_found : (b : Bool) (e : Key × Pair) (es put rest : List (Key × Pair)) (found : Option Pair) (p : Pair) (value : PsObj) → (if b then Some e.1 else found) ≡ Some p → (found ≡ Some p → put ≡ rest)
    → (if b then (e.0, record p { value = value }) ∷ es else e ∷ put) ≡ (if b then with_value e value ∷ es else e ∷ rest)
put_found true e es put rest found p value h k = let same : e.1 ≡ p = cc in ap (λ (q : Pair). (e.0, record q { value = value }) ∷ es) (sym same)
put_found false e es put rest found p value h k = ap (λ l. e ∷ l) (k h)

replaced_found : (es : List (Key × Pair)) (key : Key) (p : Pair) (value : PsObj) → lookup (same_key key) es ≡ Some p → insert_entry same_key es key (record p { value = value }) ≡ replaced es key value
replaced_found [] key p value h = absurd (none-some p h)
replaced_found (e ∷ es) key p value h =
    put_found (same_key key e.0) e es (insert_entry same_key es key (record p { value = value })) (replaced es key value) (lookup (same_key key) es) p value h (replaced_found es key p value)

pair_within : (es : List (Key × Pair)) (i : ℕ) → i < length es → (p : Pair) × (slice_get (values_of es) i ≡ Some p)
pair_within [] i h = absurd (omega arith)
pair_within (e ∷ es) zero h = (e.1, refl)
pair_within (e ∷ es) (suc i) h = pair_within es i (omega arith)

-- the value under a key is replaced at its place
pub replaced_there : (es : List (Key × Pair)) (key : Key) (value : PsObj) (i : ℕ) → place_of es key ≡ Some i → with_value_in es i value ≡ replaced es key value
replaced_there es key value i h =
    let found = Found-position (same_key key) es i h in
    let pair = pair_within es i found.within in
    sym (value_written es i pair.0 value pair.1) ∙ sym (insert_entry-first same_key key (record pair.0 { value = value }) es i found.first)
    ∙ replaced_found es key pair.0 value (found.value ∙ pair.1)

-- a key with a place is within the pairs, and has a value
pub within_place : (es : List (Key × Pair)) (key : Key) (i : ℕ) → place_of es key ≡ Some i → i < length es
within_place es key i h = (Found-position (same_key key) es i h).within

some_in : (es : List (Key × Pair)) (i : ℕ) → i < length es → is_some (value_in es (Some i)) ≡ true
some_in [] i h = absurd (omega arith)
some_in (e ∷ es) zero h = refl
some_in (e ∷ es) (suc i) h = some_in es i (omega arith)

pub value_is_there : (es : List (Key × Pair)) (key : Key) (i : ℕ) → place_of es key ≡ Some i → is_some (value_at es key) ≡ true
value_is_there es key i h = ap is_some (sym (value_there es key) ∙ ap (value_in es) h) ∙ some_in es i (within_place es key i h)

-- a test that fails, where what it gives is nothing
pub some_first : (b : Bool) (x : PsObj) (rest : Option PsObj) → (if b then Some x else rest) ≡ None → (b ≡ false) × (rest ≡ None)
some_first true x rest h = absurd (none-some x (sym h))
some_first false x rest h = (refl, h)

-- a pair under a key that is not there comes last
pub added_last : (es : List (Key × Pair)) (key : Key) (pair : Pair) → value_at es key ≡ None → insert_entry same_key es key pair ≡ es ++ (key, pair) ∷ []
added_last [] key pair h = refl
added_last (e ∷ es) key pair h =
    let parts = some_first (same_key key e.0) e.1.value (value_at es key) h in
    ap (λ b. if b then (e.0, pair) ∷ es else e ∷ insert_entry same_key es key pair) parts.0 ∙ ap (λ l. e ∷ l) (added_last es key pair parts.1)
