-- Hints stay right as a dictionary changes.
use Rattle.std.proofs.Common.{◌≡◌, ◌≢◌, ℕ, zero, suc, ◌≤◌, Bool, true, false, List, [], ◌∷◌, ◌++◌, Option, Some, None, if◌then◌else◌, refl, ap, sym, subst, arith, true≢false, slice_set, slice_index_or, slice_get, length, bytes_eq}
use Rattle.std.specs.Cmp.Lexicographic.{bytes_decides}
use Rattle.std.specs.Map.{keys_of}
use Rattle.std.specs.List.{IsDistinct}
use Rattle.std.proofs.lemmas.List.{set_past}
use Rattle.indexmap.proofs.MapLemmas.{index-first}
use Rattle.indexmap.proofs.RemoveLemmas.{own_first}
use Rattle.ps_store.specs.declared.object.PsObj.{PsObj}
use Rattle.ps_store.specs.declared.object.Pair.{Pair}
use Rattle.ps_store.specs.declared.key.Key.{Key}
use Rattle.ps_store.specs.declared.key.Key.TheVariants.{Name, Int, Bool as Truth}
use Rattle.ps_store.specs.Key.{same_key}
use Rattle.ps_store.specs.KeyLaws.{same_key_Decides, same_key_equiv}
use Rattle.ps_store.specs.Entries.{value_at, with_value_in, place_of}
use Rattle.ps_store.specs.Hints.{bucket_of, Hinted, with_hint}
use Rattle.ps_store.proofs.Pairs.{some_first}

none_first : (b : Bool) (x : PsObj) (rest : Option PsObj) → b ≡ false → rest ≡ None → (if b then Some x else rest) ≡ None
none_first true x rest f h = absurd (true≢false f)
none_first false x rest f h = h

-- an absent key stays absent where a pair is added under another one
absent_added : (es : List (Key × Pair)) (key : Key) (pair : Pair) (k : Key) → same_key k key ≡ false → value_at es k ≡ None → value_at (es ++ (key, pair) ∷ []) k ≡ None
absent_added [] key pair k other absent = none_first (same_key k key) pair.value None other refl
absent_added (e ∷ es) key pair k other absent =
    let parts = some_first (same_key k e.0) e.1.value (value_at es k) absent in
    none_first (same_key k e.0) e.1.value (value_at (es ++ (key, pair) ∷ []) k) parts.0 (absent_added es key pair k other parts.1)

-- an absent key stays absent where a value is replaced
absent_replaced : (es : List (Key × Pair)) (i : ℕ) (value : PsObj) (k : Key) → value_at es k ≡ None → value_at (with_value_in es i value) k ≡ None
absent_replaced [] i value k absent = refl
absent_replaced (e ∷ es) zero value k absent =
    let parts = some_first (same_key k e.0) e.1.value (value_at es k) absent in
    none_first (same_key k e.0) value (value_at es k) parts.0 parts.1
absent_replaced (e ∷ es) (suc i) value k absent =
    let parts = some_first (same_key k e.0) e.1.value (value_at es k) absent in
    none_first (same_key k e.0) e.1.value (value_at (with_value_in es i value) k) parts.0 (absent_replaced es i value k parts.1)

not_true : (b : Bool) → b ≢ true → b ≡ false
not_true true h = absurd (h refl)
not_true false h = refl

-- names of different buckets are different
other_bucket : (text other : List ℕ) → bucket_of text ≢ bucket_of other → bytes_eq text other ≡ false
other_bucket text other ne = not_true (bytes_eq text other) (λ h. ne (ap bucket_of ((bytes_decides text other).0 h)))

-- a place that has no hint after one was set is another place, and had none
no_hint : (hints : List ℕ) (i j hint : ℕ) → 1 ≤ hint → slice_index_or (slice_set hints i hint) j 1 ≡ 0 → (j ≢ i) × (slice_index_or hints j 1 ≡ 0)
no_hint [] i j hint least h = absurd (true≢false (grind arith))
no_hint (x ∷ xs) zero zero hint least h = (grind arith, grind arith)
no_hint (x ∷ xs) zero (suc j) hint least h = (grind arith, h)
no_hint (x ∷ xs) (suc i) zero hint least h = (grind arith, h)
no_hint (x ∷ xs) (suc i) (suc j) hint least h =
    let rest = no_hint xs i j hint least h in
    (grind (arith, rest), rest.1)

pub hinted_added : (hints : List ℕ) (es : List (Key × Pair)) (key : Key) (pair : Pair) (hint : ℕ) → 1 ≤ hint → Hinted hints es → Hinted (with_hint hints key hint) (es ++ (key, pair) ∷ [])
hinted_added hints es (Name name) pair hint least h text empty =
    let before = no_hint hints (bucket_of name) (bucket_of text) hint least empty in
    absent_added es (Name name) pair (Name text) (other_bucket text name before.0) (h text before.1)
hinted_added hints es (Int n) pair hint least h text empty = absent_added es (Int n) pair (Name text) refl (h text empty)
hinted_added hints es (Truth b) pair hint least h text empty = absent_added es (Truth b) pair (Name text) refl (h text empty)

pub hinted_more : (hints : List ℕ) (es : List (Key × Pair)) (key : Key) (hint : ℕ) → 1 ≤ hint → Hinted hints es → Hinted (with_hint hints key hint) es
hinted_more hints es (Name name) hint least h text empty = h text (no_hint hints (bucket_of name) (bucket_of text) hint least empty).1
hinted_more hints es (Int n) hint least h text empty = h text empty
hinted_more hints es (Truth b) hint least h text empty = h text empty

pub hinted_replaced : (hints : List ℕ) (es : List (Key × Pair)) (i : ℕ) (value : PsObj) → Hinted hints es → Hinted hints (with_value_in es i value)
hinted_replaced hints es i value h text empty = absent_replaced es i value (Name text) (h text empty)

-- a hint past the end is none
pub past_hints : (hints : List ℕ) (i hint : ℕ) → length hints ≤ i → slice_set hints i hint ≡ hints
past_hints hints i hint past = set_past hints i hint past

-- where the key at a place is a name, the name's place is that one
pub place_of_same : (es : List (Key × Pair)) (name : List ℕ) (key : Key) (pair : Pair) (i : ℕ) → IsDistinct same_key (keys_of es) → same_key (Name name) key ≡ true → slice_get es i ≡ Some (key, pair) → place_of es (Name name) ≡ Some i
place_of_same es name key pair i distinct same there =
    let is : key ≡ Name name = sym ((same_key_Decides (Name name) key).0 same) in
    index-first (same_key (Name name)) es i (own_first same_key same_key_equiv es i (Name name) pair distinct (subst (λ k. slice_get es i ≡ Some (k, pair)) is there))
