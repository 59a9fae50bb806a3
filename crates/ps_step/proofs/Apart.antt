-- Pairs that are put into a dictionary leave the other dictionaries as they are.
use Rattle.std.proofs.Common.{◌≡◌, ◌≢◌, ℕ, ◌+◌, ◌<◌, ◌≤◌, inl, inr, ◌==◌, Bool, true, false, ◌&&◌, nat_le, nat_lt, is_some, if◌then◌else◌, Option, Some, None, Result, Ok, Err, OnOk, List, [], ◌∷◌, ◌++◌, length, drop, option_map, slice_get, slice_set, slice_index_or, refl, sym, ap, ◌∙◌, arith}
use Rattle.std.proofs.lemmas.List.{get_or-set_other, drop_more, drop_all}
use Rattle.std.proofs.lemmas.Option.{get_or_from_slice_get, slice_get_within, slice_get_cases}
use Rattle.ps_store.specs.declared.object.Part.{Part}
use Rattle.ps_store.specs.declared.object.Part.TheVariants.{Table, Command}
use Rattle.ps_store.specs.declared.object.DictId.{DictId}
use Rattle.ps_store.specs.declared.object.PsObj.{PsObj}
use Rattle.ps_store.specs.declared.object.PsObj.TheVariants.{Int, Bool as Truth, Name, Str, Array, Dict, Op, Mark, Null}
use Rattle.ps_store.specs.declared.object.Pair.{Pair}
use Rattle.ps_store.specs.declared.key.Key.{Key}
use Rattle.ps_store.specs.declared.key.Key.TheVariants.{Name as NameKey}
use Rattle.ps_store.specs.declared.fault.StoreFault.{StoreFault}
use Rattle.ps_store.specs.StoreState.{StoreState}
use Rattle.ps_store.specs.Store.{Given, held, with_held, bytes_of, entries_of, with_entries, is_closed, has_room, key_object, adding_pair, adding, putting, putting_value, putting_under_name}
use Rattle.ps_store.specs.Entries.{value_at, replaced}
use Rattle.ps_store.proofs.Putting.{key_made}
use Rattle.ps_store.specs.declared.fault.StoreFault.TheVariants.{ReadOnly, Limit}
use Rattle.ps_step.specs.Compare.{same_part}
use Rattle.ps_step.specs.declared.fault.PsError.{PsError}
use Rattle.ps_step.specs.declared.fault.PsFault.{PsFault}
use Rattle.ps_step.specs.declared.fault.PsFault.TheVariants.{Error, Spent, Link, NoMemory}
use Rattle.ps_step.specs.Effects.{Stores, StopsAt}
use Rattle.ps_step.specs.Results.{◌>>=◌, stored, at}
use Rattle.ps_step.specs.Keys.{key_of, put_under}
use Rattle.ps_step.specs.Composites.{same_dict, putting_pairs}

-- another place of a list is as it was
other : (xs : List (List (Key × Pair))) (i j : ℕ) (new : List (Key × Pair)) → (j == i) ≡ false → slice_index_or (slice_set xs i new) j [] ≡ slice_index_or xs j []
other xs i j new h = get_or-set_other xs i j new [] (λ e. grind (arith, h, e))

-- the pairs of another dictionary are as they were
pairs_apart : (s : StoreState) (p q : Part) (i j : ℕ) (new : List (Key × Pair)) (u : ℕ) → (same_part q p && j == i) ≡ false
    → slice_index_or (held (with_held s p (record (held s p) { dicts = slice_set (held s p).dicts i new; units = u })) q).dicts j [] ≡ slice_index_or (held s q).dicts j []
pairs_apart s Table Table i j new u h = other s.table.dicts i j new h
pairs_apart s Table Command i j new u h = refl
pairs_apart s Command Table i j new u h = refl
pairs_apart s Command Command i j new u h = other s.command.dicts i j new h

-- a state is given
abbrev gave : StoreState → Given (Unit {0})
gave x = Ok (tt, x)

-- the state that is given, where one is, and else another
abbrev state_or : {X : Type 0} → StoreState → Given X → StoreState
state_or s (Ok given) = given.1
state_or s (Err fault) = s

-- with other pairs in its place, another dictionary has its own
other_entries : (s : StoreState) (d e : DictId) (new : List (Key × Pair)) (u : ℕ) → same_dict e d ≡ false
    → entries_of (with_held s d.part (record (held s d.part) { dicts = slice_set (held s d.part).dicts d.index new; units = u })) e ≡ entries_of s e
other_entries s d e new u h = pairs_apart s d.part e.part d.index e.index new u h

added_if : (b : Bool) (f : StoreFault) (x s : StoreState) → (if b then gave x else Err f) ≡ gave s → s ≡ x
added_if true f x s h = sym (ap (state_or x) h)
added_if false f x s h = cc

added_apart : (s s' : StoreState) (d e : DictId) (key : Key) (pair : Pair) → same_dict e d ≡ false → adding_pair s d key pair ≡ gave s' → entries_of s' e ≡ entries_of s e
added_apart s s' d e key pair h made =
    let new = entries_of s d ++ (key, pair) ∷ [] in
    let given : StoreState = with_held s d.part (record (held s d.part) { dicts = slice_set (held s d.part).dicts d.index new; units = (held s d.part).units + 1 }) in
    ap (λ (x : StoreState). entries_of x e) (added_if (nat_lt (length (entries_of s d)) 1000000 && has_room s 1) Limit given s' made)
    ∙ other_entries s d e new ((held s d.part).units + 1) h

-- what makes the object of a key leaves the pairs of a dictionary
abbrev pub Leaves : DictId → StoreState → Given PsObj → Type 0
Leaves e s (Ok made) = entries_of made.1 e ≡ entries_of s e
Leaves e s (Err fault) = Unit {0}

adding_apart : (s s' : StoreState) (d e : DictId) (key : Key) (value : PsObj) (object : Given PsObj) → same_dict e d ≡ false → Leaves e s object → adding d key value object ≡ gave s' → entries_of s' e ≡ entries_of s e
adding_apart s s' d e key value (Ok made) h left is = added_apart made.1 s' d e key (record { key = made.0; value = value }) h is ∙ left
adding_apart s s' d e key value (Err fault) h left is = cc

-- a value is put in one of two ways
put_cases : {A : Type 0} (closed there : Bool) (f : StoreFault) (x s : StoreState) (g : Given (Unit {0})) → (if closed then Err f else (if there then gave x else g)) ≡ gave s → (s ≡ x → A) → (g ≡ gave s → A) → A
put_cases true there f x s g h k l = absurd (cc)
put_cases false true f x s g h k l = k (sym (ap (state_or x) h))
put_cases false false f x s g h k l = l h

putting_apart : (s s' : StoreState) (d e : DictId) (key : Key) (value : PsObj) (object : Given PsObj) → same_dict e d ≡ false → Leaves e s object → putting s d key object value ≡ gave s' → entries_of s' e ≡ entries_of s e
putting_apart s s' d e key value object h left made =
    let new = replaced (entries_of s d) key value in
    put_cases (is_closed d.part d.index s.closed.dicts) (is_some (value_at (entries_of s d) key)) ReadOnly (with_entries s d new) s' (adding d key value object) made
    (λ is. ap (λ (x : StoreState). entries_of x e) is ∙ other_entries s d e new (held s d.part).units h)
    (λ is. adding_apart s s' d e key value object h left is)

object_leaves : (s : StoreState) (e : DictId) (key : Key) (object : Given PsObj) → key_object s key ≡ object → Leaves e s object
object_leaves s e key (Ok made) h = (key_made s made.1 key made.0 h).entries e
object_leaves s e key (Err fault) h = tt

-- what a call of the store gave
stored_is : (g : Given (Unit {0})) (s : StoreState) → (stored g >>= λ given. Ok given.1) ≡ Ok s → g ≡ gave s
stored_is (Ok given) s h = let e : given.1 ≡ s = cc in ap gave e
stored_is (Err fault) s h = absurd (cc)

key_apart : (s s' : StoreState) (d e : DictId) (value : PsObj) (key : Result Key PsError) → same_dict e d ≡ false → (key >>= λ k. stored (putting_value s d k value) >>= λ given. Ok given.1) ≡ Ok s' → entries_of s' e ≡ entries_of s e
key_apart s s' d e value (Ok key) h made = putting_apart s s' d e key value (key_object s key) h (object_leaves s e key (key_object s key) refl) (stored_is (putting_value s d key value) s' made)
key_apart s s' d e value (Err error) h made = cc

name_if : (b : Bool) (g : Given (Unit {0})) (s : StoreState) → (if b then g else Err Limit) ≡ gave s → g ≡ gave s
name_if true g s h = h
name_if false g s h = cc

pub apart : (s s' : StoreState) (d e : DictId) (place value : PsObj) → same_dict e d ≡ false → put_under s d place value ≡ Ok s' → entries_of s' e ≡ entries_of s e
apart s s' d e (Name t x) value h made =
    let key = NameKey (bytes_of s t) in
    let object : Given PsObj = Ok (Name t false, s) in
    putting_apart s s' d e key value object h refl (name_if (nat_le (length (bytes_of s t)) 127) (putting s d key object value) s' (stored_is (putting_under_name s d t value) s' made))
apart s s' d e (Str t x) value h made = key_apart s s' d e value (key_of s (Str t x)) h made
apart s s' d e (Int n) value h made = key_apart s s' d e value (key_of s (Int n)) h made
apart s s' d e (Truth b) value h made = key_apart s s' d e value (key_of s (Truth b)) h made
apart s s' d e (Array a x) value h made = key_apart s s' d e value (key_of s (Array a x)) h made
apart s s' d e (Dict i) value h made = key_apart s s' d e value (key_of s (Dict i)) h made
apart s s' d e (Op n) value h made = key_apart s s' d e value (key_of s (Op n)) h made
apart s s' d e Mark value h made = key_apart s s' d e value (key_of s Mark) h made
apart s s' d e Null value h made = key_apart s s' d e value (key_of s Null) h made

none_some : {A : Type 0} {x : A} → None ≡ Some x → ⊥
none_some h = cc

-- the pairs from a place on are put
from_here : (s : StoreState) (d : DictId) (xs : List (Key × Pair)) (i : ℕ) (x : Key × Pair) → slice_get xs i ≡ Some x → putting_pairs s d (drop i xs) ≡ (at s (put_under s d x.1.key x.1.value) >>= λ s'. putting_pairs s' d (drop (i + 1) xs))
from_here s d xs i x h = ap (putting_pairs s d) (drop_more xs i x (slice_get_within xs i x h) ∙ ap (λ y. y ∷ drop (i + 1) xs) (get_or_from_slice_get xs i x x h))

from_found : (s : StoreState) (d : DictId) (xs : List (Key × Pair)) (i : ℕ) (p : Pair) (r : Option (Key × Pair)) → slice_get xs i ≡ r → Some p ≡ option_map (λ (e : Key × Pair). e.1) r
    → putting_pairs s d (drop i xs) ≡ (at s (put_under s d p.key p.value) >>= λ s'. putting_pairs s' d (drop (i + 1) xs))
from_found s d xs i p None h k = cc
from_found s d xs i p (Some x) h k =
    let same : x.1 ≡ p = cc in
    from_here s d xs i x h ∙ ap (λ (q : Pair). at s (put_under s d q.key q.value) >>= λ s'. putting_pairs s' d (drop (i + 1) xs)) same

pub pairs_from : (s : StoreState) (d : DictId) (xs : List (Key × Pair)) (i : ℕ) (p : Pair) → Some p ≡ option_map (λ (e : Key × Pair). e.1) (slice_get xs i)
    → putting_pairs s d (drop i xs) ≡ (at s (put_under s d p.key p.value) >>= λ s'. putting_pairs s' d (drop (i + 1) xs))
pairs_from s d xs i p h = from_found s d xs i p (slice_get xs i) refl h

-- what a pair that is put leaves of those behind it, and where it stops
pub pair_put : (r : Result (Unit {0}) PsFault) (s s' : StoreState) (d : DictId) (xs : List (Key × Pair)) (i : ℕ) (p : Pair) → Some p ≡ option_map (λ (e : Key × Pair). e.1) (slice_get xs i) → Stores r s s' (put_under s d p.key p.value)
    → OnOk r (putting_pairs s d (drop i xs) ≡ putting_pairs s' d (drop (i + 1) xs))
pair_put (Ok x) s s' d xs i p h made =
    pairs_from s d xs i p h ∙ ap (λ (r : Result StoreState PsError). at s r >>= λ s₁. putting_pairs s₁ d (drop (i + 1) xs)) made
pair_put (Err fault) s s' d xs i p h made = tt

pub pair_stops : (r : Result (Unit {0}) PsFault) (s s' : StoreState) (d : DictId) (xs : List (Key × Pair)) (i : ℕ) (p : Pair) → Some p ≡ option_map (λ (e : Key × Pair). e.1) (slice_get xs i) → Stores r s s' (put_under s d p.key p.value)
    → StopsAt r s' (putting_pairs s d (drop i xs))
pair_stops (Ok x) s s' d xs i p h made = tt
pair_stops (Err (Error e)) s s' d xs i p h made =
    pairs_from s d xs i p h ∙ ap (λ (r : Result StoreState PsError). at s r >>= λ s₁. putting_pairs s₁ d (drop (i + 1) xs)) made.0 ∙ ap (λ (v : StoreState). Err (e, v)) (sym made.1)
pair_stops (Err NoMemory) s s' d xs i p h made = tt
pair_stops (Err Spent) s s' d xs i p h made = absurd made
pair_stops (Err Link) s s' d xs i p h made = absurd made

pub pair_leaves : (r : Result (Unit {0}) PsFault) (s s' : StoreState) (d e : DictId) (p : Pair) → same_dict e d ≡ false → Stores r s s' (put_under s d p.key p.value) → OnOk r (entries_of s' e ≡ entries_of s e)
pair_leaves (Ok x) s s' d e p h made = apart s s' d e p.key p.value h made
pair_leaves (Err fault) s s' d e p h made = tt

-- a place without an item is past the end
past_end : {A B : Type 0} (f : A → B) (xs : List A) (i : ℕ) → None ≡ option_map f (slice_get xs i) → length xs ≤ i
past_end f xs i h = elim (slice_get_cases xs i).1 [ inl w ↦ absurd (none_some (h ∙ ap (option_map f) w.2)) | inr w ↦ w.0 ]

-- no pair at a place, and none behind it
pub no_pairs_from : (s : StoreState) (d : DictId) (xs : List (Key × Pair)) (i : ℕ) → None ≡ option_map (λ (e : Key × Pair). e.1) (slice_get xs i) → putting_pairs s d (drop i xs) ≡ putting_pairs s d (drop (i + 1) xs)
no_pairs_from s d xs i h =
    let past : length xs ≤ i = past_end (λ (e : Key × Pair). e.1) xs i h in
    rw (drop_all i xs past, drop_all (i + 1) xs (omega arith)) refl
