-- What is closed stays, but for deferred entries.
use Rattle.std.proofs.Common.{◌≡◌, inl, inr, refl, sym, ap, subst, ◌∙◌, ℕ, zero, suc, ◌<◌, ◌≤◌, Bool, true, false, IsTrue, if◌then◌else◌, Option, Some, List, [], ◌∷◌, ◌++◌, length, take, drop, min, slice_index_or, slice_set, append-nil, append_assoc, true≢false, arith}
use Rattle.std.proofs.lemmas.Bool.Decides.{nat_tests}
use Rattle.std.proofs.lemmas.List.{take-append-drop, take-take, get_or-take, get_or_append_left, length-take}
use Rattle.ps_store.specs.declared.object.Part.{Part}
use Rattle.ps_store.specs.declared.object.Part.TheVariants.{Table, Command}
use Rattle.ps_store.specs.declared.object.ArrayId.{ArrayId}
use Rattle.ps_store.specs.declared.object.DictId.{DictId}
use Rattle.ps_store.specs.declared.object.StringId.{StringId}
use Rattle.ps_store.specs.declared.object.Mark.{Mark}
use Rattle.ps_store.specs.declared.object.PsObj.{PsObj}
use Rattle.ps_store.specs.declared.object.Pair.{Pair}
use Rattle.ps_store.specs.declared.key.Key.{Key}
use Rattle.ps_store.specs.StoreState.{StoreState, Closed}
use Rattle.ps_store.specs.Key.{same_key}
use Rattle.ps_store.specs.Entries.{value_at, with_value, replaced}
use Rattle.ps_store.specs.Cut.{mark_of}
use Rattle.ps_store.specs.Extends.{HoldsArray, HoldsDict, HoldsString}
use Rattle.ps_store.specs.Store.{IsAbove, closed_part, is_closed, elements_of, bytes_of, entries_of, with_entries, is_deferred}
use Rattle.ps_store.specs.Settled.{Begins, IsKept, ArePairsKept, AreDictsKept, Settled}

module _ {X : Type 0} where
  pub begins_same : (xs : List X) → Begins xs xs
  begins_same xs = record { rest = []; whole = sym (append-nil xs) }

  pub begins_on : (xs ys zs : List X) → Begins xs ys → Begins ys zs → Begins xs zs
  begins_on xs ys zs h k = record { rest = h.rest ++ k.rest; whole = k.whole ∙ ap (λ l. l ++ k.rest) h.whole ∙ append_assoc xs h.rest k.rest }

  -- so many items, and more of them
  pub begins_take : (n m : ℕ) (xs : List X) → n ≤ m → Begins (take n xs) (take m xs)
  begins_take n m xs le = record {
    rest = drop n (take m xs);
    whole = sym (take-append-drop n (take m xs)) ∙ ap (λ l. l ++ drop n (take m xs)) (take-take n m xs le);
  }

  -- an item among the first ones is the same
  pub begins_at : (n m i : ℕ) (xs ys : List X) (d : X) → i < n → n ≤ m → i < length xs → Begins (take n xs) (take m ys) → slice_index_or ys i d ≡ slice_index_or xs i d
  begins_at n m i xs ys d low le within b =
      let less : i < m = omega arith in
      let size : length (take n xs) ≡ min n (length xs) = length-take n xs in
      let short : i < length (take n xs) = omega arith in
      sym (get_or-take m ys i d less) ∙ ap (λ l. slice_index_or l i d) b.whole ∙ get_or_append_left (take n xs) b.rest d i short ∙ get_or-take n xs i d low

-- ---- pairs

pub pairs_same : (es : List (Key × Pair)) → ArePairsKept es es
pairs_same [] = tt
pairs_same (e ∷ es) = (refl, refl, inl refl, pairs_same es)

kept_on : (x y z : PsObj) → IsKept x y → IsKept y z → IsKept x z
kept_on x y z (inl e) (inl f) = inl (f ∙ e)
kept_on x y z (inl e) (inr d) = inr (subst (λ v. IsTrue (is_deferred (Some v))) e d)
kept_on x y z (inr d) k = inr d

pairs_on : (xs ys zs : List (Key × Pair)) → ArePairsKept xs ys → ArePairsKept ys zs → ArePairsKept xs zs
pairs_on [] [] [] h k = tt
pairs_on [] [] (z ∷ zs) h k = absurd k
pairs_on [] (y ∷ ys) zs h k = absurd h
pairs_on (x ∷ xs) [] zs h k = absurd h
pairs_on (x ∷ xs) (y ∷ ys) [] h k = absurd k
pairs_on (x ∷ xs) (y ∷ ys) (z ∷ zs) h k = (k.0 ∙ h.0, k.1 ∙ h.1, kept_on x.1.value y.1.value z.1.value h.2 k.2, pairs_on xs ys zs h.3 k.3)

-- the value of a deferred entry is put in its place
put_there : (b : Bool) (e : Key × Pair) (es put : List (Key × Pair)) (found : Option PsObj) (value : PsObj)
    → IsTrue (is_deferred (if b then Some e.1.value else found)) → (IsTrue (is_deferred found) → ArePairsKept es put)
    → ArePairsKept (e ∷ es) (if b then with_value e value ∷ es else e ∷ put)
put_there true e es put found value h rest = (refl, refl, inr h, pairs_same es)
put_there false e es put found value h rest = (refl, refl, inl refl, rest h)

pub value_settled : (es : List (Key × Pair)) (key : Key) (value : PsObj) → IsTrue (is_deferred (value_at es key)) → ArePairsKept es (replaced es key value)
value_settled [] key value h = absurd (true≢false (sym h))
value_settled (e ∷ es) key value h = put_there (same_key key e.0) e es (replaced es key value) (value_at es key) value h (value_settled es key value)

-- what was found and wasn't deferred is found
found_kept : (b : Bool) (v w x : PsObj) (found found' : Option PsObj) → IsKept v w → is_deferred (Some x) ≡ false
    → (if b then Some v else found) ≡ Some x → (found ≡ Some x → found' ≡ Some x) → (if b then Some w else found') ≡ Some x
found_kept true v w x found found' (inl e) plain h rest = ap Some e ∙ h
found_kept true v w x found found' (inr d) plain h rest = absurd (let e : v ≡ x = cc in let t : is_deferred (Some x) ≡ true = cc in cc)
found_kept false v w x found found' k plain h rest = rest h

pub value_kept : (xs ys : List (Key × Pair)) (key : Key) (x : PsObj) → ArePairsKept xs ys → value_at xs key ≡ Some x → is_deferred (Some x) ≡ false → value_at ys key ≡ Some x
value_kept [] [] key x k h plain = h
value_kept [] (b ∷ ys) key x k h plain = absurd k
value_kept (a ∷ xs) [] key x k h plain = absurd k
value_kept (a ∷ xs) (b ∷ ys) key x k h plain =
    ap (λ c. if same_key key c then Some b.1.value else value_at ys key) k.0
    ∙ found_kept (same_key key a.0) a.1.value b.1.value x (value_at xs key) (value_at ys key) k.2 plain h (λ i. value_kept xs ys key x k.3 i plain)

-- ---- dictionaries

dicts_same : (ds : List (List (Key × Pair))) → AreDictsKept ds ds
dicts_same [] = tt
dicts_same (d ∷ ds) = (pairs_same d, dicts_same ds)

dicts_on : (xs ys zs : List (List (Key × Pair))) → AreDictsKept xs ys → AreDictsKept ys zs → AreDictsKept xs zs
dicts_on [] ys zs h k = tt
dicts_on (x ∷ xs) [] zs h k = absurd h
dicts_on (x ∷ xs) (y ∷ ys) [] h k = absurd k
dicts_on (x ∷ xs) (y ∷ ys) (z ∷ zs) h k = (pairs_on x y z h.0 k.0, dicts_on xs ys zs h.1 k.1)

dicts_take : (n m : ℕ) (ds : List (List (Key × Pair))) → n ≤ m → AreDictsKept (take n ds) (take m ds)
dicts_take zero m ds le = tt
dicts_take (suc n) zero ds le = absurd (omega arith)
dicts_take (suc n) (suc m) [] le = tt
dicts_take (suc n) (suc m) (d ∷ ds) le = (pairs_same d, dicts_take n m ds (omega arith))

dicts_set : (n i : ℕ) (ds : List (List (Key × Pair))) (es : List (Key × Pair)) → ArePairsKept (slice_index_or ds i []) es → AreDictsKept (take n ds) (take n (slice_set ds i es))
dicts_set zero i ds es h = tt
dicts_set (suc n) i [] es h = tt
dicts_set (suc n) zero (d ∷ ds) es h = (h, dicts_same (take n ds))
dicts_set (suc n) (suc i) (d ∷ ds) es h = (pairs_same d, dicts_set n i ds es h)

pub dict_kept : (n m i : ℕ) (xs ys : List (List (Key × Pair))) → i < n → i < length xs → AreDictsKept (take n xs) (take m ys) → n ≤ m → ArePairsKept (slice_index_or xs i []) (slice_index_or ys i [])
dict_kept zero m i xs ys low within k le = absurd (omega arith)
dict_kept (suc n) zero i xs ys low within k le = absurd (omega arith)
dict_kept (suc n) (suc m) i [] ys low within k le = absurd (omega arith)
dict_kept (suc n) (suc m) i (x ∷ xs) [] low within k le = absurd k
dict_kept (suc n) (suc m) zero (x ∷ xs) (y ∷ ys) low within k le = k.0
dict_kept (suc n) (suc m) (suc i) (x ∷ xs) (y ∷ ys) low within k le = dict_kept n m i xs ys (omega arith) (omega arith) k.1 (omega arith)

-- ---- the closed part

above_same : (m : Mark) → IsAbove m m
above_same m = record { arrays = omega arith; dicts = omega arith; strings = omega arith; units = omega arith }

above_on : (l m n : Mark) → IsAbove l m → IsAbove m n → IsAbove l n
above_on l m n h k =
    let a = h.arrays in let b = k.arrays in let c = h.dicts in let d = k.dicts in
    let e = h.strings in let f = k.strings in let g = h.units in let i = k.units in
    record { arrays = omega arith; dicts = omega arith; strings = omega arith; units = omega arith }

pub settled_same : (p : Closed) → Settled p p
settled_same p = record {
  arrays = begins_same p.arrays;
  dicts = dicts_same p.dicts;
  strings = begins_same p.strings;
  mark = above_same p.mark;
  part = refl;
  base = refl;
  top = refl;
}

pub settled_on : (p q r : Closed) → Settled p q → Settled q r → Settled p r
settled_on p q r h k = record {
  arrays = begins_on p.arrays q.arrays r.arrays h.arrays k.arrays;
  dicts = dicts_on p.dicts q.dicts r.dicts h.dicts k.dicts;
  strings = begins_on p.strings q.strings r.strings h.strings k.strings;
  mark = above_on p.mark q.mark r.mark h.mark k.mark;
  part = k.part ∙ h.part;
  base = k.base ∙ h.base;
  top = k.top ∙ h.top;
}

-- all is closed
pub all_settled : (s : StoreState) → IsAbove s.closed (mark_of s.table) → Settled (closed_part s) (closed_part (record s { closed = mark_of s.table }))
all_settled s h = record {
  arrays = begins_take s.closed.arrays (length s.table.arrays) s.table.arrays h.arrays;
  dicts = dicts_take s.closed.dicts (length s.table.dicts) s.table.dicts h.dicts;
  strings = begins_take s.closed.strings (length s.table.strings) s.table.strings h.strings;
  mark = h;
  part = refl;
  base = refl;
  top = refl;
}

-- a deferred entry is settled
settled_in : (s : StoreState) (p : Part) (i : ℕ) (es : List (Key × Pair)) → ArePairsKept (entries_of s (record { part = p; index = i })) es
    → Settled (closed_part s) (closed_part (with_entries s (record { part = p; index = i }) es))
settled_in s Command i es h = settled_same (closed_part s)
settled_in s Table i es h = record {
  arrays = begins_same (take s.closed.arrays s.table.arrays);
  dicts = dicts_set s.closed.dicts i s.table.dicts es h;
  strings = begins_same (take s.closed.strings s.table.strings);
  mark = above_same s.closed;
  part = refl;
  base = refl;
  top = refl;
}

pub entry_settled : (s : StoreState) (d : DictId) (key : Key) (value : PsObj) → IsTrue (is_deferred (value_at (entries_of s d) key))
    → Settled (closed_part s) (closed_part (with_entries s d (replaced (entries_of s d) key value)))
entry_settled s d key value h = settled_in s d.part d.index (replaced (entries_of s d) key value) (value_settled (entries_of s d) key value h)

-- ---- stores whose closed parts were settled

array_in : (s t : StoreState) (p : Part) (i : ℕ) → Settled (closed_part s) (closed_part t) → HoldsArray s (record { part = p; index = i }) → is_closed p i s.closed.arrays ≡ true
    → elements_of t (record { part = p; index = i }) ≡ elements_of s (record { part = p; index = i })
array_in s t Table i h is closed =
    begins_at s.closed.arrays t.closed.arrays i s.table.arrays t.table.arrays [] (grind (arith, nat_tests)) h.mark.arrays is h.arrays
array_in s t Command i h is closed = absurd (true≢false (sym closed))

pub array_stays : (s t : StoreState) (a : ArrayId) → Settled (closed_part s) (closed_part t) → HoldsArray s a → is_closed a.part a.index s.closed.arrays ≡ true → elements_of t a ≡ elements_of s a
array_stays s t a h is closed = array_in s t a.part a.index h is closed

string_in : (s t : StoreState) (p : Part) (i : ℕ) → Settled (closed_part s) (closed_part t) → HoldsString s (record { part = p; index = i }) → is_closed p i s.closed.strings ≡ true
    → bytes_of t (record { part = p; index = i }) ≡ bytes_of s (record { part = p; index = i })
string_in s t Table i h is closed =
    begins_at s.closed.strings t.closed.strings i s.table.strings t.table.strings [] (grind (arith, nat_tests)) h.mark.strings is h.strings
string_in s t Command i h is closed = absurd (true≢false (sym closed))

pub string_stays : (s t : StoreState) (x : StringId) → Settled (closed_part s) (closed_part t) → HoldsString s x → is_closed x.part x.index s.closed.strings ≡ true → bytes_of t x ≡ bytes_of s x
string_stays s t x h is closed = string_in s t x.part x.index h is closed

dict_in : (s t : StoreState) (p : Part) (i : ℕ) → Settled (closed_part s) (closed_part t) → HoldsDict s (record { part = p; index = i }) → is_closed p i s.closed.dicts ≡ true
    → ArePairsKept (entries_of s (record { part = p; index = i })) (entries_of t (record { part = p; index = i }))
dict_in s t Table i h is closed =
    dict_kept s.closed.dicts t.closed.dicts i s.table.dicts t.table.dicts (grind (arith, nat_tests)) is h.dicts h.mark.dicts
dict_in s t Command i h is closed = absurd (true≢false (sym closed))

pub dict_stays : (s t : StoreState) (d : DictId) → Settled (closed_part s) (closed_part t) → HoldsDict s d → is_closed d.part d.index s.closed.dicts ≡ true → ArePairsKept (entries_of s d) (entries_of t d)
dict_stays s t d h is closed = dict_in s t d.part d.index h is closed
