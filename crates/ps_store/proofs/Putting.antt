-- What is put under a key, by the place of the key.
use Rattle.std.proofs.Common.{◌≡◌, ◌≤◌, ℕ, ◌+◌, Bool, true, false, if◌then◌else◌, Some, None, Ok, Err, List, [], ◌∷◌, ◌++◌, ◌&&◌, nat_le, length, min, is_some, slice_index_or, refl, sym, ap, subst, ◌∙◌, arith}
use Rattle.std.proofs.lemmas.Bool.Decides.{nat_tests}
use Rattle.std.proofs.lemmas.List.{take_all, take_at}
use Rattle.ps_store.specs.declared.object.Part.{Part}
use Rattle.ps_store.specs.declared.object.Part.TheVariants.{Table, Command}
use Rattle.ps_store.specs.declared.object.PsObj.{PsObj}
use Rattle.ps_store.specs.declared.object.PsObj.TheVariants.{Name as NameObject}
use Rattle.ps_store.specs.declared.object.DictId.{DictId}
use Rattle.ps_store.specs.declared.object.Pair.{Pair}
use Rattle.ps_store.specs.declared.key.Key.{Key}
use Rattle.ps_store.specs.declared.key.Key.TheVariants.{Name, Int, Bool as Truth}
use Rattle.ps_store.specs.declared.fault.StoreFault.{StoreFault}
use Rattle.ps_store.specs.declared.fault.StoreFault.TheVariants.{Limit, ReadOnly, NoMemory}
use Rattle.ps_store.specs.Held.{Held}
use Rattle.ps_store.specs.StoreState.{StoreState}
use Rattle.ps_store.specs.Entries.{value_at, place_of, replaced, with_value_in}
use Rattle.ps_store.specs.declared.object.Mark.{Mark}
use Rattle.ps_store.specs.declared.object.StringId.{StringId}
use Rattle.ps_store.specs.Cut.{mark_of, cut}
use Rattle.ps_store.specs.Store.{Given, held, with_held, bytes_of, entries_of, with_entries, is_closed, has_room, text_units, named_object, key_object, adding_pair, adding, putting, putting_under_name, Does}
use Rattle.ps_store.proofs.Pairs.{value_is_there, value_nowhere, replaced_there}

chosen : {X : Type 0} (closed there : Bool) (a b c : Given X) → closed ≡ false → there ≡ true → (if closed then a else (if there then b else c)) ≡ b
chosen true there a b c h k = cc
chosen false true a b c h k = refl
chosen false false a b c h k = cc

other : {X : Type 0} (closed there : Bool) (a b c : Given X) → closed ≡ false → there ≡ false → (if closed then a else (if there then b else c)) ≡ c
other true there a b c h k = cc
other false true a b c h k = cc
other false false a b c h k = refl

-- where the key has a place, the value is replaced there
pub put_there : (s : StoreState) (d : DictId) (key : Key) (object : Given PsObj) (value : PsObj) (i : ℕ) → is_closed d.part d.index s.closed.dicts ≡ false → place_of (entries_of s d) key ≡ Some i
    → putting s d key object value ≡ Ok (tt, with_entries s d (with_value_in (entries_of s d) i value))
put_there s d key object value i unclosed is =
    chosen (is_closed d.part d.index s.closed.dicts) (is_some (value_at (entries_of s d) key)) (Err ReadOnly) (Ok (tt, with_entries s d (replaced (entries_of s d) key value))) (adding d key value object) unclosed (value_is_there (entries_of s d) key i is)
    ∙ ap (λ es. Ok (tt, with_entries s d es)) (sym (replaced_there (entries_of s d) key value i is))

-- where it has none, the value is added
pub put_new : (s : StoreState) (d : DictId) (key : Key) (object : Given PsObj) (value : PsObj) → is_closed d.part d.index s.closed.dicts ≡ false → place_of (entries_of s d) key ≡ None
    → putting s d key object value ≡ adding d key value object
put_new s d key object value unclosed is =
    other (is_closed d.part d.index s.closed.dicts) (is_some (value_at (entries_of s d) key)) (Err ReadOnly) (Ok (tt, with_entries s d (replaced (entries_of s d) key value))) (adding d key value object) unclosed (ap is_some (value_nowhere (entries_of s d) key is))

-- the same under a name of the store, which is short enough
pub name_put_there : (s : StoreState) (d : DictId) (t : StringId) (value : PsObj) (i : ℕ) → length (bytes_of s t) ≤ 127 → is_closed d.part d.index s.closed.dicts ≡ false → place_of (entries_of s d) (Name (bytes_of s t)) ≡ Some i
    → putting_under_name s d t value ≡ Ok (tt, with_entries s d (with_value_in (entries_of s d) i value))
name_put_there s d t value i fits unclosed is =
    let short : nat_le (length (bytes_of s t)) 127 ≡ true = grind (arith, nat_tests) in
    ap (λ b. if b then putting s d (Name (bytes_of s t)) (Ok (NameObject t false, s)) value else Err Limit) short
    ∙ put_there s d (Name (bytes_of s t)) (Ok (NameObject t false, s)) value i unclosed is

-- ---- the object of a key is made, and dropped

-- what the object of a key leaves of a store
pub record KeyMade (s s' : StoreState) : Type 0 where
  pub entries : (d : DictId) → entries_of s' d ≡ entries_of s d
  pub closed : s'.closed ≡ s.closed
  pub part : s'.part ≡ s.part
  pub back : with_held s' s'.part (cut (held s' s'.part) (mark_of (held s s.part))) ≡ s

-- a part with texts behind its own, cut back
cut_texts : (h : Held) (more : List (List ℕ)) (u : ℕ) → cut (record h { strings = h.strings ++ more; units = h.units + u }) (mark_of h) ≡ h
cut_texts h more u =
    let a = take_all (length h.arrays) h.arrays (omega arith) in
    let d = take_all (length h.dicts) h.dicts (omega arith) in
    let t = take_at h.strings more (length h.strings) refl in
    let n : min h.units (h.units + u) ≡ h.units = omega arith in
    λ i. record { arrays = a i; dicts = d i; strings = t i; units = n i }

dicts_kept : (s : StoreState) (p q : Part) (h : Held) → h.dicts ≡ (held s p).dicts → (held (with_held s p h) q).dicts ≡ (held s q).dicts
dicts_kept s Table Table h e = e
dicts_kept s Table Command h e = refl
dicts_kept s Command Table h e = refl
dicts_kept s Command Command h e = e

closed_kept : (s : StoreState) (p : Part) (h : Held) → (with_held s p h).closed ≡ s.closed
closed_kept s Table h = refl
closed_kept s Command h = refl

part_kept : (s : StoreState) (p : Part) (h : Held) → (with_held s p h).part ≡ s.part
part_kept s Table h = refl
part_kept s Command h = refl

put_back : (s : StoreState) (p : Part) (h : Held) (m : Mark) → cut h m ≡ held s p → with_held (with_held s p h) p (cut (held (with_held s p h) p) m) ≡ s
put_back s Table h m e = ap (λ (g : Held). record s { table = g }) e
put_back s Command h m e = ap (λ (g : Held). record s { command = g }) e

made_in : (s : StoreState) (h : Held) → h.dicts ≡ (held s s.part).dicts → cut h (mark_of (held s s.part)) ≡ held s s.part → KeyMade s (with_held s s.part h)
made_in s h e back =
    let s' = with_held s s.part h in
    record {
      entries = λ d. ap (λ (ds : List (List (Key × Pair))). slice_index_or ds d.index []) (dicts_kept s s.part d.part h e);
      closed = closed_kept s s.part h;
      part = part_kept s s.part h;
      back = ap (λ (q : Part). with_held s' q (cut (held s' q) (mark_of (held s s.part)))) (part_kept s s.part h) ∙ put_back s s.part h (mark_of (held s s.part)) back;
    }

same_held : (s : StoreState) (p : Part) → with_held s p (held s p) ≡ s
same_held s Table = refl
same_held s Command = refl

same_made : (s : StoreState) → KeyMade s s
same_made s =
    let h = held s s.part in
    let a = take_all (length h.arrays) h.arrays (omega arith) in
    let d = take_all (length h.dicts) h.dicts (omega arith) in
    let t = take_all (length h.strings) h.strings (omega arith) in
    let n : min h.units h.units ≡ h.units = omega arith in
    let whole : cut h (mark_of h) ≡ h = λ i. record { arrays = a i; dicts = d i; strings = t i; units = n i } in
    record { entries = λ d. refl; closed = refl; part = refl; back = ap (λ (g : Held). with_held s s.part g) whole ∙ same_held s s.part }

abbrev name_if : Bool → StringId × StoreState → Given PsObj
name_if b made = named_object (if b then Ok made else Err Limit)

abbrev state_of : Given PsObj → StoreState → StoreState
state_of (Ok made) s = made.1
state_of (Err fault) s = s

name_granted : (b : Bool) (made : StringId × StoreState) (x : PsObj) (s s' : StoreState) → name_if b made ≡ Ok (x, s') → KeyMade s made.1 → KeyMade s s'
name_granted true made x s s' e h = subst (λ (v : StoreState). KeyMade s v) (ap (λ (g : Given PsObj). state_of g s) e) h
name_granted false made x s s' e h = absurd (cc)

pub key_made : (s s' : StoreState) (key : Key) (x : PsObj) → key_object s key ≡ Ok (x, s') → KeyMade s s'
key_made s s' (Name text) x e =
    let h = held s s.part in
    let h' : Held = record h { strings = h.strings ++ text ∷ []; units = h.units + text_units text } in
    name_granted (nat_le (length text) 127 && has_room s (text_units text)) (record { part = s.part; index = length h.strings }, with_held s s.part h') x s s' e
    (made_in s h' refl (cut_texts h (text ∷ []) (text_units text)))
key_made s s' (Int n) x e = subst (λ (v : StoreState). KeyMade s v) (ap (λ (g : Given PsObj). state_of g s) e) (same_made s)
key_made s s' (Truth b) x e = subst (λ (v : StoreState). KeyMade s v) (ap (λ (g : Given PsObj). state_of g s) e) (same_made s)

-- what was made for a key is dropped where the pair is refused
cut_made : (s s' t u : StoreState) (key : Key) (x : PsObj) (m : Mark) → key_object s key ≡ Ok (x, s') → m ≡ mark_of (held s s.part) → t ≡ s' → u ≡ with_held t t.part (cut (held t t.part) m) → u ≡ s
cut_made s s' t u key x m made marked same is =
    is ∙ ap (λ (n : Mark). with_held t t.part (cut (held t t.part) n)) marked ∙ ap (λ (v : StoreState). with_held v v.part (cut (held v v.part) (mark_of (held s s.part)))) same
    ∙ (key_made s s' key x made).back

pub dropped : (s s' t u : StoreState) (d : DictId) (key : Key) (x value : PsObj) (m : Mark) (fault : StoreFault) → key_object s key ≡ Ok (x, s') → m ≡ mark_of (held s s.part)
    → Does (Err fault) s' t (adding_pair s' d key (record { key = x; value = value })) → u ≡ with_held t t.part (cut (held t t.part) m)
    → Does (Err fault) s u (adding d key value (key_object s key))
dropped s s' t u d key x value m Limit made marked h is = (ap (adding d key value) made ∙ h.0, cut_made s s' t u key x m made marked h.1 is)
dropped s s' t u d key x value m ReadOnly made marked h is = (ap (adding d key value) made ∙ h.0, cut_made s s' t u key x m made marked h.1 is)
dropped s s' t u d key x value m NoMemory made marked h is = cut_made s s' t u key x m made marked h is
