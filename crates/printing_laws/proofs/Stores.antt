-- What calls of a store leave of it.
use Rattle.std.proofs.Common.{◌≡◌, refl, ap, subst, ◌∙◌, ℕ, ◌+◌, ◌≤◌, Bool, true, false, ◌&&◌, nat_lt, if◌then◌else◌, is_some, Option, Some, None, Ok, Err, List, [], ◌∷◌, ◌++◌, length, take, slice_set, length-append, nat_le, arith}
use Rattle.std.proofs.lemmas.Bool.Decides.{nat_tests}
use Rattle.std.proofs.lemmas.List.{take-append-le, take-set-le, length-set}
use Rattle.ps_store.specs.declared.fault.StoreFault.TheVariants.{Limit, ReadOnly}
use Rattle.ps_store.specs.declared.key.Key.{Key}
use Rattle.ps_store.specs.declared.key.Key.TheVariants.{Name as NameKey, Int as IntKey, Bool as TruthKey}
use Rattle.ps_store.specs.declared.object.ArrayId.{ArrayId}
use Rattle.ps_store.specs.declared.object.DictId.{DictId}
use Rattle.ps_store.specs.declared.object.Mark.{Mark}
use Rattle.ps_store.specs.declared.object.Pair.{Pair}
use Rattle.ps_store.specs.declared.object.Part.{Part}
use Rattle.ps_store.specs.declared.object.Part.TheVariants.{Table, Command}
use Rattle.ps_store.specs.declared.object.PsObj.{PsObj}
use Rattle.ps_store.specs.declared.object.PsObj.TheVariants.{Int as IntObject, Bool as TruthObject, Name}
use Rattle.ps_store.specs.declared.object.StringId.{StringId}
use Rattle.ps_store.specs.StoreState.{StoreState, Closed}
use Rattle.ps_store.specs.Entries.{value_at, replaced}
use Rattle.ps_store.specs.Extends.{Extends}
use Rattle.ps_store.specs.Overwritten.{overwritten}
use Rattle.ps_store.specs.Store.{Given, closed_part, held, with_held, is_closed, has_room, elements_of, entries_of, bytes_of, with_elements, with_entries, with_bytes, making_array, making_dict, making_text, key_object, named_object, adding, putting, putting_under_name, writing_elements, writing_bytes}
use Rattle.ps_store.proofs.Extending.{array_made, dict_made, text_made, extends_same}
use Rattle.ps_step.specs.Results.{stored, opened}
use Rattle.printing_laws.proofs.Leaving.{All, Leaves, leaves_on}

abbrev closed_as : List (List PsObj) → List (List (Key × Pair)) → List (List ℕ) → Mark → Part → List DictId → Option DictId → Closed
closed_as a d s m p b t = record { arrays = a; dicts = d; strings = s; mark = m; part = p; base = b; top = t }

-- ---- objects are added

extends_leave : (s t : StoreState) → Extends s t → Leaves s t
extends_leave s t x = record {
  keeps = λ h.
      let a = h.arrays in let d = h.dicts in let z = h.strings in let u = h.units in
      let ma : t.closed.arrays ≡ s.closed.arrays = ap (λ (m : Mark). m.arrays) x.closed in
      let md : t.closed.dicts ≡ s.closed.dicts = ap (λ (m : Mark). m.dicts) x.closed in
      let mz : t.closed.strings ≡ s.closed.strings = ap (λ (m : Mark). m.strings) x.closed in
      let mu : t.closed.units ≡ s.closed.units = ap (λ (m : Mark). m.units) x.closed in
      let ea : take t.closed.arrays t.table.arrays ≡ take s.closed.arrays s.table.arrays =
      ap (λ n. take n t.table.arrays) ma ∙ ap (take s.closed.arrays) x.table.arrays.whole ∙ take-append-le s.closed.arrays s.table.arrays x.table.arrays.rest a in
      let ed : take t.closed.dicts t.table.dicts ≡ take s.closed.dicts s.table.dicts =
      ap (λ n. take n t.table.dicts) md ∙ ap (take s.closed.dicts) x.table.dicts.whole ∙ take-append-le s.closed.dicts s.table.dicts x.table.dicts.rest d in
      let ez : take t.closed.strings t.table.strings ≡ take s.closed.strings s.table.strings =
      ap (λ n. take n t.table.strings) mz ∙ ap (take s.closed.strings) x.table.strings.whole ∙ take-append-le s.closed.strings s.table.strings x.table.strings.rest z in
      let la : length t.table.arrays ≡ length s.table.arrays + length x.table.arrays.rest = ap length x.table.arrays.whole ∙ length-append s.table.arrays x.table.arrays.rest in
      let ld : length t.table.dicts ≡ length s.table.dicts + length x.table.dicts.rest = ap length x.table.dicts.whole ∙ length-append s.table.dicts x.table.dicts.rest in
      let lz : length t.table.strings ≡ length s.table.strings + length x.table.strings.rest = ap length x.table.strings.whole ∙ length-append s.table.strings x.table.strings.rest in
      let lu = x.table.units in (
        ap (λ q. closed_as q (take t.closed.dicts t.table.dicts) (take t.closed.strings t.table.strings) t.closed t.part t.base t.top) ea
            ∙ ap (λ q. closed_as (take s.closed.arrays s.table.arrays) q (take t.closed.strings t.table.strings) t.closed t.part t.base t.top) ed
            ∙ ap (λ q. closed_as (take s.closed.arrays s.table.arrays) (take s.closed.dicts s.table.dicts) q t.closed t.part t.base t.top) ez
            ∙ ap (λ q. closed_as (take s.closed.arrays s.table.arrays) (take s.closed.dicts s.table.dicts) (take s.closed.strings s.table.strings) q t.part t.base t.top) x.closed
            ∙ ap (λ q. closed_as (take s.closed.arrays s.table.arrays) (take s.closed.dicts s.table.dicts) (take s.closed.strings s.table.strings) s.closed q t.base t.top) x.part
            ∙ ap (λ q. closed_as (take s.closed.arrays s.table.arrays) (take s.closed.dicts s.table.dicts) (take s.closed.strings s.table.strings) s.closed s.part q t.top) x.base
            ∙ ap (λ q. closed_as (take s.closed.arrays s.table.arrays) (take s.closed.dicts s.table.dicts) (take s.closed.strings s.table.strings) s.closed s.part s.base q) x.top,
        record { arrays = omega arith; dicts = omega arith; strings = omega arith; units = omega arith },
      );
}

stored_leaves : {X : Type 0} (s : StoreState) (g : Given X) → ((x : X) (t : StoreState) → g ≡ Ok (x, t) → Leaves s t) → All (λ made. Leaves s made.1) (stored g)
stored_leaves s (Ok made) h = h made.0 made.1 refl
stored_leaves s (Err f) h = tt

pub array_leaves : (s : StoreState) (items : List PsObj) → All (λ made. Leaves s made.1) (stored (making_array s items))
array_leaves s items = stored_leaves s (making_array s items) (λ a t e. extends_leave s t (array_made s t items a e))

pub dict_leaves : (s : StoreState) → All (λ made. Leaves s made.1) (stored (making_dict s))
dict_leaves s = stored_leaves s (making_dict s) (λ d t e. extends_leave s t (dict_made s t d e))

pub text_leaves : (most : ℕ) (s : StoreState) (bytes : List ℕ) → All (λ made. Leaves s made.1) (stored (making_text most s bytes))
text_leaves most s bytes = stored_leaves s (making_text most s bytes) (λ x t e. extends_leave s t (text_made most s t bytes x e))

-- ---- objects that are not closed are changed

elements_left : (s : StoreState) (p : Part) (i : ℕ) (xs : List PsObj) → is_closed p i s.closed.arrays ≡ false → Leaves s (with_elements s (record { part = p; index = i }) xs)
elements_left s Command i xs free = record { keeps = λ h. (refl, h) }
elements_left s Table i xs free = record {
  keeps = λ h.
      let a = h.arrays in
      let same : length (slice_set s.table.arrays i xs) ≡ length s.table.arrays = length-set s.table.arrays i xs in
      let low : s.closed.arrays ≤ i = grind (arith, nat_tests) in (
        ap (λ l. record (closed_part s) { arrays = l }) (take-set-le s.closed.arrays s.table.arrays i xs low),
        record { arrays = omega arith; dicts = h.dicts; strings = h.strings; units = h.units },
      );
}

bytes_left : (s : StoreState) (p : Part) (i : ℕ) (bs : List ℕ) → is_closed p i s.closed.strings ≡ false → Leaves s (with_bytes s (record { part = p; index = i }) bs)
bytes_left s Command i bs free = record { keeps = λ h. (refl, h) }
bytes_left s Table i bs free = record {
  keeps = λ h.
      let a = h.strings in
      let same : length (slice_set s.table.strings i bs) ≡ length s.table.strings = length-set s.table.strings i bs in
      let low : s.closed.strings ≤ i = grind (arith, nat_tests) in (
        ap (λ l. record (closed_part s) { strings = l }) (take-set-le s.closed.strings s.table.strings i bs low),
        record { arrays = h.arrays; dicts = h.dicts; strings = omega arith; units = h.units },
      );
}

-- a dictionary's entries, with so many units more
abbrev more_entries : StoreState → DictId → List (Key × Pair) → ℕ → StoreState
more_entries s d es n = let h = held s d.part in with_held s d.part (record h { dicts = slice_set h.dicts d.index es; units = h.units + n })

entries_left : (s : StoreState) (p : Part) (i : ℕ) (es : List (Key × Pair)) (n : ℕ) → is_closed p i s.closed.dicts ≡ false → Leaves s (more_entries s (record { part = p; index = i }) es n)
entries_left s Command i es n free = record { keeps = λ h. (refl, h) }
entries_left s Table i es n free = record {
  keeps = λ h.
      let a = h.dicts in let b = h.units in
      let same : length (slice_set s.table.dicts i es) ≡ length s.table.dicts = length-set s.table.dicts i es in
      let low : s.closed.dicts ≤ i = grind (arith, nat_tests) in (
        ap (λ l. record (closed_part s) { dicts = l }) (take-set-le s.closed.dicts s.table.dicts i es low),
        record { arrays = h.arrays; dicts = omega arith; strings = h.strings; units = omega arith },
      );
}

replaced_left : (s : StoreState) (p : Part) (i : ℕ) (es : List (Key × Pair)) → is_closed p i s.closed.dicts ≡ false → Leaves s (with_entries s (record { part = p; index = i }) es)
replaced_left s Command i es free = record { keeps = λ h. (refl, h) }
replaced_left s Table i es free = record {
  keeps = λ h.
      let a = h.dicts in
      let same : length (slice_set s.table.dicts i es) ≡ length s.table.dicts = length-set s.table.dicts i es in
      let low : s.closed.dicts ≤ i = grind (arith, nat_tests) in (
        ap (λ l. record (closed_part s) { dicts = l }) (take-set-le s.closed.dicts s.table.dicts i es low),
        record { arrays = h.arrays; dicts = omega arith; strings = h.strings; units = h.units },
      );
}

if_open : (s t : StoreState) (b : Bool) → (b ≡ false → Leaves s t) → All (Leaves s) (opened (if b then None else Some t))
if_open s t true h = tt
if_open s t false h = h refl

pub elements_leave : (s : StoreState) (a : ArrayId) (at : ℕ) (items : List PsObj) → All (Leaves s) (opened (writing_elements s a at items))
elements_leave s a at items =
    if_open s (with_elements s a (overwritten (elements_of s a) at items)) (is_closed a.part a.index s.closed.arrays) (elements_left s a.part a.index (overwritten (elements_of s a) at items))

pub bytes_leave : (s : StoreState) (t : StringId) (at : ℕ) (items : List ℕ) → All (Leaves s) (opened (writing_bytes s t at items))
bytes_leave s t at items =
    if_open s (with_bytes s t (overwritten (bytes_of s t) at items)) (is_closed t.part t.index s.closed.strings) (bytes_left s t.part t.index (overwritten (bytes_of s t) at items))

-- ---- a value is put under a key

if_room : (s t : StoreState) (b : Bool) → Leaves s t → All (λ (made : Unit {0} × StoreState). Leaves s made.1) (stored (if b then Ok (tt, t) else Err Limit))
if_room s t true h = h
if_room s t false h = tt

module _ (s : StoreState) (d : DictId) (key : Key) (value : PsObj) where
  -- the key's object was made
  added : (object : Given PsObj) → ((x : PsObj) (t : StoreState) → object ≡ Ok (x, t) → Extends s t) → is_closed d.part d.index s.closed.dicts ≡ false
      → All (λ (made : Unit {0} × StoreState). Leaves s made.1) (stored (adding d key value object))
  added (Err f) h free = tt
  added (Ok made) h free =
      let x : Extends s made.1 = h made.0 made.1 refl in
      let free' : is_closed d.part d.index made.1.closed.dicts ≡ false = ap (λ (m : Mark). is_closed d.part d.index m.dicts) x.closed ∙ free in
      let entries : List (Key × Pair) = entries_of made.1 d ++ (key, record { key = made.0; value = value }) ∷ [] in
      if_room s (more_entries made.1 d entries 1) (nat_lt (length (entries_of made.1 d)) 1000000 && has_room made.1 1)
      (leaves_on s made.1 (more_entries made.1 d entries 1) (extends_leave s made.1 x) (entries_left made.1 d.part d.index entries 1 free'))

  put_leaves : (object : Given PsObj) → ((x : PsObj) (t : StoreState) → object ≡ Ok (x, t) → Extends s t) → All (λ (made : Unit {0} × StoreState). Leaves s made.1) (stored (putting s d key object value))
  put_leaves object h = by_closed (is_closed d.part d.index s.closed.dicts) refl
    where
      by_found : (b : Bool) → is_closed d.part d.index s.closed.dicts ≡ false
          → All (λ (made : Unit {0} × StoreState). Leaves s made.1) (stored (if b then Ok (tt, with_entries s d (replaced (entries_of s d) key value)) else adding d key value object))
      by_found true free = replaced_left s d.part d.index (replaced (entries_of s d) key value) free
      by_found false free = added object h free

      by_closed : (b : Bool) → is_closed d.part d.index s.closed.dicts ≡ b
          → All (λ (made : Unit {0} × StoreState). Leaves s made.1)
          (stored (if b then Err ReadOnly else if is_some (value_at (entries_of s d) key) then Ok (tt, with_entries s d (replaced (entries_of s d) key value)) else adding d key value object))
      by_closed true closed = tt
      by_closed false free = by_found (is_some (value_at (entries_of s d) key)) free

abbrev store_in : StoreState → Given PsObj → StoreState
store_in s (Ok made) = made.1
store_in s (Err f) = s

same_store : (s u t : StoreState) (y x : PsObj) → ◌≡◌ {A = Given PsObj} (Ok (y, u)) (Ok (x, t)) → Extends s u → Extends s t
same_store s u t y x e h = subst (Extends s) (let q : u ≡ t = ap (λ (g : Given PsObj). store_in s g) e in q) h

key_made : (s : StoreState) (key : Key) (x : PsObj) (t : StoreState) → key_object s key ≡ Ok (x, t) → Extends s t
key_made s (NameKey text) x t e = by_name (making_text 127 s text) refl e
  where
    by_name : (g : Given StringId) → making_text 127 s text ≡ g → named_object g ≡ Ok (x, t) → Extends s t
    by_name (Ok made) f e = same_store s made.1 t (Name made.0 false) x e (text_made 127 s made.1 text made.0 f)
    by_name (Err fault) f e = absurd cc
key_made s (IntKey n) x t e = same_store s s t (IntObject n) x e (extends_same s)
key_made s (TruthKey b) x t e = same_store s s t (TruthObject b) x e (extends_same s)

pub value_leaves : (s : StoreState) (d : DictId) (key : Key) (value : PsObj) → All (λ (made : Unit {0} × StoreState). Leaves s made.1) (stored (putting s d key (key_object s key) value))
value_leaves s d key value = put_leaves s d key value (key_object s key) (key_made s key)

pub name_leaves : (s : StoreState) (d : DictId) (t : StringId) (value : PsObj) → All (λ (made : Unit {0} × StoreState). Leaves s made.1) (stored (putting_under_name s d t value))
name_leaves s d t value = by_length (nat_le (length (bytes_of s t)) 127)
  where
    by_length : (b : Bool) → All (λ (made : Unit {0} × StoreState). Leaves s made.1) (stored (if b then putting s d (NameKey (bytes_of s t)) (Ok (Name t false, s)) value else Err Limit))
    by_length true = put_leaves s d (NameKey (bytes_of s t)) value (Ok (Name t false, s)) (λ x u e. same_store s s u (Name t false) x e (extends_same s))
    by_length false = tt
