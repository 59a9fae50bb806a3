-- What is closed of a store stays where deferred entries are settled.
use Rattle.std.proofs.Common.{◌≡◌, refl, sym, ap, subst, ◌∙◌, ℕ, zero, suc, ◌+◌, ◌<◌, Bool, true, false, if◌then◌else◌, Option, Some, None, List, [], ◌∷◌, ◌++◌, length, take, min, slice_index_or, length-append, option_map, arith}
use Rattle.std.proofs.lemmas.List.{get_or-take, get_or_append_left, length-take}
use Rattle.ps_store.specs.declared.object.Part.{Part}
use Rattle.ps_store.specs.declared.object.Part.TheVariants.{Table, Command}
use Rattle.ps_store.specs.declared.object.DictId.{DictId}
use Rattle.ps_store.specs.declared.object.PsObj.{PsObj}
use Rattle.ps_store.specs.declared.object.PsObj.TheVariants.{Op as OpObj}
use Rattle.ps_store.specs.declared.object.Pair.{Pair}
use Rattle.ps_store.specs.declared.key.Key.{Key}
use Rattle.ps_store.specs.declared.key.Key.TheVariants.{Name as NameKey}
use Rattle.ps_store.specs.StoreState.{StoreState}
use Rattle.ps_store.specs.Key.{same_key}
use Rattle.ps_store.specs.Entries.{value_at}
use Rattle.ps_store.specs.Extends.{HoldsDict}
use Rattle.ps_store.specs.Operators.{operator_number}
use Rattle.ps_store.specs.Settled.{Begins, ArePairsKept, Settled}
use Rattle.ps_store.specs.Store.{closed_part, elements_of, entries_of, is_deferred}
use Rattle.ps_store.proofs.Settling.{value_kept, dict_kept, settled_same, settled_on}
use Rattle.ps_step.specs.declared.machine.PsCore.{PsCore}
use Rattle.ps_step.specs.Keys.{or_else, found_in, named}
use Rattle.ps_run.specs.Runs.{Operates}
use Rattle.ps_text.specs.Grown.{HasArray, IsString}
use Rattle.ps_terms.specs.Stands.{Keeps}
use Rattle.ps_terms.specs.Printing.{Printing, Looked, nothing, after}
use Rattle.ps_terms.specs.Faring.{shut, HoldsDicts, Stays}

pub keeps_same : (s : StoreState) (ds : List DictId) → Keeps s ds s
keeps_same s ds = record {
  strings = λ t text is. is;
  arrays = λ a has. refl;
  names = λ name x is plain. is;
  values = λ d key x is plain. is;
}

-- by look-ups deferred entries are settled at most
pub looked_settled : {D : Type 0} (Op : Operates D) (needs : D → PsCore → ℕ → Bool) (first now : StoreState) (j : ℕ) → Looked Op needs first now j
    → Settled (closed_part first) (closed_part now)
looked_settled Op needs first _ _ nothing = settled_same (closed_part first)
looked_settled Op needs first _ _ (after d d' c c' op n k i j looked some operates settled sum) =
    settled_on (closed_part first) (closed_part c.store) (closed_part c'.store) (looked_settled Op needs first c.store i looked) settled

-- an item of a list that begins another one
begins_from : {X : Type 0} (n m i : ℕ) (xs ys : List X) (d : X) → i < length (take n xs) → Begins (take n xs) (take m ys) → (i < length ys) × (slice_index_or ys i d ≡ slice_index_or (take n xs) i d)
begins_from n m i xs ys d low b =
    let whole : length (take m ys) ≡ length (take n xs ++ b.rest) = ap length b.whole in
    let parts : length (take n xs ++ b.rest) ≡ length (take n xs) + length b.rest = length-append (take n xs) b.rest in
    let size : length (take m ys) ≡ min m (length ys) = length-take m ys in
    let less : i < m = omega arith in
    (omega arith, sym (get_or-take m ys i d less) ∙ ap (λ l. slice_index_or l i d) b.whole ∙ get_or_append_left (take n xs) b.rest d i low)

-- ---- dictionaries

absent_kept : (b : Bool) (v w : PsObj) (found found' : Option PsObj) → (if b then Some v else found) ≡ None → (found ≡ None → found' ≡ None) → (if b then Some w else found') ≡ None
absent_kept true v w found found' h rest = absurd cc
absent_kept false v w found found' h rest = rest h

none_kept : (xs ys : List (Key × Pair)) (key : Key) → ArePairsKept xs ys → value_at xs key ≡ None → value_at ys key ≡ None
none_kept [] [] key k h = h
none_kept [] (b ∷ ys) key k h = absurd k
none_kept (a ∷ xs) [] key k h = absurd k
none_kept (a ∷ xs) (b ∷ ys) key k h =
    ap (λ c. if same_key key c then Some b.1.value else value_at ys key) k.0
    ∙ absent_kept (same_key key a.0) a.1.value b.1.value (value_at xs key) (value_at ys key) h (λ i. none_kept xs ys key k.3 i)

value_there : (dicts : List (List (Key × Pair))) (i : ℕ) (key : Key) (x : PsObj) → value_at (slice_index_or dicts i []) key ≡ Some x → i < length dicts
value_there [] i key x h = absurd cc
value_there (d ∷ dicts) zero key x h = omega arith
value_there (d ∷ dicts) (suc i) key x h = let e = value_there dicts i key x h in omega arith

module _ (s now : StoreState) (settled : Settled (closed_part s) (closed_part now)) where
  string_in : (p : Part) (i : ℕ) (text : List ℕ) → IsString (shut s) (record { part = p; index = i }) text → IsString now (record { part = p; index = i }) text
  string_in Table i text is =
      let there = begins_from s.closed.strings now.closed.strings i s.table.strings now.table.strings [] is.has settled.strings in
      record { has = there.0; bytes = there.1 ∙ is.bytes }
  string_in Command i text is = absurd (let h = is.has in omega arith)

  array_in : (p : Part) (i : ℕ) → HasArray (shut s) (record { part = p; index = i }) → elements_of now (record { part = p; index = i }) ≡ elements_of (shut s) (record { part = p; index = i })
  array_in Table i has = (begins_from s.closed.arrays now.closed.arrays i s.table.arrays now.table.arrays [] has settled.arrays).1
  array_in Command i has = absurd (omega arith)

  dict_in : (p : Part) (i : ℕ) → HoldsDict (shut s) (record { part = p; index = i }) → ArePairsKept (entries_of (shut s) (record { part = p; index = i })) (entries_of now (record { part = p; index = i }))
  dict_in Table i has =
      let size : length (take s.closed.dicts s.table.dicts) ≡ min s.closed.dicts (length s.table.dicts) = length-take s.closed.dicts s.table.dicts in
      let less : i < s.closed.dicts = omega (arith, has) in
      subst (λ es. ArePairsKept es (slice_index_or now.table.dicts i [])) (sym (get_or-take s.closed.dicts s.table.dicts i [] less))
      (dict_kept s.closed.dicts now.closed.dicts i s.table.dicts now.table.dicts less (omega (arith, has)) settled.dicts settled.mark.dicts)
  dict_in Command i has = absurd (omega arith)

  value_in : (p : Part) (i : ℕ) (key : Key) (x : PsObj) → value_at (entries_of (shut s) (record { part = p; index = i })) key ≡ Some x → is_deferred (Some x) ≡ false
      → value_at (entries_of now (record { part = p; index = i })) key ≡ Some x
  value_in Table i key x is plain =
      value_kept (slice_index_or (take s.closed.dicts s.table.dicts) i []) (slice_index_or now.table.dicts i []) key x
      (dict_in Table i (value_there (take s.closed.dicts s.table.dicts) i key x is)) is plain
  value_in Command i key x is plain = absurd cc

  abbrev Plain : Option PsObj → Type 0
  Plain None = Unit {0}
  Plain (Some x) = is_deferred (Some x) ≡ false

  -- what is found in dictionaries that are all closed
  found_kept : (ds : List DictId) (key : Key) → HoldsDicts (shut s) ds → (o : Option PsObj) → Plain o → found_in (shut s) ds key ≡ o → found_in now ds key ≡ o
  found_kept [] key there o plain h = h
  found_kept (d ∷ ds) key there o plain h =
      by_value (found_kept ds key there.1) (value_at (entries_of (shut s) d) key) refl o plain h
    where
      by_value : ((o : Option PsObj) → Plain o → found_in (shut s) ds key ≡ o → found_in now ds key ≡ o) → (v : Option PsObj) → value_at (entries_of (shut s) d) key ≡ v
          → (o : Option PsObj) → Plain o → or_else v (found_in (shut s) ds key) ≡ o → or_else (value_at (entries_of now d) key) (found_in now ds key) ≡ o
      by_value rest (Some x) e None plain h = absurd cc
      by_value rest (Some x) e (Some y) plain h =
          let same : x ≡ y = cc in
          ap (λ (v : Option PsObj). or_else v (found_in now ds key)) (value_in d.part d.index key y (e ∙ ap Some same) plain)
      by_value rest None e o plain h =
          ap (λ (v : Option PsObj). or_else v (found_in now ds key)) (none_kept (entries_of (shut s) d) (entries_of now d) key (dict_in d.part d.index there.0) e)
          ∙ rest o plain h

  name_kept : (ds : List DictId) → HoldsDicts (shut s) ds → (name : List ℕ) (x : PsObj) → named (shut s) ds name ≡ Some x → is_deferred (Some x) ≡ false → named now ds name ≡ Some x
  name_kept ds there name x h plain = by_found (found_in (shut s) ds (NameKey name)) refl h
    where
      by_found : (o : Option PsObj) → found_in (shut s) ds (NameKey name) ≡ o → or_else o (option_map (λ n. OpObj n) (operator_number name)) ≡ Some x → named now ds name ≡ Some x
      by_found (Some y) e h =
          let same : y ≡ x = cc in
          ap (λ (o : Option PsObj). or_else o (option_map (λ n. OpObj n) (operator_number name))) (found_kept ds (NameKey name) there (Some x) plain (e ∙ ap Some same))
      by_found None e h = ap (λ (o : Option PsObj). or_else o (option_map (λ n. OpObj n) (operator_number name))) (found_kept ds (NameKey name) there None tt e) ∙ h

  pub closed_keeps : (ds : List DictId) → HoldsDicts (shut s) ds → Keeps (shut s) ds now
  closed_keeps ds there = record {
    strings = λ t text is. string_in t.part t.index text is;
    arrays = λ a has. array_in a.part a.index has;
    names = λ name x is plain. name_kept ds there name x is plain;
    values = λ d key x is plain. value_in d.part d.index key x is plain;
  }

-- so what is closed stays whatever look-ups make of a store
pub closed_stays : {D : Type 0} (Op : Operates D) (prints : Printing Op) (first : StoreState) (ds : List DictId) → HoldsDicts (shut first) ds → Stays Op prints (shut first) ds first
closed_stays Op prints first ds there now j looked = closed_keeps first now (looked_settled Op prints.needs first now j looked) ds there
