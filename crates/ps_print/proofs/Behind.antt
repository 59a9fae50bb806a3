-- What is known of the prelude stays in each store behind it, under dictionaries that have none of its names.
use Rattle.std.proofs.Common.{◌≡◌, refl, sym, ap, subst, ◌∙◌, ℕ, zero, suc, pos, ◌+◌, ◌<◌, Bool, true, false, bytes_eq, if◌then◌else◌, Option, Some, None, Ok, Err, List, [], ◌∷◌, ◌++◌, length, map, take, min, slice_get, length-append, option_map, codes, nat_lt, arith}
use Rattle.std.specs.List.{AllByRecursion}
use Rattle.std.specs.Cmp.Lexicographic.{bytes_decides}
use Rattle.std.proofs.lemmas.Bool.{lt-ltb}
use Rattle.std.proofs.lemmas.List.{length-take, take-take}
use Rattle.ps_store.specs.declared.object.Part.{Part}
use Rattle.ps_store.specs.declared.object.Part.TheVariants.{Table, Command}
use Rattle.ps_store.specs.declared.object.ArrayId.{ArrayId}
use Rattle.ps_store.specs.declared.object.DictId.{DictId}
use Rattle.ps_store.specs.declared.object.PsObj.{PsObj}
use Rattle.ps_store.specs.declared.object.PsObj.TheVariants.{Int, Bool as Truth, Name, Str, Array, Dict, Op as OpObj, Mark, Null}
use Rattle.ps_store.specs.declared.key.Key.{Key as EntryKey}
use Rattle.ps_store.specs.declared.key.Key.TheVariants.{Name as NameKey}
use Rattle.ps_store.specs.Operators.{operator_number}
use Rattle.ps_store.specs.declared.object.Pair.{Pair}
use Rattle.ps_store.specs.StoreState.{StoreState, Closed}
use Rattle.ps_store.specs.Entries.{value_at}
use Rattle.ps_store.specs.Settled.{Begins, Settled}
use Rattle.ps_store.specs.Store.{closed_part, elements_of, entries_of, is_deferred}
use Rattle.ps_step.specs.declared.item.Item.{Item}
use Rattle.ps_step.specs.declared.item.Item.TheVariants.{Object, Procedure}
use Rattle.ps_step.specs.declared.machine.PsCore.{PsCore}
use Rattle.ps_step.specs.Keys.{or_else, found_in, named}
use Rattle.ps_step.specs.Results.{at}
use Rattle.ps_step.specs.State.{scheduling, calling, with_execution}
use Rattle.ps_step.specs.Executing.{alone}
use Rattle.ps_step.specs.declared.fault.PsError.TheVariants.{ExecStackOverflow}
use Rattle.ps_run.specs.Step.{Next, settled, step}
use Rattle.ps_text.specs.Code.{Code, Stop, Num, Word, Lit, Text as Quote, Proc}
use Rattle.ps_text.specs.Grown.{HasArray}
use Rattle.ps_text.specs.Spells.{Spells}
use Rattle.ps_terms.specs.Machine.{Val, Obj, Key, Bytes, Quoted, Entry, Acts, Branch, Branches, Does, Gives, Words, meaning}
use Rattle.ps_terms.specs.Stands.{Is, IsLiteral, Means, Keeps, Frames, bottom, frame, core}
use Rattle.ps_terms.specs.Faring.{shut, HoldsDicts}
use Rattle.ps_terms.proofs.Kept.{closed_keeps}
use Rattle.ps_print.specs.Prelude.{print_body, printers}
use Rattle.ps_print.specs.Words.{words, Holds, operators, executed_names, Lacks, IsPrinter, HasPrinters}
use Rattle.ps_print.proofs.Parts.{array_there}

-- an item of a list that begins another one is there
begins_there : {X : Type 0} (n m i : ℕ) (xs ys : List X) → i < length (take n xs) → Begins (take n xs) (take m ys) → i < length ys
begins_there n m i xs ys low b =
    let whole : length (take m ys) ≡ length (take n xs ++ b.rest) = ap length b.whole in
    let parts : length (take n xs ++ b.rest) ≡ length (take n xs) + length b.rest = length-append (take n xs) b.rest in
    let size : length (take m ys) ≡ min m (length ys) = length-take m ys in
    omega arith

literal_plain : (x : PsObj) → IsLiteral x → is_deferred (Some x) ≡ false
literal_plain (Str t true) h = absurd h
literal_plain (Str t false) h = refl
literal_plain (Int n) h = refl
literal_plain (Truth b) h = refl
literal_plain (Name t x) h = refl
literal_plain (Array a x) h = refl
literal_plain (Dict d) h = refl
literal_plain (OpObj n) h = refl
literal_plain Mark h = refl
literal_plain Null h = refl

or_else_on : {A : Type 0} (a b c : Option A) → or_else a (or_else b c) ≡ or_else (or_else a b) c
or_else_on (Some x) b c = refl
or_else_on None b c = refl

found_on : (s : StoreState) (above ds : List DictId) (key : EntryKey) → found_in s (above ++ ds) key ≡ or_else (found_in s above key) (found_in s ds key)
found_on s [] ds key = refl
found_on s (d ∷ above) ds key = ap (λ o. or_else (value_at (entries_of s d) key) o) (found_on s above ds key) ∙ or_else_on (value_at (entries_of s d) key) (found_in s above key) (found_in s ds key)

nth : (P : List ℕ → Type 0) (names : List (List ℕ)) (i : ℕ) (name : List ℕ) → slice_get names i ≡ Some name → AllByRecursion P names → P name
nth P [] i name e all = absurd cc
nth P (x ∷ names) zero name e all = let same : x ≡ name = cc in subst P same all.0
nth P (x ∷ names) (suc i) name e all = nth P names i name e all.1

-- a word's name is one of those that are lacked
lacked : (P : List ℕ → Type 0) (ws : Words) (others : List (List ℕ)) (name : List ℕ) (entry : Entry) → AllByRecursion P (map (λ word. word.0) ws ++ others) → meaning ws name ≡ Some entry → P name
lacked P [] others name entry all e = absurd cc
lacked P (w ∷ ws) others name entry all e = by_name (lacked P ws others name entry all.1) (bytes_eq w.0 name) refl e
  where
    by_name : (meaning ws name ≡ Some entry → P name) → (b : Bool) → bytes_eq w.0 name ≡ b → (if b then Some w.1 else meaning ws name) ≡ Some entry → P name
    by_name rest true f g = subst P ((bytes_decides w.0 name).0 f) all.0
    by_name rest false f g = rest g

module _ (s now : StoreState) (settled : Settled (closed_part s) (closed_part now)) (ds : List DictId) (there : HoldsDicts (shut s) ds) where
  keeps : Keeps (shut s) ds now
  keeps = closed_keeps s now settled ds there

  array_in : (p : Part) (i : ℕ) → HasArray (shut s) (record { part = p; index = i }) → HasArray now (record { part = p; index = i })
  array_in Table i has = begins_there s.closed.arrays now.closed.arrays i s.table.arrays now.table.arrays has settled.arrays
  array_in Command i has = absurd (omega arith)

  has_array : (a : ArrayId) → HasArray (shut s) a → HasArray now a
  has_array a has = array_in a.part a.index has

  spelled : (k : Code) (xs : List PsObj) → Spells (shut s) xs k → Spells now xs k
  spelled Stop xs h = h
  spelled (Num n rest) xs h = (h.0, h.1, spelled rest h.0 h.2)
  spelled (Word name rest) xs h = (h.0, h.1, h.2, keeps.strings h.0 name h.3, spelled rest h.1 h.4)
  spelled (Lit name rest) xs h = (h.0, h.1, h.2, keeps.strings h.0 name h.3, spelled rest h.1 h.4)
  spelled (Quote text rest) xs h = (h.0, h.1, h.2, keeps.strings h.0 text h.3, spelled rest h.1 h.4)
  spelled (Proc body rest) xs h = (
    h.0,
    h.1,
    h.2,
    h.3,
    record { has = has_array h.0 h.4.has; items = keeps.arrays h.0 h.4.has ∙ h.4.items },
    spelled body h.1 h.5,
    spelled rest h.2 h.6,
  )

  in_array : (k : Code) (a : ArrayId) → HasArray (shut s) a → Spells (shut s) (elements_of (shut s) a) k → Spells now (elements_of now a) k
  in_array k a has h = subst (λ xs. Spells now xs k) (sym (keeps.arrays a has)) (spelled k (elements_of (shut s) a) h)

  is_now : (x : PsObj) (v : Val) → Is (shut s) x v → Is now x v
  is_now x (Obj y) i = i
  is_now x (Key name) i = (i.0, i.1, keeps.strings i.0 name i.2)
  is_now x (Bytes text) i = (i.0, i.1, keeps.strings i.0 text i.2)
  is_now x (Quoted body) i = (i.0, i.1, has_array i.0 i.2, in_array body i.0 i.2 i.3)

  module _ (above : List DictId) where
    named_now : (name : List ℕ) (x : PsObj) → found_in now above (NameKey name) ≡ None → named (shut s) ds name ≡ Some x → is_deferred (Some x) ≡ false → named now (above ++ ds) name ≡ Some x
    named_now name x lacks is plain =
        ap (λ (o : Option PsObj). or_else o (option_map (λ n. OpObj n) (operator_number name))) (found_on now above ds (NameKey name) ∙ ap (λ (o : Option PsObj). or_else o (found_in now ds (NameKey name))) lacks)
        ∙ keeps.names name x is plain

    means : (name : List ℕ) (entry : Entry) → found_in now above (NameKey name) ≡ None → Means (shut s) ds name entry → Means now (above ++ ds) name entry
    means name (Acts op) lacks is = named_now name _ lacks is refl
    means name Branch lacks is = named_now name _ lacks is refl
    means name Branches lacks is = named_now name _ lacks is refl
    means name (Does body) lacks is = (is.0, named_now name (Array is.0 true) lacks is.1 refl, has_array is.0 is.2, in_array body is.0 is.2 is.3)
    means name (Gives v) lacks is = (is.0, named_now name is.0 lacks is.1 (literal_plain is.0 is.3), is_now is.0 v is.2, is.3)

    -- the prelude's words mean what they meant
    pub holds_behind : (digits : ArrayId) → Holds (shut s) ds digits → Lacks now above (executed_names digits) → Holds now (above ++ ds) digits
    holds_behind digits holds lacks =
        let at_place : (i : ℕ) (name : List ℕ) → slice_get (executed_names digits) i ≡ Some name → found_in now above (NameKey name) ≡ None =
        λ i name e. nth (λ n. found_in now above (NameKey n) ≡ None) (executed_names digits) i name e lacks in
        record {
          knows = λ name entry e. means name entry (lacked (λ n. found_in now above (NameKey n) ≡ None) (words digits) operators name entry lacks e) (holds.knows name entry e);
          get = named_now (codes "get") _ (at_place 23 (codes "get") refl) holds.get refl;
          length_of = named_now (codes "length") _ (at_place 24 (codes "length") refl) holds.length_of refl;
          fetch = named_now (codes "fetch") _ (at_place 25 (codes "fetch") refl) holds.fetch refl;
          udivs = named_now (codes "udivs") _ (at_place 26 (codes "udivs") refl) holds.udivs refl;
          urem = named_now (codes "urem") _ (at_place 27 (codes "urem") refl) holds.urem refl;
          usub = named_now (codes "usub") _ (at_place 28 (codes "usub") refl) holds.usub refl;
          uadd = named_now (codes "uadd") _ (at_place 29 (codes "uadd") refl) holds.uadd refl;
          put_chars = named_now (codes "PutChars") _ (at_place 30 (codes "PutChars") refl) holds.put_chars refl;
          put_char = named_now (codes "PutChar") _ (at_place 31 (codes "PutChar") refl) holds.put_char refl;
          put_pointer = named_now (codes "PutPointer") _ (at_place 32 (codes "PutPointer") refl) holds.put_pointer refl;
          charrun = named_now (codes "charrun") _ (at_place 33 (codes "charrun") refl) holds.charrun refl;
          put = named_now (codes "Put") _ (at_place 34 (codes "Put") refl) holds.put refl;
          digit = λ r h.
              let it = holds.digit r h in
              (it.0, ap (λ (l : List PsObj). slice_get l r) (keeps.arrays digits (array_there (shut s) digits r (Str it.0 false) it.1)) ∙ it.1, keeps.strings it.0 ((48 + r) ∷ []) it.2);
        }

    printers_named : (names : List (List ℕ)) → AllByRecursion (λ name. (x : PsObj) × (named (shut s) ds name ≡ Some x) × IsPrinter (shut s) x) names → Lacks now above names
        → AllByRecursion (λ name. (x : PsObj) × (named now (above ++ ds) name ≡ Some x) × IsPrinter now x) names
    printers_named [] all lacks = tt
    printers_named (name ∷ names) all lacks =
        let it = all.0 in
        let is : IsPrinter (shut s) it.0 = it.2 in (
          (it.0, named_now name it.0 lacks.0 it.1 (ap (λ x. is_deferred (Some x)) is.1), (is.0, is.1, has_array is.0 is.2, in_array print_body is.0 is.2 is.3)),
          printers_named names all.1 lacks.1,
        )

    -- and so do the printers' names
    pub printers_behind : HasPrinters (shut s) ds → Lacks now above printers → HasPrinters now (above ++ ds)
    printers_behind all lacks = printers_named printers all lacks

-- what is closed of the closed store is the same
take_twice : {X : Type 0} (n : ℕ) (xs : List X) → take n (take n xs) ≡ take n xs
take_twice n xs = take-take n n xs (omega arith)

pub closed_shut : (s : StoreState) → closed_part (shut s) ≡ closed_part s
closed_shut s =
    let made : List (List PsObj) → List (List (EntryKey × Pair)) → List (List ℕ) → Closed = λ arrays dicts strings. record (closed_part s) { arrays = arrays; dicts = dicts; strings = strings } in
    ap (λ l. made l (take s.closed.dicts (take s.closed.dicts s.table.dicts)) (take s.closed.strings (take s.closed.strings s.table.strings))) (take_twice s.closed.arrays s.table.arrays)
    ∙ ap (λ l. made (take s.closed.arrays s.table.arrays) l (take s.closed.strings (take s.closed.strings s.table.strings))) (take_twice s.closed.dicts s.table.dicts)
    ∙ ap (made (take s.closed.arrays s.table.arrays) (take s.closed.dicts s.table.dicts)) (take_twice s.closed.strings s.table.strings)

-- where one is executed it is entered at its first object
pub printer_begins : (s now : StoreState) (ds : List DictId) (o : List PsObj) (x : PsObj) (under : List Item) → Keeps s ds now → IsPrinter s x → length under < 1000
    → (a : ArrayId) × (step (core now ds o (Object x ∷ under)) ≡ Next (core now ds o (Procedure a 0 ∷ under))) × Frames s under (Procedure a 0 ∷ under) (print_body ∷ [])
printer_begins s now ds o x under stays is room =
    let a : ArrayId = is.0 in
    let c : PsCore = core now ds o under in
    let items : elements_of now a ≡ Int (pos 1000) ∷ is.3.0 = stays.arrays a is.2 ∙ is.3.1 in
    let entered : settled (alone (at c (calling a c))) ≡ settled (alone (at c (scheduling (Procedure a 0) c))) =
    ap (λ (l : List PsObj). settled (alone (at c (if nat_lt 0 (length l) then scheduling (Procedure a 0) c else Ok c)))) items
    ∙ ap (λ b. settled (alone (at c (if b then scheduling (Procedure a 0) c else Ok c)))) (lt-ltb 0 (length (Int (pos 1000) ∷ is.3.0)) (omega arith)) in
    let pushed : settled (alone (at c (scheduling (Procedure a 0) c))) ≡ Next (core now ds o (Procedure a 0 ∷ under)) =
    ap (λ b. settled (alone (at c (if b then Ok (with_execution c (Procedure a 0 ∷ under)) else Err ExecStackOverflow)))) (lt-ltb (length under) 1000 room) in
    (a, ap (λ y. step (core now ds o (Object y ∷ under))) is.1 ∙ (entered ∙ pushed), frame a 0 under print_body [] is.2 is.3 bottom)
