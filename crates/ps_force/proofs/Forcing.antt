-- What a run of a deferred entry leaves.
use Rattle.std.proofs.Common.{◌≡◌, refl, sym, ap, subst, ◌∙◌, ℕ, zero, suc, Bool, true, false, if◌then◌else◌, Option, Some, None, Result, Ok, Err, List, [], ◌∷◌, slice_index_or, slice_set}
use Rattle.std.specs.Prelude.{OnErr}
use Rattle.std.proofs.lemmas.Option.{none-some}
use Rattle.ps_store.specs.declared.object.Part.{Part}
use Rattle.ps_store.specs.declared.object.Part.TheVariants.{Table, Command}
use Rattle.ps_store.specs.declared.object.Mark.{Mark}
use Rattle.ps_store.specs.declared.object.DictId.{DictId}
use Rattle.ps_store.specs.declared.object.PsObj.{PsObj}
use Rattle.ps_store.specs.declared.object.PsObj.TheVariants.{Int, Bool as Truth, Name, Str, Array, Dict, Op, Mark as MarkObject, Null}
use Rattle.ps_store.specs.declared.object.Pair.{Pair}
use Rattle.ps_store.specs.declared.key.Key.{Key}
use Rattle.ps_store.specs.StoreState.{StoreState, Closed}
use Rattle.ps_store.specs.Key.{same_key}
use Rattle.ps_store.specs.Entries.{value_at, with_value, replaced}
use Rattle.ps_store.specs.Cut.{mark_of}
use Rattle.ps_store.specs.Store.{closed_part, entries_of, with_entries, is_deferred, KeepsClosed, KeepsClosedIn}
use Rattle.ps_step.specs.declared.fault.PsFault.{PsFault}
use Rattle.ps_step.specs.declared.fault.PsFault.TheVariants.{Error}
use Rattle.ps_step.specs.declared.fault.PsError.TheVariants.{StackUnderflow, TypeCheck, Undefined}
use Rattle.ps_step.specs.declared.machine.PsCore.{PsCore}
use Rattle.ps_run.specs.Runs.{Answer, Operates}
use Rattle.ps_force.specs.Forcing.{placing, left_on, placing_left, forced_by, Forces}

-- a mark that keeps what is closed still does where that is the same
pub keeps_on : (s t : StoreState) (m : Mark) → closed_part t ≡ closed_part s → KeepsClosed s m → KeepsClosed t m
keeps_on s t m e h = subst (λ (p : Closed). KeepsClosedIn p.part p.mark m) (sym e) h

-- what is closed is as it was where objects are made in the part as before
pub part_back : (r : Result PsObj PsFault) (old s t : StoreState) (part : Part) → part ≡ old.part → closed_part s ≡ closed_part (record old { part = Table }) → OnErr r (closed_part t ≡ closed_part s)
    → OnErr r (closed_part (record t { part = part }) ≡ closed_part old)
part_back (Ok x) old s t part e h k = tt
part_back (Err f) old s t part e h k = ap (λ (p : Closed). record p { part = part }) (k ∙ h) ∙ ap (λ q. record (closed_part old) { part = q }) e

-- ---- values that were put in the place of others

abbrev gives : PsObj → Result PsObj PsFault
gives x = Ok x

abbrev fails : PsFault → Result PsObj PsFault
fails f = Err f

ok_is : (x y : PsObj) → gives x ≡ Ok y → x ≡ y
ok_is x y h = cc

err_ok : (f : PsFault) (y : PsObj) → fails f ≡ Ok y → ⊥
err_ok f y h = cc

value_replaced : (es : List (Key × Pair)) (key : Key) (v x : PsObj) → value_at es key ≡ Some v → value_at (replaced es key x) key ≡ Some x
value_replaced [] key v x h = absurd (none-some v h)
value_replaced (e ∷ es) key v x h = by (same_key key e.0) refl (value_replaced es key v x)
  where
    by : (b : Bool) → same_key key e.0 ≡ b → (value_at es key ≡ Some v → value_at (replaced es key x) key ≡ Some x) → value_at (replaced (e ∷ es) key x) key ≡ Some x
    by true q rest = ap (λ b. value_at (if b then with_value e x ∷ es else e ∷ replaced es key x) key) q ∙ ap (λ b. if b then Some x else value_at es key) q
    by false q rest =
        ap (λ b. value_at (if b then with_value e x ∷ es else e ∷ replaced es key x) key) q
        ∙ ap (λ b. if b then Some e.1.value else value_at (replaced es key x) key) q
        ∙ rest (sym (ap (λ b. if b then Some e.1.value else value_at es key) q) ∙ h)

set_there : (ds : List (List (Key × Pair))) (i : ℕ) (es : List (Key × Pair)) (key : Key) (v : PsObj) → value_at (slice_index_or ds i []) key ≡ Some v → slice_index_or (slice_set ds i es) i [] ≡ es
set_there [] i es key v h = absurd (none-some v h)
set_there (d ∷ ds) zero es key v h = refl
set_there (d ∷ ds) (suc i) es key v h = set_there ds i es key v h

put_in : (s : StoreState) (p : Part) (i : ℕ) (es : List (Key × Pair)) (key : Key) (v : PsObj) → value_at (entries_of s (record { part = p; index = i })) key ≡ Some v
    → entries_of (with_entries s (record { part = p; index = i }) es) (record { part = p; index = i }) ≡ es
put_in s Table i es key v h = set_there s.table.dicts i es key v h
put_in s Command i es key v h = set_there s.command.dicts i es key v h

value_put : (s : StoreState) (d : DictId) (key : Key) (v x : PsObj) → value_at (entries_of s d) key ≡ Some v → value_at (entries_of (with_entries s d (replaced (entries_of s d) key x)) d) key ≡ Some x
value_put s d key v x h = ap (λ es. value_at es key) (put_in s d.part d.index (replaced (entries_of s d) key x) key v h) ∙ value_replaced (entries_of s d) key v x h

-- ---- what is given

-- it is under the key then, and no executable string
record Given (d : DictId) (key : Key) (s : StoreState) (y : PsObj) : Type 0 where
  pub value : value_at (entries_of s d) key ≡ Some y
  pub plain : is_deferred (Some y) ≡ false

same_closed : (s : StoreState) (m : Mark) (p : Part) (i : ℕ) → entries_of (record s { closed = m }) (record { part = p; index = i }) ≡ entries_of s (record { part = p; index = i })
same_closed s m Table i = refl
same_closed s m Command i = refl

module _ (mark : Mark) (d : DictId) (key : Key) (s : StoreState) where
  closed_given : (m : Mark) (t : StoreState) (x y : PsObj) → value_at (entries_of t d) key ≡ Some x → is_deferred (Some x) ≡ false → gives x ≡ Ok y → Given d key (record t { closed = m }) y
  closed_given m t x y h plain e =
      let same : x ≡ y = ok_is x y e in
      record {
        value = ap (λ es. value_at es key) (same_closed t m d.part d.index) ∙ h ∙ ap Some same;
        plain = subst (λ z. is_deferred (Some z) ≡ false) same plain;
      }

  placing_gives : (x y : PsObj) (there : Option PsObj) → value_at (entries_of s d) key ≡ there → is_deferred (Some x) ≡ false → (placing mark d key x there s).0 ≡ Ok y → Given d key (placing mark d key x there s).1 y
  placing_gives x y None h plain e = absurd (err_ok (Error Undefined) y e)
  placing_gives x y (Some (Str t true)) h plain e = closed_given (mark_of (with_entries s d (replaced (entries_of s d) key x)).table) (with_entries s d (replaced (entries_of s d) key x)) x y (value_put s d key (Str t true) x h) plain e
  placing_gives x y (Some (Str t false)) h plain e = closed_given (mark_of s.table) s (Str t false) y h refl e
  placing_gives x y (Some (Int n)) h plain e = closed_given (mark_of s.table) s (Int n) y h refl e
  placing_gives x y (Some (Truth b)) h plain e = closed_given (mark_of s.table) s (Truth b) y h refl e
  placing_gives x y (Some (Name t b)) h plain e = closed_given (mark_of s.table) s (Name t b) y h refl e
  placing_gives x y (Some (Array a b)) h plain e = closed_given (mark_of s.table) s (Array a b) y h refl e
  placing_gives x y (Some (Dict a)) h plain e = closed_given (mark_of s.table) s (Dict a) y h refl e
  placing_gives x y (Some (Op n)) h plain e = closed_given (mark_of s.table) s (Op n) y h refl e
  placing_gives x y (Some MarkObject) h plain e = closed_given (mark_of s.table) s MarkObject y h refl e
  placing_gives x y (Some Null) h plain e = closed_given (mark_of s.table) s Null y h refl e

  left_gives : (x y : PsObj) → is_deferred (Some x) ≡ false → (placing_left mark d key (Ok x) s).0 ≡ Ok y → Given d key (placing_left mark d key (Ok x) s).1 y
  left_gives x y plain e = placing_gives x y (value_at (entries_of s d) key) refl plain e

  on_gives : (operands : List PsObj) (y : PsObj) → (placing_left mark d key (left_on operands) s).0 ≡ Ok y → Given d key (placing_left mark d key (left_on operands) s).1 y
  on_gives [] y e = absurd (err_ok (Error StackUnderflow) y e)
  on_gives (Str t true ∷ rest) y e = absurd (err_ok (Error TypeCheck) y e)
  on_gives (Str t false ∷ rest) y e = left_gives (Str t false) y refl e
  on_gives (Int n ∷ rest) y e = left_gives (Int n) y refl e
  on_gives (Truth b ∷ rest) y e = left_gives (Truth b) y refl e
  on_gives (Name t b ∷ rest) y e = left_gives (Name t b) y refl e
  on_gives (Array a b ∷ rest) y e = left_gives (Array a b) y refl e
  on_gives (Dict a ∷ rest) y e = left_gives (Dict a) y refl e
  on_gives (Op n ∷ rest) y e = left_gives (Op n) y refl e
  on_gives (MarkObject ∷ rest) y e = left_gives MarkObject y refl e
  on_gives (Null ∷ rest) y e = left_gives Null y refl e

  forced_gives : (answer : Answer) (operands : List PsObj) (y : PsObj) → (forced_by mark d key answer operands s).0 ≡ Ok y → Given d key (forced_by mark d key answer operands s).1 y
  forced_gives (Err f) operands y e = absurd (err_ok f y e)
  forced_gives (Ok u) operands y e = on_gives operands y e

same_part : (s : StoreState) (q p : Part) (i : ℕ) → entries_of (record s { part = q }) (record { part = p; index = i }) ≡ entries_of s (record { part = p; index = i })
same_part s q Table i = refl
same_part s q Command i = refl

module _ {D : Type 0} (Op' : Operates D) (n : ℕ) (dialect : D) (c : PsCore) (d : DictId) (key : Key) (text x : PsObj) (m : ℕ) (dialect' : D) (c' : PsCore) (h : Forces Op' n dialect c d key text (Ok x) m dialect' c') where
  here : Given d key (forced_by (mark_of c.store.table) d key h.answer h.core.operands h.core.store).1 x
  here = forced_gives (mark_of c.store.table) d key h.core.store h.answer h.core.operands x h.given

  pub forced_value : value_at (entries_of c'.store d) key ≡ Some x
  forced_value =
      ap (λ (k : PsCore). value_at (entries_of k.store d) key) h.after
      ∙ ap (λ es. value_at es key) (same_part (forced_by (mark_of c.store.table) d key h.answer h.core.operands h.core.store).1 c.store.part d.part d.index) ∙ here.value

  pub forced_plain : is_deferred (Some x) ≡ false
  forced_plain = here.plain
