-- Functions of units that are run settle deferred entries of what is closed, and take no steps back.
use Rattle.std.proofs.Common.{◌≡◌, ◌≢◌, refl, sym, ap, subst, ◌∙◌, ℕ, ◌≤◌, true, IsTrue, Option, Some, None, Result, Ok, Err, List, [], ◌∷◌, length, slice_set, arith}
use Rattle.std.proofs.lemmas.List.{length-set}
use Rattle.ps_store.specs.declared.key.Key.{Key}
use Rattle.ps_store.specs.declared.object.Mark.{Mark}
use Rattle.ps_store.specs.declared.object.Pair.{Pair}
use Rattle.ps_store.specs.declared.object.Part.{Part}
use Rattle.ps_store.specs.declared.object.Part.TheVariants.{Table, Command}
use Rattle.ps_store.specs.declared.object.PsObj.{PsObj}
use Rattle.ps_store.specs.declared.object.PsObj.TheVariants.{Str}
use Rattle.ps_store.specs.declared.object.DictId.{DictId}
use Rattle.ps_store.specs.StoreState.{StoreState}
use Rattle.ps_store.specs.Cut.{mark_of}
use Rattle.ps_store.specs.Entries.{value_at, replaced}
use Rattle.ps_store.specs.Store.{closed_part, entries_of, with_entries, is_deferred}
use Rattle.ps_store.specs.Settled.{Settled}
use Rattle.ps_store.proofs.Settling.{settled_on, entry_settled, all_settled}
use Rattle.ps_step.specs.declared.fault.PsFault.{PsFault}
use Rattle.ps_step.specs.declared.fault.PsFault.TheVariants.{NoMemory}
use Rattle.ps_step.specs.declared.item.Item.TheVariants.{Object}
use Rattle.ps_step.specs.declared.machine.PsCore.{PsCore}
use Rattle.ps_step.specs.State.{with_execution}
use Rattle.ps_run.specs.Runs.{Answer, Runs}
use Rattle.ps_run.specs.Passes.{TakesNone}
use Rattle.ps_run.proofs.Apart.{fewer}
use Rattle.ps_force.specs.Forcing.{Forces, apart, forced_by, placing_left, placing, left_on, with_part}
use Rattle.dialect_model.specs.Dial.{Dial, no_target}
use Rattle.dialect_model.specs.Forcing.{NoTarget, acted, raised, wanting, ForcesUnit, FUNCTIONS, answer_of}
use Rattle.printing_laws.specs.Stays.{Above}
use Rattle.printing_laws.proofs.Leaving.{Leaves}

-- runs without a target leave what is closed
abbrev pub RunsLeave : Type 0
RunsLeave = (n : ℕ) (d : Dial) (c : PsCore) (r : Answer) (m : ℕ) (d' : Dial) (c' : PsCore) → r ≢ Err NoMemory → Runs NoTarget n d c r m d' c' → Leaves c.store c'.store

takes_none : TakesNone NoTarget
takes_none _ _ _ _ _ _ _ _ (acted d d' c c' op n e) = omega arith
takes_none _ _ _ _ _ _ _ _ (raised d c op n x e) = omega arith
takes_none _ _ _ _ _ _ _ _ (wanting d c op n) = omega arith

-- ---- what a run left is closed

set_length : {X : Type 0} (xs : List X) (i : ℕ) (x : X) → length (slice_set xs i x) ≡ length xs
set_length xs i x = length-set xs i x

above_in : (s : StoreState) (p : Part) (i : ℕ) (es : List (Key × Pair)) → Above s → Above (with_entries s (record { part = p; index = i }) es)
above_in s Command i es h = h
above_in s Table i es h =
    let a = h.arrays in let b = h.dicts in let c = h.strings in let d = h.units in
    let same : length (slice_set s.table.dicts i es) ≡ length s.table.dicts = set_length s.table.dicts i es in
    record { arrays = a; dicts = omega arith; strings = c; units = d }

all_closed : (s : StoreState) → Above (record s { closed = mark_of s.table })
all_closed s = record { arrays = omega arith; dicts = omega arith; strings = omega arith; units = omega arith }

abbrev pub Settles : StoreState → StoreState → Type 0
Settles s s' = Settled (closed_part s) (closed_part s') × Above s'

module _ (mark : Mark) (d : DictId) (key : Key) where
  placed : (x : PsObj) (s : StoreState) → Above s → (v : Option PsObj) → value_at (entries_of s d) key ≡ v → Ok tt ≡ answer_of (placing mark d key x v s).0 → Settles s (placing mark d key x v s).1
  placed x s h (Some (Str t true)) e a =
      let s' : StoreState = with_entries s d (replaced (entries_of s d) key x) in
      let h' : Above s' = above_in s d.part d.index (replaced (entries_of s d) key x) h in
      let deferred : IsTrue (is_deferred (value_at (entries_of s d) key)) = ap is_deferred e in (
        settled_on (closed_part s) (closed_part s') (closed_part (record s' { closed = mark_of s'.table })) (entry_settled s d key x deferred) (all_settled s' h'),
        all_closed s',
      )
  placed x s h (Some y) e a = (all_settled s h, all_closed s)
  placed x s h None e a = absurd (cc)

  placed_left : (l : Result PsObj PsFault) (s : StoreState) → Above s → Ok tt ≡ answer_of (placing_left mark d key l s).0 → Settles s (placing_left mark d key l s).1
  placed_left (Ok x) s h a = placed x s h (value_at (entries_of s d) key) refl a
  placed_left (Err f) s h a = absurd (cc)

  was_run : (answer : Answer) (operands : List PsObj) (s : StoreState) → Above s → Ok tt ≡ answer_of (forced_by mark d key answer operands s).0 → Settles s (forced_by mark d key answer operands s).1
  was_run (Ok u) operands s h a = placed_left (left_on operands) s h a
  was_run (Err f) operands s h a = absurd (cc)

  found_memory : (answer : Answer) (operands : List PsObj) (s : StoreState) → Ok tt ≡ answer_of (forced_by mark d key answer operands s).0 → answer ≢ Err NoMemory
  found_memory (Ok u) operands s a = λ e. cc
  found_memory (Err f) operands s a = absurd (cc)

-- ---- the functions of a unit

module _ (leaves : RunsLeave) (u n m : ℕ) (c c' : PsCore) (above : Above c.store) (f : ForcesUnit u c n (Ok tt) m c') where
  abbrev ran : Forces NoTarget n no_target c f.unit FUNCTIONS f.text f.given m f.dial c'
  ran = f.forces

  given : Ok tt ≡ answer_of (forced_by (mark_of c.store.table) f.unit FUNCTIONS ran.answer ran.core.operands ran.core.store).0
  given = f.answers ∙ ap answer_of (sym f.forces.given)

  run : Runs NoTarget n no_target (with_execution (apart c) (Object f.text ∷ [])) ran.answer m f.dial (with_execution ran.core (ran.runs (found_memory (mark_of c.store.table) f.unit FUNCTIONS ran.answer ran.core.operands ran.core.store given)).0)
  run = (ran.runs (found_memory (mark_of c.store.table) f.unit FUNCTIONS ran.answer ran.core.operands ran.core.store given)).1

  pub unit_steps : m ≤ n
  unit_steps = fewer NoTarget takes_none n no_target (with_execution (apart c) (Object f.text ∷ [])) ran.answer m f.dial _ run

  abbrev left : StoreState
  left = (forced_by (mark_of c.store.table) f.unit FUNCTIONS ran.answer ran.core.operands ran.core.store).1

  ran_leaves : (closed_part ran.core.store ≡ closed_part (apart c).store) × Above ran.core.store
  ran_leaves = (leaves n no_target (with_execution (apart c) (Object f.text ∷ [])) ran.answer m f.dial _ (found_memory (mark_of c.store.table) f.unit FUNCTIONS ran.answer ran.core.operands ran.core.store given) run).keeps above

  left_settles : Settles ran.core.store left
  left_settles = was_run (mark_of c.store.table) f.unit FUNCTIONS ran.answer ran.core.operands ran.core.store ran_leaves.1 given

  whole : Settled (closed_part (apart c).store) (closed_part left)
  whole = subst (λ p. Settled p (closed_part left)) ran_leaves.0 left_settles.0

  in_part : Settled (closed_part c.store) (closed_part (with_part c.store.part left))
  in_part = record { arrays = whole.arrays; dicts = whole.dicts; strings = whole.strings; mark = whole.mark; part = refl; base = whole.base; top = whole.top }

  -- the state is as it was, but for the store
  pub unit_state : c' ≡ record c { store = c'.store }
  unit_state =
      let after : c' ≡ record c { store = with_part c.store.part left } = ran.after in
      let store : with_part c.store.part left ≡ c'.store = sym (ap (λ (q : PsCore). q.store) after) in
      after ∙ ap (λ (s : StoreState). record c { store = s }) store

  pub unit_settles : Settles c.store c'.store
  unit_settles =
      let store : with_part c.store.part left ≡ c'.store = sym (ap (λ (q : PsCore). q.store) ran.after) in
      subst (λ s. Settles c.store s) store (in_part, left_settles.1)
