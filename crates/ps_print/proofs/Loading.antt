-- The prelude is loaded in a new state.
use Rattle.std.proofs.Common.{◌≡◌, ◌≢◌, ℕ, suc, ◌+◌, ◌-◌, ◌<◌, ◌≤◌, Bool, true, false, is_some, Ok, Err, [], ◌∷◌, refl, sym, ap, ◌∙◌, subst, arith}
use Rattle.std.specs.Prelude.{OnOk}
use Rattle.std.specs.Fmt.{digits}
use Rattle.ps_scan.specs.Bytes.{is_white, is_special, is_regular, is_hexadecimal}
use Rattle.ps_store.specs.declared.object.PsObj.TheVariants.{Str}
use Rattle.ps_store.specs.declared.object.StringId.{StringId}
use Rattle.ps_store.specs.declared.fault.StoreFault.{StoreFault}
use Rattle.ps_store.specs.declared.fault.StoreFault.TheVariants.{Limit, ReadOnly, NoMemory as OutOfMemory}
use Rattle.ps_store.specs.Operators.{operator_number}
use Rattle.ps_store.specs.Cut.{mark_of}
use Rattle.ps_store.specs.StoreState.{StoreState}
use Rattle.ps_store.specs.Store.{Given, new_store, making_dict, Does}
use Rattle.ps_step.specs.declared.fault.PsFault.TheVariants.{Error, Spent, Link, NoMemory}
use Rattle.ps_step.specs.declared.item.Item.TheVariants.{Object}
use Rattle.ps_step.specs.declared.machine.PsCore.{PsCore}
use Rattle.ps_step.specs.Results.{fault_of}
use Rattle.ps_step.specs.State.{with_execution}
use Rattle.ps_run.specs.Step.{Outcome, Ended, Next, Asks, Failed, step}
use Rattle.ps_run.specs.Runs.{Answer, Operates, Runs, RunsObject}
use Rattle.ps_run.specs.Passes.{Finished}
use Rattle.ps_run.proofs.Apart.{finished as ends}
use Rattle.ps_terms.specs.Printing.{further}
use Rattle.ps_terms.proofs.Going.{further_is}
use Rattle.ps_print.specs.Loaded.{new_core, prepared, Prepares, executing, started_with, start, executed, ended, end_in, or_new, Loads, Ran}
use Rattle.ps_print.proofs.Loaded.{loads}

-- ---- what is made on a new store is not refused

abbrev is_given : {X : Type 0} → Given X → Bool
is_given (Ok x) = true
is_given (Err e) = false

no_given : false ≡ true → ⊥
no_given e = cc

prepared_given : is_given (prepared new_store) ≡ true
unfolding digits is_white is_special is_regular is_hexadecimal operator_number
prepared_given = refl

topped_given : is_given (making_dict (record ended.store { closed = mark_of ended.store.table })) ≡ true
unfolding digits is_white is_special is_regular is_hexadecimal operator_number
topped_given = refl

pub prepare_refused : (f : StoreFault) (old new : StoreState) (c : PsCore) → old ≡ new_store → Prepares (Err f) old new → Ran (Err (fault_of f)) c
prepare_refused OutOfMemory old new c e h = tt
prepare_refused Limit old new c e h = absurd (no_given (sym (ap is_given (sym (ap prepared e) ∙ h)) ∙ prepared_given))
prepare_refused ReadOnly old new c e h = absurd (no_given (sym (ap is_given (sym (ap prepared e) ∙ h)) ∙ prepared_given))

pub dict_refused : (core : PsCore) → core ≡ record ended { execution = [] } → (f : StoreFault) (old new : StoreState) (c : PsCore) → old ≡ record core.store { closed = mark_of core.store.table }
    → Does (Err f) old new (making_dict old) → Loads (Err (fault_of f)) c
dict_refused core e OutOfMemory old new c k h = tt
dict_refused core e Limit old new c k h = absurd (no_given (sym (ap is_given (sym (ap making_dict (k ∙ ap (λ (x : PsCore). record x.store { closed = mark_of x.store.table }) e)) ∙ h.0)) ∙ topped_given))
dict_refused core e ReadOnly old new c k h = absurd (no_given (sym (ap is_given (sym (ap making_dict (k ∙ ap (λ (x : PsCore). record x.store { closed = mark_of x.store.table }) e)) ∙ h.0)) ∙ topped_given))

-- ---- the run ends

some_end : (o : Outcome) → is_some (end_in o) ≡ true → o ≡ Ended (or_new (end_in o))
some_end (Ended c) h = refl
some_end (Next c) h = absurd (no_given h)
some_end (Asks op c) h = absurd (no_given h)
some_end (Failed e c) h = absurd (no_given h)

ended_there : is_some (end_in (step executed)) ≡ true
unfolding digits is_white is_special is_regular is_hexadecimal operator_number
ended_there = refl

-- what is known of a run that ended
record Ends (n : ℕ) (r : Answer) (m : ℕ) (c' : PsCore) : Type 0 where
  pub answered : r ≡ Ok tt
  pub left : m + 75 ≡ n
  pub core : c' ≡ record ended { execution = [] }

module _ {D : Type 0} (Op : Operates D) (n : ℕ) (t : StringId) (d d' : D) (c c' : PsCore) (r : Answer) (m : ℕ) (starts : with_execution c (Object (Str t true) ∷ []) ≡ start) (enough : 75 < n)
    (runs : RunsObject Op n (Str t true) d c r m d' c') (kept : c'.execution ≡ []) where
  run_ends : r ≢ Err NoMemory → Ends n r m c'
  run_ends other =
      let p = runs other in
      let k : ℕ = n - 76 in
      let e : n ≡ further 75 (suc k) = omega (arith, further_is 75 (suc k)) in
      let run₀ : Runs Op n d start r m d' (with_execution c' p.0) = subst (λ x. Runs Op n d x r m d' (with_execution c' p.0)) starts p.1 in
      let run₁ : Runs Op (further 75 (suc k)) d start r m d' (with_execution c' p.0) = subst (λ j. Runs Op j d start r m d' (with_execution c' p.0)) e run₀ in
      let run₂ : Runs Op (suc k) d executed r m d' (with_execution c' p.0) = loads Op (suc k) d r m d' (with_execution c' p.0) other run₁ in
      let done : Finished (suc k) d ended r m d' (with_execution c' p.0) = ends Op k d executed ended r m d' (with_execution c' p.0) (some_end (step executed) ended_there) run₂ in
      let left : m ≡ suc k = done.left in
      record {
        answered = done.answered;
        left = omega arith;
        core = ap (with_execution c') kept ∙ ap (λ (x : PsCore). with_execution x []) done.core;
      }

  pub ran_by : (a : Answer) → r ≡ a → Ran a c'
  ran_by (Ok x) e = (run_ends (λ h. absurd (let f : Ok x ≡ Err NoMemory = sym e ∙ h in cc))).core
  ran_by (Err NoMemory) e = tt
  ran_by (Err (Error x)) e = absurd (let f : Ok tt ≡ Err (Error x) = sym (run_ends (λ h. absurd (let g : Err (Error x) ≡ Err NoMemory = sym e ∙ h in cc))).answered ∙ e in cc)
  ran_by (Err Spent) e = absurd (let f : Ok tt ≡ Err Spent = sym (run_ends (λ h. absurd (let g : Err Spent ≡ Err NoMemory = sym e ∙ h in cc))).answered ∙ e in cc)
  ran_by (Err Link) e = absurd (let f : Ok tt ≡ Err Link = sym (run_ends (λ h. absurd (let g : Err Link ≡ Err NoMemory = sym e ∙ h in cc))).answered ∙ e in cc)

  pub left_by : (x : Unit {0}) → r ≡ Ok x → m + 75 ≡ n
  left_by x e = (run_ends (λ h. absurd (let f : Ok x ≡ Err NoMemory = sym e ∙ h in cc))).left

started_at : (t : StringId) (s : StoreState) → prepared new_store ≡ Ok (t, s) → executing t s ≡ start
started_at t s e = sym (ap (λ (g : Given StringId). or_new (started_with g)) e)

module _ {D : Type 0} (Op : Operates D) (old c' : PsCore) (t : StringId) (s : StoreState) (d d' : D) (r : Answer) (taken limit taken' limit' : ℕ) (new : old ≡ new_core) (made : prepared old.store ≡ Ok (t, s))
    (enough : taken + 75 < limit) (same : limit' ≡ limit) (within : taken' ≤ limit') (runs : RunsObject Op (limit - taken) (Str t true) d (record old { store = s }) r (limit' - taken') d' c') (kept : c'.execution ≡ old.execution) where
  starts : with_execution (record old { store = s }) (Object (Str t true) ∷ []) ≡ start
  starts = ap (λ (o : PsCore). with_execution (record o { store = s }) (Object (Str t true) ∷ [])) new ∙ started_at t s (sym (ap (λ (o : PsCore). prepared o.store) new) ∙ made)

  empty : c'.execution ≡ []
  empty = kept ∙ ap (λ (o : PsCore). o.execution) new

  -- the prelude's text was run
  pub ran_after : Ran r c'
  ran_after = ran_by Op (limit - taken) t d d' (record old { store = s }) c' r (limit' - taken') starts (omega arith) runs empty r refl

  taken_by : (a : Answer) → r ≡ a → OnOk a (taken' ≡ taken + 75)
  taken_by (Ok x) e = let h : limit' - taken' + 75 ≡ limit - taken = left_by Op (limit - taken) t d d' (record old { store = s }) c' r (limit' - taken') starts (omega arith) runs empty x e in omega arith
  taken_by (Err f) e = tt

  pub taken_after : OnOk r (taken' ≡ taken + 75)
  taken_after = taken_by r refl
