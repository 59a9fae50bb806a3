-- A run without a target leaves what is closed.
use Rattle.std.proofs.Common.{◌≡◌, ◌≢◌, refl, sym, ap, subst, ◌∙◌, ℕ, Ok, Err}
use Rattle.ps_store.specs.StoreState.{StoreState}
use Rattle.ps_step.specs.declared.fault.PsFault.TheVariants.{Error, Spent, Link, NoMemory}
use Rattle.ps_step.specs.declared.machine.PsCore.{PsCore}
use Rattle.ps_run.specs.Step.{Outcome, Ended, Next, Asks, Failed, step}
use Rattle.ps_run.specs.Runs.{Answer, Asked, Settles, fault_with, spent, ended, failed, next, asked, broken}
use Rattle.ps_run.proofs.Going.{no_memory}
use Rattle.dialect_model.specs.Dial.{Dial}
use Rattle.dialect_model.specs.Forcing.{NoTarget, acted, raised, wanting}
use Rattle.printing_laws.proofs.Leaving.{Leaves, leaves_same, leaves_on}
use Rattle.printing_laws.proofs.Steps.{OutcomeLeft, raised_left, step_left}
use Rattle.printing_laws.proofs.Finding.{ActsLeave}
use Rattle.printing_laws.proofs.Units.{RunsLeave}

module _ (keeps : ActsLeave) where
  operator_leaves : (d : Dial) (c : PsCore) (op n : ℕ) (r : Answer) (d' : Dial) (c' : PsCore) (k : ℕ) → NoTarget d c op n r d' c' k → Leaves c.store c'.store
  operator_leaves _ _ _ _ _ _ _ _ (acted d d' c c' op n e) = subst (λ s. Leaves c.store s) (sym (keeps op d d' c c' e)) (leaves_same c.store)
  operator_leaves _ _ _ _ _ _ _ _ (raised d c op n x e) = leaves_same c.store
  operator_leaves _ _ _ _ _ _ _ _ (wanting d c op n) = leaves_same c.store

  after_step : (c : PsCore) (o : Outcome) → step c ≡ o → OutcomeLeft c.store o
  after_step c o e = subst (OutcomeLeft c.store) e (step_left c)

  -- an operator's answer was taken over, or its error raised
  taken_over : (given answer : Answer) (s : StoreState) (c c' : PsCore) → answer ≢ Err NoMemory → Leaves s c.store → Settles given c answer c' → Leaves s c'.store
  taken_over (Ok x) answer s c c' other l h = subst (λ (q : PsCore). Leaves s q.store) (sym h.1) l
  taken_over (Err (Error e)) (Ok x) s c c' other l h = subst (OutcomeLeft s) h (raised_left s e c l)
  taken_over (Err (Error e)) (Err (Error x)) s c c' other l h = subst (OutcomeLeft s) h (raised_left s e c l)
  taken_over (Err (Error e)) (Err Spent) s c c' other l h = absurd h
  taken_over (Err (Error e)) (Err Link) s c c' other l h = absurd h
  taken_over (Err (Error e)) (Err NoMemory) s c c' other l h = absurd (other refl)
  taken_over (Err Spent) answer s c c' other l h = subst (λ (q : PsCore). Leaves s q.store) (sym h.1) l
  taken_over (Err Link) answer s c c' other l h = subst (λ (q : PsCore). Leaves s q.store) (sym h.1) l
  taken_over (Err NoMemory) answer s c c' other l h = subst (λ (q : PsCore). Leaves s q.store) (sym h.1) l

  asked_leaves : (d : Dial) (c : PsCore) (op n : ℕ) (answer : Answer) (d' : Dial) (c' : PsCore) (k : ℕ) → answer ≢ Err NoMemory → Asked NoTarget d c op n answer d' c' k → Leaves c.store c'.store
  asked_leaves d c op n answer d' c' k other a = taken_over a.given answer c.store a.core c' other (operator_leaves d c op n a.given d' a.core k a.operates) a.settles

  pub runs_leave : RunsLeave
  runs_leave _ _ _ _ _ _ _ other (spent d c) = leaves_same c.store
  runs_leave _ _ _ _ _ _ _ other (ended n d c c' e) = after_step c (Ended c') e
  runs_leave _ _ _ _ _ _ _ other (failed n d c c' x f e told) = after_step c (Failed x c') e
  runs_leave _ _ _ _ _ _ _ other (next n m d d' c c₁ c' r e run) = leaves_on c.store c₁.store c'.store (after_step c (Next c₁) e) (runs_leave n d c₁ r m d' c' other run)
  runs_leave _ _ _ _ _ _ _ other (asked n k m d d₁ d' c c₁ c₂ c' op r e a run) =
      leaves_on c.store c₁.store c'.store (after_step c (Asks op c₁) e)
      (leaves_on c₁.store c₂.store c'.store (asked_leaves d c₁ op n (Ok tt) d₁ c₂ k (λ h. cc) a) (runs_leave k d₁ c₂ r m d' c' other run))
  runs_leave _ _ _ _ _ _ _ other (broken n k d d₁ c c₁ c₂ op g f e a told) =
      leaves_on c.store c₁.store c₂.store (after_step c (Asks op c₁) e)
      (asked_leaves d c₁ op n (Err g) d₁ c₂ k (λ h. other (ap Err (told ∙ ap (fault_with k) (let z : g ≡ NoMemory = cc in z) ∙ no_memory k))) a)
