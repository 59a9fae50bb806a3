-- How far a run came, with numbers of steps that are equal by arithmetic.
use Rattle.std.proofs.Common.{◌≡◌, ◌≢◌, ℕ, zero, suc, Ok, Err, refl, subst}
use Rattle.ps_step.specs.declared.fault.PsFault.{PsFault}
use Rattle.ps_step.specs.declared.fault.PsFault.TheVariants.{Error, Spent, Link, NoMemory}
use Rattle.ps_step.specs.declared.machine.PsCore.{PsCore}
use Rattle.ps_run.specs.Step.{Next, Asks, step}
use Rattle.ps_run.specs.Runs.{Operates, Answer, Asked, Settles, Runs, fault_with, spent, ended, failed, next, asked, broken}
use Rattle.ps_run.specs.Reaching.{Reaches, here, stepped, answered, RanShort, in_step, in_operator}

abbrev fails : PsFault → Answer
fails f = Err f

-- want of memory is told only where it came
pub wants_only : (k : ℕ) (g : PsFault) → fails (fault_with k g) ≡ fails NoMemory → fails g ≡ fails NoMemory
wants_only zero (Error e) h = cc
wants_only zero Spent h = h
wants_only zero Link h = h
wants_only zero NoMemory h = refl
wants_only (suc k) (Error e) h = h
wants_only (suc k) Spent h = h
wants_only (suc k) Link h = h
wants_only (suc k) NoMemory h = refl

module _ {D : Type 0} (Op : Operates D) (left : ℕ) (d : D) (c : PsCore) where
  pub then_stepped : (n k : ℕ) (d₁ : D) (c₁ c₂ : PsCore) → n ≡ suc k → step c₁ ≡ Next c₂ → Reaches Op left d c n d₁ c₁ → Reaches Op left d c k d₁ c₂
  then_stepped n k d₁ c₁ c₂ e s h = stepped (subst (λ (i : ℕ). Reaches Op left d c i d₁ c₁) e h) s

  pub then_answered : (n k m op : ℕ) (d₁ d₂ : D) (c₁ c₂ c₃ : PsCore) → n ≡ suc k → step c₁ ≡ Asks op c₂ → Asked Op d₁ c₂ op k (Ok tt) d₂ c₃ m → Reaches Op left d c n d₁ c₁ → Reaches Op left d c m d₂ c₃
  then_answered n k m op d₁ d₂ c₁ c₂ c₃ e s a h = answered (subst (λ (i : ℕ). Reaches Op left d c i d₁ c₁) e h) s a

  pub then_short : (n k m op : ℕ) (d₁ d₂ : D) (c₁ c₂ c₃ : PsCore) (g f : PsFault) → n ≡ suc k → step c₁ ≡ Asks op c₂ → Asked Op d₁ c₂ op k (Err g) d₂ c₃ m → Reaches Op left d c n d₁ c₁
      → f ≡ fault_with m g → fails f ≡ fails NoMemory → RanShort Op left d c d₂
  then_short n k m op d₁ d₂ c₁ c₂ c₃ g f e s a h told is =
      let wants : fails g ≡ fails NoMemory = wants_only m g (subst (λ (x : PsFault). fails x ≡ fails NoMemory) told is) in
      in_operator (subst (λ (i : ℕ). Reaches Op left d c i d₁ c₁) e h) s (subst (λ (r : Answer). Asked Op d₁ c₂ op k r d₂ c₃ m) wants a)

  -- the place at which a run came to its end
  pub reached_end : (n : ℕ) (d₁ : D) (c₁ : PsCore) (r : Answer) (m : ℕ) (d' : D) (c' : PsCore) → r ≡ Ok tt → Runs Op n d₁ c₁ r m d' c' → Reaches Op left d c n d₁ c₁ → (k : ℕ) × (c₂ : PsCore) × Reaches Op left d c k d' c₂
  reached_end _ _ _ _ _ _ _ e (spent d₁ c₁) h = (zero, c₁, h)
  reached_end _ _ _ _ _ _ _ e (ended n d₁ c₁ c' s) h = (suc n, c₁, h)
  reached_end _ _ _ _ _ _ _ e (failed n d₁ c₁ c' x f s told) h = (suc n, c₁, h)
  reached_end _ _ _ _ _ _ _ e (next n m d₁ d' c₁ c₂ c' r s run) h = reached_end n d₁ c₂ r m d' c' e run (stepped h s)
  reached_end _ _ _ _ _ _ _ e (asked n k m d₁ d₂ d' c₁ c₂ c₃ c' op r s a run) h = reached_end k d₂ c₃ r m d' c' e run (answered h s a)
  reached_end _ _ _ _ _ _ _ e (broken n k d₁ d₂ c₁ c₂ c₃ op g f s a told) h = absurd (let x = e in cc)

-- ---- what operators keep

settles_link : (given : Answer) (c : PsCore) (answer : Answer) (c' : PsCore) → answer ≢ Err Link → Settles given c answer c' → given ≢ Err Link
settles_link (Ok x) c answer c' other s = λ e. cc
settles_link (Err (Error f)) c answer c' other s = λ e. cc
settles_link (Err Spent) c answer c' other s = λ e. cc
settles_link (Err Link) c answer c' other s = absurd (other s.0)
settles_link (Err NoMemory) c answer c' other s = λ e. cc

module _ {D : Type 0} (Op : Operates D) (K : D → D → Type 0) (stays : (d : D) → K d d) (goes_on : (d d₁ d₂ : D) → K d d₁ → K d₁ d₂ → K d d₂)
    (keeps : (d : D) (c : PsCore) (op n : ℕ) (r : Answer) (d' : D) (c' : PsCore) (k : ℕ) → r ≢ Err Link → Op d c op n r d' c' k → K d d') where
  asked_keeps : (d : D) (c : PsCore) (op n : ℕ) (r : Answer) (d' : D) (c' : PsCore) (k : ℕ) → r ≢ Err Link → Asked Op d c op n r d' c' k → K d d'
  asked_keeps d c op n r d' c' k other a = keeps d c op n a.given d' a.core k (settles_link a.given a.core r c' other a.settles) a.operates

  module _ (left : ℕ) (d : D) (c : PsCore) where
    -- so does a run, as far as it goes
    pub reaches_keeps : (n : ℕ) (d' : D) (c' : PsCore) → Reaches Op left d c n d' c' → K d d'
    reaches_keeps _ _ _ here = stays d
    reaches_keeps _ _ _ (stepped {n = n} {d₁ = d₁} {c₁ = c₁} h s) = reaches_keeps (suc n) d₁ c₁ h
    reaches_keeps _ _ _ (answered {n = n} {k = k} {op = op} {d₁ = d₁} {d₂ = d₂} {c₁ = c₁} {c₂ = c₂} {c₃ = c₃} h s a) =
        goes_on d d₁ d₂ (reaches_keeps (suc n) d₁ c₁ h) (asked_keeps d₁ c₂ op n (Ok tt) d₂ c₃ k (λ e. cc) a)

    -- and one of which memory ran out
    pub short_keeps : (d' : D) → RanShort Op left d c d' → K d d'
    short_keeps _ (in_step {n = n} {d₁ = d₁} {c₁ = c₁} h) = reaches_keeps n d₁ c₁ h
    short_keeps _ (in_operator {n = n} {k = k} {op = op} {d₁ = d₁} {d₂ = d₂} {c₁ = c₁} {c₂ = c₂} {c₃ = c₃} h s a) =
        goes_on d d₁ d₂ (reaches_keeps (suc n) d₁ c₁ h) (asked_keeps d₁ c₂ op n (Err NoMemory) d₂ c₃ k (λ e. cc) a)
