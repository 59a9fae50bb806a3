-- The rules of runs, with numbers of steps that are equal by arithmetic.
use Rattle.std.proofs.Common.{◌≡◌, ◌≢◌, ◌<◌, ℕ, zero, suc, Ok, Err, refl, sym, subst, ◌∙◌, arith}
use Rattle.ps_step.specs.declared.fault.PsError.{PsError}
use Rattle.ps_step.specs.declared.fault.PsFault.{PsFault}
use Rattle.ps_step.specs.declared.fault.PsFault.TheVariants.{Error, Spent, Link, NoMemory}
use Rattle.ps_store.specs.StoreState.{Closed}
use Rattle.ps_step.specs.declared.machine.PsCore.{PsCore}
use Rattle.ps_run.specs.Step.{Outcome, Ended, Next, Asks, step}
use Rattle.ps_run.specs.Runs.{Operates, Answer, Asked, Steps, TellsSteps, fault_with, Runs, spent, ended, failed, next, asked, broken}

-- what remains, where the last step left what is closed as it was
pub remains_by : (remains : Closed → Closed → Type 0) {p q r : Closed} → r ≡ q → remains p q → remains p r
remains_by remains {p = p} e h = subst (remains p) (sym e) h

pub no_memory : (n : ℕ) → fault_with n NoMemory ≡ NoMemory
no_memory zero = refl
no_memory (suc n) = refl

pub spent_with : (n : ℕ) (e : PsError) → n ≡ 0 → fault_with n (Error e) ≡ Spent
spent_with zero e h = refl
spent_with (suc n) e h = absurd (omega arith)

pub error_with : (n : ℕ) (e : PsError) → 0 < n → fault_with n (Error e) ≡ Error e
error_with zero e h = absurd (omega arith)
error_with (suc n) e h = refl

abbrev pub IsNoError : PsFault → Type 0
IsNoError (Error e) = ⊥
IsNoError Spent = Unit {0}
IsNoError Link = Unit {0}
IsNoError NoMemory = Unit {0}

pub fault_kept : (n : ℕ) (f : PsFault) → IsNoError f → fault_with n f ≡ f
fault_kept n (Error e) h = absurd h
fault_kept zero Spent h = refl
fault_kept (suc n) Spent h = refl
fault_kept zero Link h = refl
fault_kept (suc n) Link h = refl
fault_kept zero NoMemory h = refl
fault_kept (suc n) NoMemory h = refl

-- what is told of a fault, which came where steps are left or was Spent where none was
pub fault_told : (n : ℕ) (g f : PsFault) → f ≡ fault_with n g → (g ≡ Spent → n ≡ 0) → TellsSteps (Err f) n
fault_told zero (Error x) f e none = subst (λ h. TellsSteps (Err h) 0) (sym e) refl
fault_told (suc n) (Error x) f e none = subst (λ h. TellsSteps (Err h) (suc n)) (sym e) (omega arith)
fault_told zero Spent f e none = subst (λ h. TellsSteps (Err h) 0) (sym e) refl
fault_told (suc n) Spent f e none = subst (λ h. TellsSteps (Err h) (suc n)) (sym e) (none refl)
fault_told zero Link f e none = subst (λ h. TellsSteps (Err h) 0) (sym e) tt
fault_told (suc n) Link f e none = subst (λ h. TellsSteps (Err h) (suc n)) (sym e) tt
fault_told zero NoMemory f e none = subst (λ h. TellsSteps (Err h) 0) (sym e) tt
fault_told (suc n) NoMemory f e none = subst (λ h. TellsSteps (Err h) (suc n)) (sym e) tt

-- a step's own fault is never Spent
pub never_spent : (f : PsFault) (c : PsCore) (o : Outcome) → Steps (Err f) c o → f ≢ Spent
never_spent (Error x) c o h = λ e. cc
never_spent Spent c o h = absurd h
never_spent Link c o h = absurd h
never_spent NoMemory c o h = λ e. cc

module _ {D : Type 0} (Op : Operates D) where
  pub at_limit : (n : ℕ) (d : D) (c : PsCore) → n ≡ 0 → Runs Op n d c (Err Spent) n d c
  at_limit n d c e = let P : ℕ → Type 0 = λ k. Runs Op k d c (Err Spent) k d c in subst P (sym e) (spent d c)

  pub at_end : (n m : ℕ) (d : D) (c c' : PsCore) → n ≡ suc m → step c ≡ Ended c' → Runs Op n d c (Ok tt) n d c'
  at_end n m d c c' e led = let P : ℕ → Type 0 = λ k. Runs Op k d c (Ok tt) k d c' in subst P (sym e) (ended m d c c' led)

  pub at_fault : (n m : ℕ) (d : D) (c c' : PsCore) (g f : PsFault) → n ≡ suc m
      → Steps (Err g) c' (step c) → f ≡ fault_with m g → f ≢ NoMemory → Runs Op n d c (Err f) m d c'
  at_fault n m d c c' (Error x) f e led told other = let P : ℕ → Type 0 = λ k. Runs Op k d c (Err f) m d c' in subst P (sym e) (failed m d c c' x f led told)
  at_fault n m d c c' Spent f e led told other = absurd led
  at_fault n m d c c' Link f e led told other = absurd led
  at_fault n m d c c' NoMemory f e led told other = absurd (other (told ∙ no_memory m))

  pub at_next : (n k m : ℕ) (d d' : D) (c c₁ c' : PsCore) (r : Answer) → n ≡ suc k → step c ≡ Next c₁
      → Runs Op k d c₁ r m d' c' → Runs Op n d c r m d' c'
  at_next n k m d d' c c₁ c' r e led run =
      let P : ℕ → Type 0 = λ i. Runs Op i d c r m d' c' in subst P (sym e) (next k m d d' c c₁ c' r led run)

  pub at_asked : (n i k m : ℕ) (d d₁ d' : D) (c c₁ c₂ c' : PsCore) (op : ℕ) (r : Answer) → n ≡ suc i → step c ≡ Asks op c₁
      → Asked Op d c₁ op i (Ok tt) d₁ c₂ k → Runs Op k d₁ c₂ r m d' c' → Runs Op n d c r m d' c'
  at_asked n i k m d d₁ d' c c₁ c₂ c' op r e led done run =
      let P : ℕ → Type 0 = λ j. Runs Op j d c r m d' c' in subst P (sym e) (asked i k m d d₁ d' c c₁ c₂ c' op r led done run)

  pub at_broken : (n i k : ℕ) (d d₁ : D) (c c₁ c₂ : PsCore) (op : ℕ) (g f : PsFault) → n ≡ suc i → step c ≡ Asks op c₁
      → Asked Op d c₁ op i (Err g) d₁ c₂ k → f ≡ fault_with k g → Runs Op n d c (Err f) k d₁ c₂
  at_broken n i k d d₁ c c₁ c₂ op g f e led done told =
      let P : ℕ → Type 0 = λ j. Runs Op j d c (Err f) k d₁ c₂ in subst P (sym e) (broken i k d d₁ c c₁ c₂ op g f led done told)
