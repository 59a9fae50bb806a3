-- Whole runs, with the operators of a dialect.
use Rattle.std.specs.Prelude.{◌≡◌, ◌≢◌, ◌<◌, ℕ, zero, suc, Result, Ok, Err, List, [], ◌∷◌}
use Rattle.ps_store.specs.declared.object.PsObj.{PsObj}
use Rattle.ps_step.specs.declared.fault.PsError.{PsError}
use Rattle.ps_step.specs.declared.fault.PsFault.{PsFault}
use Rattle.ps_step.specs.declared.fault.PsFault.TheVariants.{Error, Spent, Link, NoMemory}
use Rattle.ps_step.specs.declared.item.Item.{Item}
use Rattle.ps_step.specs.declared.item.Item.TheVariants.{Object}
use Rattle.ps_step.specs.declared.machine.PsCore.{PsCore}
use Rattle.ps_step.specs.State.{with_execution}
use Rattle.ps_run.specs.declared.step.Progress.{Progress}
use Rattle.ps_run.specs.declared.step.Progress.TheVariants.{Ended as AtEnd, Went, Asked as Question}
use Rattle.ps_run.specs.Step.{Outcome, Ended, Next, Asks, Failed, raising, step}

-- The error was raised as the definition says. Where memory ran out nothing is said.
abbrev pub Raises : Result (Unit {0}) PsFault → PsCore → Outcome → Type 0
Raises (Ok x) new outcome = outcome ≡ Next new
Raises (Err (Error e)) new outcome = outcome ≡ Failed e new
Raises (Err NoMemory) new outcome = Unit {0}
Raises (Err Spent) new outcome = ⊥
Raises (Err Link) new outcome = ⊥

-- The step led to what the definition leads to. Where memory ran out nothing is said.
abbrev pub Steps : Result Progress PsFault → PsCore → Outcome → Type 0
Steps (Ok AtEnd) new outcome = outcome ≡ Ended new
Steps (Ok Went) new outcome = outcome ≡ Next new
Steps (Ok (Question op)) new outcome = outcome ≡ Asks op new
Steps (Err (Error e)) new outcome = outcome ≡ Failed e new
Steps (Err NoMemory) new outcome = Unit {0}
Steps (Err Spent) new outcome = ⊥
Steps (Err Link) new outcome = ⊥

-- how a run or an operator ended
abbrev pub Answer : Type 0
Answer = Result (Unit {0}) PsFault

-- What a dialect's operator may do: from itself, the state and the steps that are left to its answer, and these three after it.
abbrev pub Operates : Type 0 → Type 1
Operates D = D → PsCore → ℕ → ℕ → Answer → D → PsCore → ℕ → Type 0

-- An operator's answer is what it leads to, but for an error: that one is raised.
abbrev pub Settles : Answer → PsCore → Answer → PsCore → Type 0
Settles (Ok x) c answer c' = (answer ≡ Ok tt) × (c' ≡ c)
Settles (Err (Error e)) c (Ok x) c' = raising e c ≡ Next c'
Settles (Err (Error e)) c (Err (Error e')) c' = raising e c ≡ Failed e' c'
Settles (Err (Error e)) c (Err Spent) c' = ⊥
Settles (Err (Error e)) c (Err Link) c' = ⊥
Settles (Err (Error e)) c (Err NoMemory) c' = Unit {0}
Settles (Err Spent) c answer c' = (answer ≡ Err Spent) × (c' ≡ c)
Settles (Err Link) c answer c' = (answer ≡ Err Link) × (c' ≡ c)
Settles (Err NoMemory) c answer c' = (answer ≡ Err NoMemory) × (c' ≡ c)

-- A fault with so many steps left: where none is left the steps are spent, also by a step that raised an error.
abbrev pub fault_with : ℕ → PsFault → PsFault
fault_with zero (Error e) = Spent
fault_with left fault = fault

-- Spent is told exactly where no step is left, unless the link or memory failed.
abbrev pub TellsSteps : Answer → ℕ → Type 0
TellsSteps (Ok x) left = 0 < left
TellsSteps (Err (Error e)) left = 0 < left
TellsSteps (Err Spent) left = left ≡ 0
TellsSteps (Err Link) left = Unit {0}
TellsSteps (Err NoMemory) left = Unit {0}

module _ {D : Type 0} (Op : Operates D) where
  -- an operator is asked for, and its error raised
  pub record Asked (d : D) (c : PsCore) (op left : ℕ) (answer : Answer) (d' : D) (c' : PsCore) (left' : ℕ) : Type 0 where
    pub given : Answer
    pub core : PsCore
    pub operates : Op d c op left given d' core left'
    pub settles : Settles given core answer c'

  -- Runs left d c answer left' d' c': with so many steps left before they are spent, the run ends with the answer.
  pub data Runs : ℕ → D → PsCore → Answer → ℕ → D → PsCore → Type 0 where
    spent : (d : D) (c : PsCore) → Runs zero d c (Err Spent) zero d c
    ended : (n : ℕ) (d : D) (c c' : PsCore) → step c ≡ Ended c' → Runs (suc n) d c (Ok tt) (suc n) d c'
    failed : (n : ℕ) (d : D) (c c' : PsCore) (e : PsError) (f : PsFault) → step c ≡ Failed e c' → f ≡ fault_with n (Error e)
        → Runs (suc n) d c (Err f) n d c'
    next : (n m : ℕ) (d d' : D) (c c₁ c' : PsCore) (r : Answer) → step c ≡ Next c₁
        → Runs n d c₁ r m d' c' → Runs (suc n) d c r m d' c'
    asked : (n k m : ℕ) (d d₁ d' : D) (c c₁ c₂ c' : PsCore) (op : ℕ) (r : Answer) → step c ≡ Asks op c₁
        → Asked d c₁ op n (Ok tt) d₁ c₂ k → Runs k d₁ c₂ r m d' c' → Runs (suc n) d c r m d' c'
    broken : (n k : ℕ) (d d₁ : D) (c c₁ c₂ : PsCore) (op : ℕ) (g f : PsFault) → step c ≡ Asks op c₁
        → Asked d c₁ op n (Err g) d₁ c₂ k → f ≡ fault_with k g → Runs (suc n) d c (Err f) k d₁ c₂

  -- An object is run on an execution stack of its own, unless memory runs out. The one found is put back.
  abbrev pub RunsObject : ℕ → PsObj → D → PsCore → Answer → ℕ → D → PsCore → Type 0
  RunsObject n what d c r m d' c' = r ≢ Err NoMemory → (execution : List Item) × Runs n d (with_execution c (Object what ∷ [])) r m d' (with_execution c' execution)
