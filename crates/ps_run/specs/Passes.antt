-- Given runs, taken apart from their beginning: neither that a run is the only one nor that one exists is needed.
use Rattle.std.specs.Prelude.{◌≡◌, ◌≢◌, ◌≤◌, ℕ, zero, suc, Ok, Err}
use Rattle.ps_step.specs.declared.fault.PsFault.TheVariants.{Error, Spent, NoMemory}
use Rattle.ps_store.specs.StoreState.{Closed}
use Rattle.ps_store.specs.Store.{closed_part}
use Rattle.ps_step.specs.declared.machine.PsCore.{PsCore}
use Rattle.ps_run.specs.Step.{Outcome, Ended, Next, Asks, Failed, step}
use Rattle.ps_run.specs.Runs.{Answer, Operates, Asked, Runs, fault_with}

-- how a run ended, where this is left: the answer, the steps, the dialect and the state
pub record Closes {D : Type 0} (answer : Answer) (n : ℕ) (d : D) (c : PsCore) (r : Answer) (m : ℕ) (d' : D) (c' : PsCore) : Type 0 where
  pub answered : r ≡ answer
  pub left : m ≡ n
  pub dialect : d' ≡ d
  pub core : c' ≡ c

-- a run that ended where nothing was left to be executed
abbrev pub Finished : {D : Type 0} → ℕ → D → PsCore → Answer → ℕ → D → PsCore → Type 0
Finished n d c r m d' c' = Closes (Ok tt) n d c r m d' c'

-- no operator gives steps back
abbrev pub TakesNone : {D : Type 0} → Operates D → Type 0
TakesNone {D} Op = (d : D) (c : PsCore) (op n : ℕ) (r : Answer) (d' : D) (c' : PsCore) (k : ℕ) → Op d c op n r d' c' k → k ≤ n

module _ {D : Type 0} (Op : Operates D) where
  -- what is left of a run behind an operator's answer
  abbrev pub Follows : Answer → ℕ → D → PsCore → Answer → ℕ → D → PsCore → Type 0
  Follows (Ok x) k d c r m d' c' = Runs Op k d c r m d' c'
  Follows (Err f) k d c r m d' c' = Closes (Err (fault_with k f)) k d c r m d' c'

  -- the dialect was asked, and the rest of the run followed
  pub record Met (d : D) (c : PsCore) (op n : ℕ) (r : Answer) (m : ℕ) (d' : D) (c' : PsCore) : Type 0 where
    pub answer : Answer
    pub dialect : D
    pub core : PsCore
    pub left : ℕ
    pub asked : Asked Op d c op n answer dialect core left
    pub follows : Follows answer left dialect core r m d' c'

  -- what is left of a run behind its first step, where `n` more are left
  abbrev pub Behind : Outcome → ℕ → D → Answer → ℕ → D → PsCore → Type 0
  Behind (Ended c₁) n d r m d' c' = Closes (Ok tt) (suc n) d c₁ r m d' c'
  Behind (Failed e c₁) n d r m d' c' = Closes (Err (fault_with n (Error e))) n d c₁ r m d' c'
  Behind (Next c₁) n d r m d' c' = Runs Op n d c₁ r m d' c'
  Behind (Asks op c₁) n d r m d' c' = Met d c₁ op n r m d' c'

  -- a run by its first step: it is spent where none is left, and else the step was made, and the rest follows
  abbrev pub Left : ℕ → D → PsCore → Answer → ℕ → D → PsCore → Type 0
  Left zero d c r m d' c' = Closes (Err Spent) zero d c r m d' c'
  Left (suc n) d c r m d' c' = Behind (step c) n d r m d' c'

  module _ (Q : ℕ → D → PsCore → Type 0) where
    -- a place on the way of a run, and the rest of the run
    pub record Passed (r : Answer) (m : ℕ) (d' : D) (c' : PsCore) : Type 0 where
      pub left : ℕ
      pub dialect : D
      pub core : PsCore
      pub holds : Q left dialect core
      pub rest : Runs Op left dialect core r m d' c'

    -- Each run from here, of which memory does not run out, passes a place where Q holds of the steps left, the dialect and the state.
    abbrev pub Passes : ℕ → D → PsCore → Type 0
    Passes n d c = (r : Answer) (m : ℕ) (d' : D) (c' : PsCore) → r ≢ Err NoMemory → Runs Op n d c r m d' c' → Passed r m d' c'

    abbrev pub PassesBehind : Answer → ℕ → D → PsCore → Type 0
    PassesBehind (Ok x) k d c = Passes k d c
    PassesBehind (Err f) k d c = f ≡ NoMemory

    -- behind each answer of an operator
    abbrev pub Answered : D → PsCore → ℕ → ℕ → Type 0
    Answered d c op n = (answer : Answer) (k : ℕ) (d₁ : D) (c₁ : PsCore) → Asked Op d c op n answer d₁ c₁ k → PassesBehind answer k d₁ c₁

-- a place on the way where Q holds and of what is closed only that became which a relation allows, as deferred entries that were settled
abbrev pub Meanwhile : {D : Type 0} → (Closed → Closed → Type 0) → PsCore → (ℕ → D → PsCore → Type 0) → ℕ → D → PsCore → Type 0
Meanwhile remains c Q k d₁ c₁ = remains (closed_part c.store) (closed_part c₁.store) × Q k d₁ c₁

-- each operation of a dialect is one of another, which shows a part of it
abbrev pub Over : {D E : Type 0} → Operates D → Operates E → (D → E) → Type 0
Over {D} {E} Op Op' f = (d : D) (c : PsCore) (op n : ℕ) (r : Answer) (d' : D) (c' : PsCore) (k : ℕ) → Op d c op n r d' c' k → Op' (f d) c op n r (f d') c' k

-- each operation of a dialect is one of another, along a relation
abbrev pub Along : {D E : Type 0} → Operates D → Operates E → (D → E → Type 0) → Type 0
Along {D} {E} Op Op' R = (d : D) (e : E) (c : PsCore) (op n : ℕ) (r : Answer) (d' : D) (c' : PsCore) (k : ℕ) → R d e → Op d c op n r d' c' k
    → (e' : E) × Op' e c op n r e' c' k × R d' e'

-- a run of the other dialect, to a related end
pub record Mapped {D E : Type 0} (Op' : Operates E) (R : D → E → Type 0) (n : ℕ) (e : E) (c : PsCore) (r : Answer) (m : ℕ) (d' : D) (c' : PsCore) : Type 0 where
  pub dialect : E
  pub runs : Runs Op' n e c r m dialect c'
  pub related : R d' dialect
