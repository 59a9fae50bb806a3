-- What a command does with a table: queries of it and runs of PostScript, one after another.
use Rattle.std.specs.Prelude.{◌≡◌, ◌⊎◌, ℕ, Option, Some, None, Result, Ok, Err}
use Rattle.ps_store.specs.StoreState.{StoreState}
use Rattle.ps_store.specs.declared.object.DictId.{DictId}
use Rattle.ps_step.specs.declared.machine.PsCore.{PsCore}
use Rattle.ps_step.specs.declared.fault.PsError.{PsError}
use Rattle.ps_step.specs.declared.fault.PsFault.{PsFault}
use Rattle.ps_step.specs.declared.fault.PsFault.TheVariants.{Error, Spent as SpentFault, Link, NoMemory}
use Rattle.table_model.specs.declared.lack.Lack.{Lack}
use Rattle.table_model.specs.declared.lack.Lack.TheVariants.{Unforced}
use Rattle.table_model.specs.Reading.{Walked, kind_of}
use Rattle.dialect_model.specs.Forcing.{ForcesUnit, idle}

-- The table's store; the steps that are left to the command; the immediate cell; and the command's own dictionary, which it
-- has once PostScript ran in it.
pub record TableUse : Type 0 where
  pub store : StoreState
  pub left : ℕ
  pub cell : ℕ
  pub own : Option DictId

-- where a command begins: the cell holds 0
abbrev pub use_of : StoreState → (left : ℕ) → TableUse
use_of s n = record { store = s; left = n; cell = 0; own = None }

abbrev pub with_store : TableUse → StoreState → (left : ℕ) → TableUse
with_store t s n = record t { store = s; left = n }

-- Why a command ends without being done: for a cause of its own, by an error of PostScript, since the steps are spent, or
-- for want of memory.
pub data Trouble (R : Type 0) : Type 0 where
  Refused : (cause : R) → Trouble R
  Kind : (e : PsError) → Trouble R
  Spent : Trouble R
  Wanting : Trouble R

-- What a part of a command may come to: from the use of the table before it to its result and the use after it.
abbrev pub Eval : Type 0 → Type 0 → Type 1
Eval R A = TableUse → Result A (Trouble R) → TableUse → Type 0

-- what comes after a result
abbrev pub onward : {R A B : Type 0} → (A → Eval R B) → Result A (Trouble R) → TableUse → Result B (Trouble R) → TableUse → Type 0
onward f (Ok x) u r t = f x u r t
onward f (Err e) u r t = (r ≡ Err e) × (t ≡ u)

infixl 10 ◌>>=◌
abbrev pub ◌>>=◌ : {R A B : Type 0} → Eval R A → (A → Eval R B) → Eval R B
(m >>= f) t r t' = (a : _) × (u : TableUse) × m t a u × onward f a u r t'

abbrev pub gives : {R A : Type 0} → A → Eval R A
gives x t r t' = (r ≡ Ok x) × (t' ≡ t)

abbrev pub fails : {R A : Type 0} → Trouble R → Eval R A
fails e t r t' = (r ≡ Err e) × (t' ≡ t)

abbrev pub refuses : {R A : Type 0} → R → Eval R A
refuses cause = fails (Refused cause)

-- memory may be wanting
abbrev pub takes_memory : {R : Type 0} → Eval R (Unit {0})
takes_memory t r t' = (t' ≡ t) × ((r ≡ Ok tt) ⊎ (r ≡ Err Wanting))

-- how a run that failed ends a command
abbrev pub trouble_of : {R : Type 0} → PsFault → Trouble R
trouble_of (Error e) = Kind e
trouble_of SpentFault = Spent
trouble_of Link = Wanting
trouble_of NoMemory = Wanting

-- ---- queries

-- A query of the table. Where it meets a unit that is still to be run, this is run and the query is asked again: units that
-- were run stay run.
pub data Looks {R A : Type 0} (q : StoreState → Walked A) : TableUse → Result A (Trouble R) → TableUse → Type 0 where
  told : {t : TableUse} {x : A} → q t.store ≡ Ok x → Looks q t (Ok x) t
  lacks : {t : TableUse} {l : Lack} {e : PsError} → q t.store ≡ Err l → kind_of l ≡ Some e → Looks q t (Err (Kind e)) t
  forced : {t t' : TableUse} {u n : ℕ} {c : PsCore} {r : Result A (Trouble R)} → q t.store ≡ Err (Unforced u)
      → ForcesUnit u (idle t.store) t.left (Ok tt) n c → Looks q (with_store t c.store n) r t' → Looks q t r t'
  broken : {t : TableUse} {u n : ℕ} {c : PsCore} {f : PsFault} → q t.store ≡ Err (Unforced u)
      → ForcesUnit u (idle t.store) t.left (Err f) n c → Looks q t (Err (trouble_of f)) (with_store t c.store n)
  wanting : {t : TableUse} → Looks q t (Err Wanting) t
