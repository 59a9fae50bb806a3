-- Runs and queries where more counts than the table's own procedures and objects: near a limit its error may come.
use Rattle.std.specs.Prelude.{◌≡◌, ◌⊎◌, ◌≤◌, ℕ, zero, ◌+◌, ◌-◌, length, Result, Ok, Err}
use Rattle.ps_store.specs.declared.object.DictId.{DictId}
use Rattle.ps_store.specs.declared.object.PsObj.{PsObj}
use Rattle.ps_store.specs.StoreState.{StoreState}
use Rattle.ps_step.specs.declared.fault.PsError.{PsError}
use Rattle.ps_step.specs.declared.fault.PsError.TheVariants.{LimitCheck, ExecStackOverflow, StackOverflow, DictStackOverflow}
use Rattle.ps_step.specs.declared.fault.PsFault.TheVariants.{Spent as SpentFault}
use Rattle.ps_step.specs.declared.machine.PsCore.{PsCore}
use Rattle.ps_run.specs.Runs.{Runs}
use Rattle.table_model.specs.declared.lack.Lack.TheVariants.{Unforced}
use Rattle.table_model.specs.Reading.{Walked}
use Rattle.dialect_model.specs.Dial.{Dial, no_target}
use Rattle.dialect_model.specs.Forcing.{NoTarget, ForcesUnit, deferred, forcing, idle}
use Rattle.dialect_model.specs.TableUse.{TableUse, with_store, Trouble, Kind, Spent, Eval, Looks}
use Rattle.dialect_model.specs.Running.{Run, ComesSoFar, running}

-- ---- near a limit

-- seven tenths of the units that a store may hold
abbrev pub IsFull : StoreState → Type 0
IsFull s = 5600000 ≤ s.table.units + s.command.units

-- seven tenths of what may stand on a stack or in the store
abbrev pub IsNear : PsError → PsCore → Type 0
IsNear ExecStackOverflow c = 700 ≤ length c.execution
IsNear StackOverflow c = 70000 ≤ length c.operands
IsNear DictStackOverflow c = 45 ≤ length c.dictionaries
IsNear LimitCheck c = IsFull c.store
IsNear e c = ⊥

-- of so many steps at most 100,000 are left when some are taken
abbrev pub AreNearlyTaken : (all taken : ℕ) → Type 0
AreNearlyTaken all taken = all ≤ taken + 100000

-- the trouble that may come where a run has come so far
abbrev pub ComesNear : {R : Type 0} → (all taken : ℕ) → PsCore → Trouble R → Type 0
ComesNear all taken c (Kind e) = IsNear e c
ComesNear all taken c Spent = AreNearlyTaken all taken
ComesNear all taken c e = ⊥

-- ---- runs

pub record EndsNear {R : Type 0} (x : PsObj) (d : Dial) (c : PsCore) (t : TableUse) (r : Result Run (Trouble R)) (t' : TableUse) : Type 0 where
  pub taken : ℕ
  pub core : PsCore
  pub trouble : Trouble R
  pub comes : ComesSoFar x d c t taken core t'
  pub near : ComesNear t.left taken core trouble
  pub result : r ≡ Err trouble

-- a run beside which more counts
abbrev pub running_among : {R : Type 0} → PsObj → Dial → PsCore → Eval R Run
running_among x d c t r t' = running x d c t r t' ⊎ EndsNear x d c t r t'

-- ---- queries

-- the run of a unit's executable string has come so far as some number of steps
pub record ForcesSome (u : ℕ) (s : StoreState) (left taken : ℕ) (core : PsCore) : Type 0 where
  pub unit : DictId
  pub text : PsObj
  pub stands : deferred s u ≡ Ok (unit, text)
  pub within : taken ≤ left
  pub dial : Dial
  pub runs : Runs NoTarget taken no_target (forcing s text) (Err SpentFault) zero dial core

-- it has stacks of its own, on which nothing else counts
abbrev pub IsOfAll : {R : Type 0} → Trouble R → Type 0
IsOfAll (Kind LimitCheck) = Unit {0}
IsOfAll Spent = Unit {0}
IsOfAll e = ⊥

-- A query ends near a limit of the steps or of the store: where it begins, while a unit is run, which then isn't run, or behind that.
pub data LooksNear {R A : Type 0} (q : StoreState → Walked A) : TableUse → Trouble R → TableUse → Type 0 where
  full : {t : TableUse} → IsFull t.store → LooksNear q t (Kind LimitCheck) t
  spent : {t : TableUse} → t.left ≤ 100000 → LooksNear q t Spent t
  within : {t : TableUse} {u taken : ℕ} {c : PsCore} {e : Trouble R} → q t.store ≡ Err (Unforced u) → ForcesSome u t.store t.left taken c
      → IsOfAll e → ComesNear t.left taken c e → LooksNear q t e (with_store t t.store (t.left - taken))
  later : {t t' : TableUse} {u n : ℕ} {c : PsCore} {e : Trouble R} → q t.store ≡ Err (Unforced u) → ForcesUnit u (idle t.store) t.left (Ok tt) n c
      → LooksNear q (with_store t c.store n) e t' → LooksNear q t e t'

-- a query beside which more counts
abbrev pub looking : {R A : Type 0} → (StoreState → Walked A) → Eval R A
looking q t r t' = Looks q t r t' ⊎ ((e : Trouble _) × (r ≡ Err e) × LooksNear q t e t')

-- what all comes to, where more counted on the way
abbrev pub slackened : {R A : Type 0} → Eval R A → Eval R A
slackened m t r t' = (r₁ : _) × m t r₁ t' × ((r ≡ r₁) ⊎ ((t'.left ≤ 100000) × (r ≡ Err Spent)) ⊎ (IsFull t'.store × (r ≡ Err (Kind LimitCheck))))
