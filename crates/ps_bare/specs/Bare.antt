-- The operators where there is no target: all that they can change of the dial is the cell's word.
use Rattle.std.specs.Prelude.{◌≡◌, ◌≢◌, ◌≤◌, ◌⊎◌, ℕ, Result, Ok, Err}
use Rattle.ps_step.specs.declared.fault.PsFault.TheVariants.{Error, Spent, Link, NoMemory}
use Rattle.ps_step.specs.declared.machine.PsCore.{PsCore}
use Rattle.ps_run.specs.Runs.{Answer}
use Rattle.ps_places.specs.declared.access.Trouble.{Trouble}
use Rattle.ps_places.specs.declared.access.Trouble.TheVariants.{Ps, Broken}
use Rattle.dialect_model.specs.Dial.{Dial, no_target, Raises}
use Rattle.dialect_model.specs.Operators.{act}
use Rattle.dialect_model.specs.Forcing.{NoTarget}

-- no target, and the cell's word
abbrev pub bare : (cell : ℕ) → Dial
bare cell = record no_target { cell = cell }

-- An operator that asks nothing but the state was run, under any dial. An error leaves the state as it was. Where memory ran out
-- nothing is said.
abbrev pub ActsAlone : (op : ℕ) → Dial → PsCore → Answer → PsCore → Type 0
ActsAlone op d c (Ok x) c' = act op d c ≡ Ok (d, c')
ActsAlone op d c (Err (Error e)) c' = (act op d c ≡ Err (Raises e)) × (c' ≡ c)
ActsAlone op d c (Err NoMemory) c' = Unit {0}
ActsAlone op d c (Err Spent) c' = ⊥
ActsAlone op d c (Err Link) c' = ⊥

-- The operator with a number was run once, with the cell's word before and after. An error leaves all as it was. Where memory
-- ran out nothing is said.
abbrev pub ActsBare : (op cell : ℕ) → PsCore → Answer → (cell' : ℕ) → PsCore → Type 0
ActsBare op cell c (Ok x) cell' c' = act op (bare cell) c ≡ Ok (bare cell', c')
ActsBare op cell c (Err (Error e)) cell' c' = (act op (bare cell) c ≡ Err (Raises e)) × (cell' ≡ cell) × (c' ≡ c)
ActsBare op cell c (Err NoMemory) cell' c' = Unit {0}
ActsBare op cell c (Err Spent) cell' c' = ⊥
ActsBare op cell c (Err Link) cell' c' = ⊥

-- the same, as what a dialect's operator may do: it takes no steps of its own
abbrev pub OperatesBare : (cell : ℕ) → PsCore → (op left : ℕ) → Answer → (cell' : ℕ) → PsCore → (left' : ℕ) → Type 0
OperatesBare cell c op left answer cell' c' left' = (left' ≡ left) × (answer ≢ Err NoMemory → NoTarget (bare cell) c op left answer (bare cell') c' left)

-- the operators on pointers and types
abbrev pub IsOnObject : ℕ → Type 0
IsOnObject op = ((23 ≤ op) × (op ≤ 27)) ⊎ (op ≡ 32)

-- what an operator over a memory answers, where the memory does
abbrev pub quiet : Result (Unit {0}) Trouble → Answer
quiet (Ok x) = Ok x
quiet (Err (Ps f)) = Err f
quiet (Err (Broken f)) = Err Link
