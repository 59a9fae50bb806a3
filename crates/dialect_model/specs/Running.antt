-- Runs of PostScript in a command.
use Rattle.std.specs.Prelude.{◌≡◌, ◌⊎◌, ◌≤◌, ℕ, zero, ◌-◌, true, [], ◌∷◌, reverse, Option, Some, None, Result, Ok, Err}
use Rattle.ps_store.specs.declared.object.Part.TheVariants.{Command}
use Rattle.ps_store.specs.declared.object.DictId.{DictId}
use Rattle.ps_store.specs.declared.object.PsObj.{PsObj}
use Rattle.ps_store.specs.declared.object.PsObj.TheVariants.{Array}
use Rattle.ps_store.specs.StoreState.{StoreState}
use Rattle.ps_store.specs.Store.{Given, making_dict}
use Rattle.ps_step.specs.declared.fault.PsError.{PsError}
use Rattle.ps_step.specs.declared.fault.PsError.TheVariants.{LimitCheck}
use Rattle.ps_step.specs.declared.fault.PsFault.TheVariants.{Spent as SpentFault}
use Rattle.ps_step.specs.declared.item.Item.TheVariants.{Object}
use Rattle.ps_step.specs.declared.machine.PsCore.{PsCore}
use Rattle.ps_run.specs.Runs.{Answer, Runs}
use Rattle.table_model.specs.declared.lack.Lack.TheVariants.{WrongType}
use Rattle.table_model.specs.Reading.{Walked}
use Rattle.dialect_model.specs.Dial.{Dial}
use Rattle.dialect_model.specs.Operating.{Operates}
use Rattle.dialect_model.specs.TableUse.{TableUse, Trouble, Kind, Wanting, Eval, trouble_of, gives, fails}

-- a step of the interpreter, or its error
abbrev pub or_error : {R A : Type 0} → Result A PsError → Eval R A
or_error (Ok x) = gives x
or_error (Err e) = fails (Kind e)

-- ---- the command's own dictionary

-- the interpreter's state in a command: its dictionary stands on the base ones
abbrev pub core_in : StoreState → DictId → PsCore
core_in s d = record { store = s; operands = []; dictionaries = d ∷ reverse s.base; execution = [] }

abbrev begun : {R : Type 0} → TableUse → Given DictId → Result PsCore (Trouble R) → TableUse → Type 0
begun t (Ok (d, s)) r t' = (r ≡ Ok (core_in s d)) × (t' ≡ record t { store = s; own = Some d })
begun t (Err f) r t' = (r ≡ Err (Kind LimitCheck)) × (t' ≡ t)

-- it is made once a command, in the command's part
abbrev begun_or_again : {R : Type 0} → Option DictId → Eval R PsCore
begun_or_again None t r t' = begun t (making_dict (record t.store { part = Command })) r t'
begun_or_again (Some d) t r t' = (r ≡ Ok (core_in t.store d)) × (t' ≡ t)

abbrev pub beginning : {R : Type 0} → Eval R PsCore
beginning t r t' = begun_or_again t.own t r t'

-- ---- runs

-- what has run: the dial and the interpreter's state after it
pub record Run : Type 0 where
  pub dial : Dial
  pub core : PsCore

abbrev pub run_result : {R : Type 0} → Answer → Dial → PsCore → Result Run (Trouble R)
run_result (Ok u) d c = Ok (record { dial = d; core = c })
run_result (Err f) d c = Err (trouble_of f)

-- the state in which an object is run: the store is the table's as it is by now, and the cell as the last run left it
abbrev pub ready : PsObj → PsCore → TableUse → PsCore
ready x c t = record c { store = t.store; execution = Object x ∷ [] }

abbrev pub with_cell : TableUse → Dial → Dial
with_cell t d = record d { cell = t.cell }

-- the use of the table after a run
abbrev pub use_after : TableUse → (left : ℕ) → Dial → PsCore → TableUse
use_after t n d c = record t { store = c.store; left = n; cell = d.cell }

-- An object is run to an end.
pub record RunsToEnd {R : Type 0} (x : PsObj) (d : Dial) (c : PsCore) (t : TableUse) (r : Result Run (Trouble R)) (t' : TableUse) : Type 0 where
  pub answer : Answer
  pub left : ℕ
  pub dial : Dial
  pub core : PsCore
  pub runs : Runs Operates t.left (with_cell t d) (ready x c t) answer left dial core
  pub result : r ≡ run_result answer dial core
  pub leaves : t' ≡ use_after t left dial core

-- A run has come so far as some number of steps.
pub record ComesSoFar (x : PsObj) (d : Dial) (c : PsCore) (t : TableUse) (taken : ℕ) (core : PsCore) (t' : TableUse) : Type 0 where
  pub dial : Dial
  pub within : taken ≤ t.left
  pub runs : Runs Operates taken (with_cell t d) (ready x c t) (Err SpentFault) zero dial core
  pub leaves : t' ≡ use_after t (t.left - taken) dial core

-- memory is wanting somewhere in a run
pub record RunsOut {R : Type 0} (x : PsObj) (d : Dial) (c : PsCore) (t : TableUse) (r : Result Run (Trouble R)) (t' : TableUse) : Type 0 where
  pub taken : ℕ
  pub core : PsCore
  pub comes : ComesSoFar x d c t taken core t'
  pub result : r ≡ Err Wanting

-- an object is run, unless memory is wanting
abbrev pub running : {R : Type 0} → PsObj → Dial → PsCore → Eval R Run
running x d c t r t' = RunsToEnd x d c t r t' ⊎ RunsOut x d c t r t'

-- a value that has to be a procedure
abbrev pub procedure : PsObj → Walked PsObj
procedure (Array a true) = Ok (Array a true)
procedure x = Err WrongType
