-- One step of a run: one object is executed, or one turn of a loop is made.
use Rattle.std.specs.Prelude.{ℕ, ◌+ℤ◌, ◌+◌, ◌-◌, Bool, true, false, nat_lt, pos, if◌then◌else◌, Option, Some, None, Result, Ok, Err, List, [], ◌∷◌, length, option_map, slice_get, slice_index_or}
use Rattle.ps_store.specs.declared.object.PsObj.{PsObj}
use Rattle.ps_store.specs.declared.object.PsObj.TheVariants.{Int, Bool as Truth, Null}
use Rattle.ps_store.specs.declared.object.ArrayId.{ArrayId}
use Rattle.ps_store.specs.declared.object.Pair.{Pair}
use Rattle.ps_store.specs.Store.{elements_of, entries_of, bytes_of}
use Rattle.ps_step.specs.declared.fault.PsError.{PsError}
use Rattle.ps_step.specs.declared.fault.PsError.TheVariants.{StackOverflow}
use Rattle.ps_step.specs.declared.item.Item.{Item}
use Rattle.ps_step.specs.declared.item.Item.TheVariants.{Object, Procedure, Text, Repeat, For, ForArray, ForString, ForDict, Loop, LastTurn, Stopped}
use Rattle.ps_step.specs.declared.machine.PsCore.{PsCore}
use Rattle.ps_step.specs.Results.{◌>>=◌, at}
use Rattle.ps_step.specs.Item.{under_stopped}
use Rattle.ps_step.specs.State.{with_execution, with_operands, pushing, calling}
use Rattle.ps_step.specs.ControlOperators.{goes_on}
use Rattle.ps_step.specs.CopyOperators.{MadeOrLeft}
use Rattle.ps_step.specs.Executing.{Turn, alone, executing, meeting}
use Rattle.ps_run.specs.Scan.{More, Whole, Nothing, Bad, reading_object}

-- What a step leads to: the end, where nothing is left to be executed; the next state; a question to the dialect;
-- or the end by an error that no `stopped` catches.
pub data Outcome : Type 0 where
  Ended : (c : PsCore) → Outcome
  Next : (c : PsCore) → Outcome
  Asks : (op : ℕ) (c : PsCore) → Outcome
  Failed : (e : PsError) (c : PsCore) → Outcome

-- An error is raised: what is above the innermost `stopped` is left, and that one leaves true.
abbrev pub raising : PsError → PsCore → Outcome
raising e c = elim (under_stopped c.execution) [
  | None ↦ Failed e (with_execution c [])
  | Some rest ↦
      if nat_lt (length c.operands) 100000 then Next (record c { operands = Truth true ∷ c.operands; execution = rest })
      else Failed StackOverflow (with_execution c [])
]

-- what a turn leads to
abbrev pub settled : Turn → Outcome
settled (Ok turn) = elim turn.1 [ None ↦ Next turn.0 | Some op ↦ Asks op turn.0 ]
settled (Err failed) = raising failed.0 failed.1

-- a turn of a loop: an object is pushed, and the body is entered
abbrev pub turning : PsObj → ArrayId → PsCore → MadeOrLeft
turning x body c = at c (pushing x c) >>= λ c'. at c' (calling body c')

-- a turn of `forall` over a dictionary: the key of a pair and its value are pushed, and the body is entered
abbrev pub turning_pair : Option Pair → ArrayId → PsCore → MadeOrLeft
turning_pair None body c = Ok c
turning_pair (Some pair) body c =
    if nat_lt 99998 (length c.operands) then Err (StackOverflow, c)
    else let c' : PsCore = with_operands c (pair.value ∷ pair.key ∷ c.operands) in at c' (calling body c')

-- the rest of a procedure: as it goes on, if there is an object behind this one
abbrev pub going_on : ℕ → ℕ → Item → List Item → List Item
going_on next count item rest = if nat_lt next count then item ∷ rest else rest

-- The rest of a loop in a turn: as it goes on, if there is a turn behind this one. Its last turn keeps an item of the loop,
-- at which `exit` leaves it.
abbrev pub in_turn : Bool → Item → List Item → List Item
in_turn more item rest = if more then item ∷ rest else LastTurn ∷ rest

-- One step, by the item on top of the execution stack. A `stopped` whose object has ended leaves false,
-- and a text whose tokens have ended is dropped, as is a loop whose last turn has ended: none of these is a step.
abbrev pub stepping : List Item → PsCore → Outcome
stepping [] c = Ended c
stepping (Stopped ∷ rest) c =
    if nat_lt (length c.operands) 100000 then stepping rest (record c { operands = Truth false ∷ c.operands; execution = rest })
    else Failed StackOverflow (with_execution c [])
stepping (Text t n ∷ rest) c = elim (reading_object c.store t n) [
  | Nothing s ↦ stepping rest (record c { store = s; execution = rest })
  | Whole x s next ↦ settled (meeting x (record c { store = s; execution = Text t next ∷ rest }))
  | Bad e s ↦ raising e (record c { store = s; execution = rest })
  | More s xs next ↦ Ended c
]
stepping (Object x ∷ rest) c = settled (executing x (with_execution c rest))
stepping (Procedure a n ∷ rest) c =
    let items = elements_of c.store a in
    settled (meeting (slice_index_or items n Null) (with_execution c (going_on (n + 1) (length items) (Procedure a (n + 1)) rest)))
stepping (Repeat n body ∷ rest) c =
    let c' : PsCore = with_execution c (in_turn (nat_lt 1 n) (Repeat (n - 1) body) rest) in settled (alone (at c' (calling body c')))
stepping (For next by limit body ∷ rest) c =
    let c' : PsCore = with_execution c (in_turn (goes_on (next +ℤ by) by limit) (For (next +ℤ by) by limit body) rest) in
    settled (alone (turning (Int next) body c'))
stepping (ForArray a n body ∷ rest) c =
    let items = elements_of c.store a in
    settled (alone (turning (slice_index_or items n Null) body (with_execution c (in_turn (nat_lt (n + 1) (length items)) (ForArray a (n + 1) body) rest))))
stepping (ForString t n body ∷ rest) c =
    let bytes = bytes_of c.store t in
    settled (alone (turning (Int (pos (slice_index_or bytes n 0))) body (with_execution c (in_turn (nat_lt (n + 1) (length bytes)) (ForString t (n + 1) body) rest))))
stepping (ForDict d n body ∷ rest) c =
    let pairs = entries_of c.store d in
    settled (alone (turning_pair (option_map (λ e. e.1) (slice_get pairs n)) body (with_execution c (in_turn (nat_lt (n + 1) (length pairs)) (ForDict d (n + 1) body) rest))))
stepping (Loop body ∷ rest) c = settled (alone (at c (calling body c)))
stepping (LastTurn ∷ rest) c = stepping rest (with_execution c rest)

abbrev pub step : PsCore → Outcome
step c = stepping c.execution c
