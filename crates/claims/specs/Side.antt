-- The state of a session over one machine or two, and of one side of it.
use Rattle.std.specs.Prelude.{ℕ, ◌+◌, ◌*◌, Bool, true, false, not, ◌&&◌, nat_eq, bytes_eq, List, [], filter, Option, Some, None, Result, Ok, Err}
use Rattle.std.specs.List.{list_any}
use Rattle.ldb_words.specs.declared.event.FaultKind.{FaultKind}
use Rattle.machine_state.specs.declared.layout.TheConstants.{CONTEXT}
use Rattle.machine_state.specs.State.{MachineState, Behaviour, order_of, given_input}
use Rattle.machine_state.specs.Regions.{Regions}
use Rattle.ps_store.specs.declared.object.Part.TheVariants.{Command}
use Rattle.ps_store.specs.StoreState.{StoreState}
use Rattle.frame_bytes.specs.Bytes.{Bytes}
use Rattle.table_model.specs.Rows.{PointRow}
use Rattle.table_model.specs.declared.row.TargetRow.{TargetRow}
use Rattle.table_model.specs.Frames.{row_of_target}
use Rattle.dialect_model.specs.Dial.{Target, Standing, Dial, memory_bytes}
use Rattle.dialect_model.specs.TableUse.{TableUse, Trouble, Eval}
use Rattle.c_session.specs.Commands.{Refusal, Resume}

-- ---- targets

-- the address of a word of the context block, by its number; pc is word 34, and next pc word 35
abbrev pub context_place : ℕ → ℕ
context_place n = CONTEXT + 4 * n

abbrev pub PC_WORD : ℕ
PC_WORD = 34

abbrev pub NEXT_PC_WORD : ℕ
NEXT_PC_WORD = 35

-- ---- sides

-- the event of a side; that its turns were used up is one here too
pub data SideEvent : Type 0 where
  Stops : (point : PointRow) → SideEvent
  Pauses : (pc : ℕ) → SideEvent
  Exits : (status : ℕ) → SideEvent
  Faults : (fault : FaultKind) (pc : ℕ) → SideEvent
  OutOfTurns : SideEvent
  OutOfStack : SideEvent

-- nothing runs after it
abbrev pub is_final : SideEvent → Bool
is_final (Exits status) = true
is_final (Faults fault pc) = true
is_final OutOfStack = true
is_final event = false

-- A side: its machine and its table; its breakpoints, and the points at which an interrupted `step` has put the break word too;
-- the address of the stop at which it stands, if it does; the event that it keeps while it isn't resumed; and the number of
-- its chosen frame.
pub record SideState : Type 0 where
  pub machine : MachineState
  pub table : StoreState
  pub breaks : List PointRow
  pub step_words : List PointRow
  pub stands_at : Option ℕ
  pub kept : Option SideEvent
  pub frame : ℕ

-- ---- sessions

-- Running: a resume ran out of turns
pub data State : Type 0 where
  Fresh Stopped : State
  Running : (how : Resume) → State
  Ended : State

-- `written` is what the first side's machine put, in all
pub record SessionState : Type 0 where
  pub first : SideState
  pub second : Option SideState
  pub state : State
  pub limit : ℕ
  pub written : List ℕ

-- the turns of a resume at the start
abbrev pub FIRST_LIMIT : ℕ
FIRST_LIMIT = 10000000

-- The context block is saved before any message, and the input is then given. What is made from here on is a command's.
abbrev pub first_side : Behaviour → (input : List ℕ) → StoreState → MachineState → SideState
first_side b input table m = record {
  machine = (given_input input (b.saved m).1).1;
  table = record table { part = Command };
  breaks = [];
  step_words = [];
  stands_at = None;
  kept = None;
  frame = 0;
}

abbrev pub first_session : SideState → Option SideState → SessionState
first_session a b = record { first = a; second = b; state = Fresh; limit = FIRST_LIMIT; written = [] }

-- ---- what commands see of a side

abbrev pub row_of : SideState → TargetRow
row_of a = row_of_target a.machine.target

-- the side with other bytes in the memory of its target
abbrev pub with_memory : Regions → SideState → SideState
with_memory r a = record a { machine = record a.machine { memory = r } }

abbrev pub target_of : SideState → Target
target_of a = record { row = row_of a; context = CONTEXT; order = order_of a.machine; regions = a.machine.memory }

-- the memory of its target, which is all that a search for a frame or for a point's word sees
abbrev pub memory_of : SideState → Bytes
memory_of a = memory_bytes (target_of a)

-- what stands beside the interpreter where a command begins to run it
abbrev pub dial_of : SideState → Standing → (raw : Bool) → Dial
dial_of a standing raw = record { target = Some (target_of a); standing = standing; cell = 0; out = []; raw = raw }

-- ---- breakpoints

abbrev pub same_point : PointRow → PointRow → Bool
same_point p q =
    nat_eq p.at q.at && (nat_eq p.line q.line && (nat_eq p.column q.column && (bytes_eq p.file q.file && bytes_eq p.function q.function)))

abbrev pub has : List PointRow → PointRow → Bool
has ps p = list_any (λ q. same_point q p) ps

abbrev pub without : PointRow → List PointRow → List PointRow
without p ps = filter (λ q. not (same_point q p)) ps

-- ---- commands of one side

-- the steps that a command may take
abbrev pub MOST_STEPS : ℕ
MOST_STEPS = 10000000

-- what a command that is done says, and what it leaves of a side
pub record Change : Type 0 where
  pub lines : List (List ℕ)
  pub side : SideState

abbrev pub OnSide : Type 0 → Type 1
OnSide A = Eval Refusal A

abbrev pub Troubled : Type 0
Troubled = Trouble Refusal

-- the table after a command: units that were run stay run, and what the command made is dropped
abbrev pub table_after : SideState → StoreState → StoreState
table_after a s = record s { command = a.table.command; part = a.table.part }

abbrev pub with_table_of : SideState → StoreState → SideState
with_table_of a s = record a { table = table_after a s }

-- the side after a command; one that isn't done changes nothing else
abbrev pub side_after : SideState → Result Change Troubled → TableUse → SideState
side_after a (Ok change) t = record change.side { table = table_after a t.store }
side_after a (Err e) t = with_table_of a t.store
