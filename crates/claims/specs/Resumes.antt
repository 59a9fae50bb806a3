-- `continue` and `step`: each side runs to its event, and the events are merged.
use Rattle.std.specs.Prelude.{ℕ, Bool, true, false, List, [], ◌∷◌, ◌++◌, if◌then◌else◌, Option, Some, None, Result, Ok, Err}
use Rattle.ldb_words.specs.Word.{sum_of}
use Rattle.ldb_words.specs.declared.event.FaultKind.TheVariants as kind
use Rattle.ldb_words.specs.declared.event.Outside.{Outside}
use Rattle.machine_state.specs.Regions.{Regions, write_of}
use Rattle.machine_state.specs.State.{MachineState, Behaviour, order_of}
use Rattle.nub_wire.specs.declared.message.Ending.{Ending}
use Rattle.nub_wire.specs.declared.message.Ending.TheVariants as ending
use Rattle.nub_wire.specs.declared.message.Reason.TheVariants as reason
use Rattle.nub_wire.specs.Resumes.{Whole, run_from}
use Rattle.table_model.specs.Rows.{PointRow}
use Rattle.c_session.specs.Commands.{Resume}
use Rattle.claims.specs.Side.{SideEvent, Stops, Pauses, Exits, Faults, OutOfTurns, OutOfStack, is_final, SideState, SessionState, State, Stopped, Running, Ended, context_place, PC_WORD, NEXT_PC_WORD}
use Rattle.claims.specs.Lines.{Reply, event_text}
use Rattle.claims.specs.Breaks.{stop_at, remove_step_words}

-- ---- one side

abbrev written : MachineState → Result Regions Outside → MachineState
written m (Ok r) = record m { memory = r }
written m (Err e) = m

-- the machine with a word of its context block changed
abbrev pub with_context_word : (number word : ℕ) → MachineState → MachineState
with_context_word n w m = written m (write_of (order_of m) m.memory (context_place n) 4 w)

-- after a stop at an address pc goes past its no-op, and next pc behind that; else pc stays
abbrev pub past_no_op : Option ℕ → MachineState → MachineState
past_no_op None m = m
past_no_op (Some at) m = with_context_word NEXT_PC_WORD (sum_of at 8) (with_context_word PC_WORD (sum_of at 4) m)

-- a break at an address where none was put is a fault
abbrev pub stop_or_fault : Option PointRow → (pc : ℕ) → SideEvent
stop_or_fault (Some p) pc = Stops p
stop_or_fault None pc = Faults kind.Break pc

abbrev pub event_by : SideState → Ending → SideEvent
event_by a (ending.Stopped reason.Break pc) = stop_or_fault (stop_at a pc) pc
event_by a (ending.Stopped reason.Pause pc) = Pauses pc
event_by a (ending.Exited status) = Exits status
event_by a (ending.Faulted fault pc) = Faults fault pc
event_by a ending.Turns = OutOfTurns
event_by a ending.Stack = OutOfStack

abbrev pub stop_address : SideEvent → Option ℕ
stop_address (Stops p) = Some p.at
stop_address event = None

-- the words of a `step` stay where the turns were used up
abbrev pub after_event : SideEvent → SideState → SideState
after_event OutOfTurns a = a
after_event event a = remove_step_words a

-- a side's event, its output on the way, and the side after it
pub record SideRun : Type 0 where
  pub event : SideEvent
  pub output : List ℕ
  pub side : SideState

abbrev stands : SideEvent → SideState → SideState
stands event a = record (after_event event a) { stands_at = stop_address event }

abbrev side_run : SideState → Whole → SideRun
side_run a w =
    let event : SideEvent = event_by a w.ending in
    record { event = event; output = w.output; side = stands event (record a { machine = w.machine }) }

-- a side that has its event, or whose event is final, isn't resumed; the words of a `step` are put back there too
abbrev pub resume_side : Behaviour → (limit : ℕ) → SideState → SideRun
resume_side b limit a = elim a.kept [
  | Some event ↦ record { event = event; output = []; side = remove_step_words a }
  | None ↦ side_run a (run_from b limit (past_no_op a.stands_at a.machine))
]

-- ---- both sides

abbrev is_stack : SideEvent → Bool
is_stack OutOfStack = true
is_stack event = false

abbrev is_fault : SideEvent → Bool
is_fault (Faults fault pc) = true
is_fault event = false

abbrev is_turns : SideEvent → Bool
is_turns OutOfTurns = true
is_turns event = false

-- `stack` where a side gave it, else a side's fault, else `turns` where a side gave it, else the first side's event
abbrev pub merged_with : SideEvent → SideEvent → SideEvent
merged_with a b =
    if is_stack a then a else if is_stack b then b
    else if is_fault a then a else if is_fault b then b
    else if is_turns a then a else if is_turns b then b
    else a

abbrev pub merged : SideEvent → Option SideEvent → SideEvent
merged a None = a
merged a (Some b) = merged_with a b

-- the event that a side keeps: any where another side ran out of turns, and a final one for good
abbrev pub keeps : (all : SideEvent) → SideEvent → Option SideEvent
keeps all OutOfTurns = None
keeps OutOfTurns event = Some event
keeps all event = if is_final event then Some event else None

-- after a stop and a pause frame 0 is chosen on each side
abbrev pub frame_after : ℕ → SideEvent → ℕ
frame_after n (Stops p) = 0
frame_after n (Pauses pc) = 0
frame_after n event = n

abbrev pub side_after : (all : SideEvent) → SideRun → SideState
side_after all w = record w.side { kept = keeps all w.event; frame = frame_after w.side.frame all }

abbrev pub state_after : Resume → SideEvent → State
state_after how (Stops p) = Stopped
state_after how (Pauses pc) = Stopped
state_after how OutOfTurns = Running how
state_after how event = Ended

-- a resume's line, and the session after it
pub record Resumed : Type 0 where
  pub lines : Reply
  pub session : SessionState

abbrev resumed_by : Resume → SessionState → SideRun → Option SideRun → SideEvent → Resumed
resumed_by how st a b all = record {
  lines = event_text all ∷ [];
  session = record {
    first = side_after all a;
    second = elim b [ None ↦ None | Some w ↦ Some (side_after all w) ];
    state = state_after how all;
    limit = st.limit;
    written = st.written ++ a.output;
  };
}

abbrev second_run : Behaviour → ℕ → Option SideState → Option SideRun
second_run b limit None = None
second_run b limit (Some a) = Some (resume_side b limit a)

abbrev second_event : Option SideRun → Option SideEvent
second_event None = None
second_event (Some w) = Some w.event

-- each side runs to its event
unfoldable pub resumed : Behaviour → Resume → SessionState → Resumed
resumed b how st =
    let first : SideRun = resume_side b st.limit st.first in
    let second : Option SideRun = second_run b st.limit st.second in
    resumed_by how st first second (merged first.event (second_event second))
