-- The skeleton of a step, which is the same for every instruction set with one delay slot: a set has its words, its
-- hazards and what each instruction does.
use Rattle.std.specs.Prelude.{ℕ, Bool, true, false, ◌-◌, ◌^◌, ◌%◌, ◌&&◌, nat_eq, nat_lt, if◌then◌else◌, List, [], ◌∷◌, Option, Some, None, Result, Ok, Err}
use Rattle.ldb_words.specs.Word.{sum_of, sign_extended}
use Rattle.ldb_words.specs.declared.kinds.Order.{Order}
use Rattle.ldb_words.specs.declared.event.Event.{Event}
use Rattle.ldb_words.specs.declared.event.Event.TheVariants.{Went, Request, Fault}
use Rattle.ldb_words.specs.declared.event.FaultKind.{FaultKind}
use Rattle.ldb_words.specs.declared.event.FaultKind.TheVariants.{Hazard, Illegal, Request as UnknownRequest}
use Rattle.machine_state.specs.Regions.{Regions, fetch_of}
use Rattle.machine_state.specs.State.{MachineState, Facts}

-- what a step answers, and the machine that it leaves
abbrev pub Outcome : Type 0
Outcome = Event × MachineState

-- ---- going on

-- the machine at its next instruction, which stands in no delay slot and follows no load
unfoldable pub moved : MachineState → MachineState
moved m = record m {
  pc = m.next_pc;
  next_pc = sum_of m.next_pc 4;
  facts = record { in_slot = false; loaded = 0; wait = m.facts.wait - 1 };
  put = None;
}

-- a transfer to a target, where `n` is the machine in the delay slot
unfoldable pub jumps : ℕ → MachineState → Outcome
jumps target n = (Went, record n { next_pc = target; facts = record n.facts { in_slot = true } })

-- ---- memory

-- a load that goes on with what it loaded, or its fault
abbrev pub on_loaded : (ℕ → MachineState → Outcome) → Result ℕ FaultKind → MachineState → Outcome
on_loaded finish (Err kind) m = (Fault kind, m)
on_loaded finish (Ok v) m = finish v m

-- what was loaded, extended by its sign
abbrev pub sign_loaded : ℕ → Result ℕ FaultKind → Result ℕ FaultKind
sign_loaded width (Err kind) = Err kind
sign_loaded width (Ok v) = Ok (sign_extended width v)

-- a store that goes on with the memory that it leaves, or its fault
unfoldable pub stores : Result Regions FaultKind → MachineState → Outcome
stores (Err kind) m = (Fault kind, m)
stores (Ok r) m = (Went, moved (record m { memory = r }))

-- ---- requests; `leave` leaves a value in the result's register

-- the next byte of the input, or -1 at the end; `n` has moved on
abbrev pub byte_read : (leave : ℕ → MachineState → MachineState) → List ℕ → MachineState → MachineState
byte_read leave [] n = leave (2 ^ 32 - 1) n
byte_read leave (b ∷ bs) n = leave b (record n { left = bs })

unfoldable pub reads_input : (leave : ℕ → MachineState → MachineState) → MachineState → MachineState
reads_input leave n = byte_read leave n.left n

-- a byte put, which is the result too
unfoldable pub puts : (leave : ℕ → MachineState → MachineState) → ℕ → MachineState → MachineState
puts leave b n = record (leave b n) { put = Some b }

-- 1 getchar, 2 putchar, 3 exit, 4 pause, 5 stack
unfoldable pub requests : (leave : ℕ → MachineState → MachineState) → (number argument : ℕ) → MachineState → Outcome
requests leave number argument m =
    if nat_eq number 1 then (Request 1, reads_input leave (moved m)) else
    if nat_eq number 2 then (Request 2, puts leave (argument % 256) (moved m)) else
    if nat_lt 2 number && nat_lt number 6 then (Request number, moved m) else
    (Fault UnknownRequest, m)

-- ---- the step

-- an instruction set: its byte order, the instruction of a word, which instructions may not follow what stands before
-- them, and what each does
pub record InstructionSet (I : Type 0) : Type 0 where
  pub order : Order
  pub insn_of : ℕ → Option I
  pub is_hazard : I → Facts → Bool
  pub act : I → MachineState → Outcome

abbrev pub decoded : {I : Type 0} → InstructionSet I → Option I → MachineState → Outcome
decoded set None m = (Fault Illegal, m)
decoded set (Some i) m = if set.is_hazard i m.facts then (Fault Hazard, m) else set.act i m

abbrev pub fetched : {I : Type 0} → InstructionSet I → Result ℕ FaultKind → MachineState → Outcome
fetched set (Err kind) m = (Fault kind, m)
fetched set (Ok word) m = decoded set (set.insn_of word) m

-- one step: the fault of pc, no such word, a hazard, and then what the instruction does
abbrev pub step_by : {I : Type 0} → InstructionSet I → MachineState → Outcome
step_by set m = fetched set (fetch_of set.order m.memory m.pc) m
