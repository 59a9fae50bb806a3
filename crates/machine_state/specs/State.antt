-- The plain record of a machine, whichever its target: what a step reads and changes.
use Rattle.std.specs.Prelude.{ℕ, Bool, true, false, ◌+◌, ◌++◌, ◌^◌, ◌&&◌, nat_eq, nat_le, length, List, [], Option, None, if◌then◌else◌, Result, Ok, Err}
use Rattle.ldb_words.specs.declared.kinds.Order.{Order}
use Rattle.ldb_words.specs.declared.kinds.Order.TheVariants.{Little, Big}
use Rattle.ldb_words.specs.declared.event.Event.{Event}
use Rattle.ldb_words.specs.declared.event.Outside.{Outside}
use Rattle.machine_state.specs.declared.layout.TheConstants.{SPARC}
use Rattle.ldb_words.specs.Word.{sum_of}
use Rattle.machine_state.specs.Regions.{Regions, first_regions}

-- What the steps before leave to the next ones: whether it stands in a delay slot, which register was
-- loaded just before (0 for none), and how many more instructions may not touch what was begun (HI and LO
-- after a read of them on MIPS, Y after a write of it on SPARC).
pub record Facts : Type 0 where
  pub in_slot : Bool
  pub loaded : ℕ
  pub wait : ℕ

-- `target` is the target byte. `registers` are the words of the general registers, `special` those of the others.
-- MIPS: `$0` to `$31`; HI, LO. SPARC: the eight globals, then for each window its locals and ins; Y, the
-- condition codes (N, Z, V, C from bit 3 down), the current window, the invalid window.
-- `left` is the input not yet read, `given` how many bytes of input there were in all, `put` the byte that the last
-- step put.
pub record MachineState : Type 0 where
  pub target : ℕ
  pub registers : List ℕ
  pub special : List ℕ
  pub pc : ℕ
  pub next_pc : ℕ
  pub facts : Facts
  pub memory : Regions
  pub left : List ℕ
  pub given : ℕ
  pub put : Option ℕ

-- the byte order of a target
abbrev pub order_of_target : ℕ → Order
order_of_target target = if nat_eq target SPARC then Big else Little

abbrev pub order_of : MachineState → Order
order_of m = order_of_target m.target

-- nothing that an earlier step left
abbrev pub no_facts : Facts
no_facts = record { in_slot = false; loaded = 0; wait = 0 }

-- what earlier steps left, unless pc or next pc is changed to these
abbrev pub kept_facts : (pc next_pc : ℕ) → MachineState → Facts
kept_facts pc next_pc m = if nat_eq pc m.pc && nat_eq next_pc m.next_pc then m.facts else no_facts

-- the machine at an entry, where no step was made and no input given, with its registers, a text, and the bytes that the
-- data begin with
abbrev pub begun : (target : ℕ) → (registers special : List ℕ) → (entry : ℕ) → (text statics : List ℕ) → MachineState
begun target registers special entry text statics = record {
  target = target;
  registers = registers;
  special = special;
  pc = entry;
  next_pc = sum_of entry 4;
  facts = no_facts;
  memory = first_regions text statics;
  left = [];
  given = 0;
  put = None;
}

-- What machines of a target do, as functions of their plain records: a step; the flush of the windows with the save of
-- the context block, and whether it did flush them; the restore; the argument of the last request.
pub record Behaviour : Type 0 where
  pub next : MachineState → Event × MachineState
  pub saved : MachineState → Bool × MachineState
  pub restored : MachineState → MachineState
  pub argument : MachineState → ℕ

-- whether a store was done, and the machine after it
abbrev pub with_memory : Result Regions Outside → MachineState → Bool × MachineState
with_memory (Ok memory) m = (true, record m { memory = memory })
with_memory (Err e) m = (false, m)

-- the machine with more input
abbrev pub with_input : List ℕ → MachineState → MachineState
with_input xs m = record m { left = m.left ++ xs; given = m.given + length xs }

-- whether the input was appended, which is at most 16,777,216 bytes in all, and the machine after it
abbrev pub given_input : List ℕ → MachineState → Bool × MachineState
given_input xs m = if nat_le (m.given + length xs) (2 ^ 24) then (true, with_input xs m) else (false, m)
