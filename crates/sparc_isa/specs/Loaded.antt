-- The machine at its start, the context block, and what machines of this target do.
use Rattle.std.specs.Prelude.{ℕ, Bool, ◌+◌, ◌*◌, ◌^◌, ◌/◌, ◌%◌, List, [], ◌∷◌, ◌++◌, replicate, take, drop, slice_set, slice_index}
use Rattle.ldb_words.specs.declared.kinds.Order.TheVariants.{Big}
use Rattle.machine_state.specs.declared.layout.TheConstants.{CONTEXT_WORDS, FIRST_STACK_POINTER, SPARC}
use Rattle.machine_state.specs.Regions.{saved_words, words_in}
use Rattle.machine_state.specs.State.{MachineState, kept_facts, begun, Behaviour}
use Rattle.sparc_isa.specs.Windows.{window_below, y, codes, current, invalid, place_of, register, with_registers, window_place, window_words, flush_of}
use Rattle.sparc_isa.specs.Step.{step_of}

-- the words of all windows and of the globals
abbrev pub REGISTERS : ℕ
REGISTERS = 136

-- the machine at an entry, with a text and the bytes that the data begin with: every register is 0 but the stack pointer
-- of window 0, and window 1 has the WIM bit
unfoldable pub first_state : ℕ → List ℕ → List ℕ → MachineState
first_state entry text statics =
    begun SPARC (slice_set (replicate REGISTERS 0) (place_of 0 14) FIRST_STACK_POINTER) (0 ∷ 0 ∷ 0 ∷ 1 ∷ []) entry text statics

-- ---- the context block: globals, outs, locals, ins; Y; the codes and the current window; pc, next pc

-- the outs of the current window, which are the ins of the one below
abbrev pub outs : MachineState → List ℕ
outs m = take 8 (drop (window_place (window_below (current m)) + 8) m.registers)

-- the codes stand in bits 23 to 20 and the current window in bits 4 to 0, as in the PSR
abbrev pub status_word : MachineState → ℕ
status_word m = codes m * 2 ^ 20 + current m

unfoldable pub block_of : MachineState → List ℕ
block_of m =
    take 8 m.registers
    ++ (outs m ++ (window_words m.registers (current m) ++ (y m ∷ status_word m ∷ m.pc ∷ m.next_pc ∷ [])))

-- the machine with its registers in the context block
unfoldable pub with_block : MachineState → MachineState
with_block m = record m { memory = saved_words Big (block_of m) m.memory }

-- whether the windows could be flushed, and the machine with its registers in the context block, be that as it may
unfoldable pub saved_state : MachineState → Bool × MachineState
saved_state m = let f = flush_of m in (f.0, with_block f.1)

-- the machine with the words behind those of the registers in their places; the current window stays
abbrev pub restored_from : List ℕ → MachineState → MachineState
restored_from ws m = record m {
  special = slice_index ws 32 ∷ slice_index ws 33 / 2 ^ 20 % 16 ∷ current m ∷ invalid m ∷ [];
  pc = slice_index ws 34;
  next_pc = slice_index ws 35;
  facts = kept_facts (slice_index ws 34) (slice_index ws 35) m;
}

-- the machine with the registers of the context block
unfoldable pub restored_state : MachineState → MachineState
restored_state m =
    let ws = words_in Big CONTEXT_WORDS m.memory.context_bytes in
    restored_from ws (with_registers 0 (take 32 ws) m)

-- ---- what machines of this target do

-- the argument of a request stands in `%o0`
abbrev pub sparc_behaviour : Behaviour
sparc_behaviour = record {
  next = step_of;
  saved = saved_state;
  restored = restored_state;
  argument = λ m. register m 8;
}
