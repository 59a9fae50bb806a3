-- The machine at its start, the context block, and what machines of this target do.
use Rattle.std.specs.Prelude.{ℕ, true, List, [], ◌∷◌, ◌++◌, replicate, take, slice_set, slice_index}
use Rattle.ldb_words.specs.declared.kinds.Order.TheVariants.{Little}
use Rattle.machine_state.specs.declared.layout.TheConstants.{CONTEXT_WORDS, FIRST_STACK_POINTER, MIPS}
use Rattle.machine_state.specs.Regions.{saved_words, words_in}
use Rattle.machine_state.specs.State.{MachineState, kept_facts, begun, Behaviour}
use Rattle.mips_isa.specs.Step.{step_of, register}

-- the machine at an entry, with a text and the bytes that the data begin with: every register is 0 but the stack pointer
unfoldable pub first_state : ℕ → List ℕ → List ℕ → MachineState
first_state entry text statics = begun MIPS (slice_set (replicate 32 0) 29 FIRST_STACK_POINTER) (0 ∷ 0 ∷ []) entry text statics

-- ---- the context block: `$0` to `$31`, HI, LO, pc, next pc

-- the machine with its registers in the context block
unfoldable pub saved_state : MachineState → MachineState
saved_state m = record m {
  memory = saved_words Little (m.registers ++ (m.special ++ (m.pc ∷ m.next_pc ∷ []))) m.memory;
}

-- the machine with these words in its registers; `$0` stays 0
abbrev pub restored_from : List ℕ → MachineState → MachineState
restored_from ws m = record m {
  registers = slice_set (take 32 ws) 0 0;
  special = slice_index ws 32 ∷ slice_index ws 33 ∷ [];
  pc = slice_index ws 34;
  next_pc = slice_index ws 35;
  facts = kept_facts (slice_index ws 34) (slice_index ws 35) m;
}

-- the machine with the registers of the context block
unfoldable pub restored_state : MachineState → MachineState
restored_state m = restored_from (words_in Little CONTEXT_WORDS m.memory.context_bytes) m

-- ---- what machines of this target do

-- No window is ever flushed, so a save succeeds. The argument of a request stands in `$4`.
abbrev pub mips_behaviour : Behaviour
mips_behaviour = record {
  next = step_of;
  saved = λ m. (true, saved_state m);
  restored = restored_state;
  argument = λ m. register m 4;
}
