-- MIPS as a target of code.
use Rattle.std.specs.Prelude.{ℕ, List, [], ◌∷◌, true}
use Rattle.std.specs.Int.{w32, to_le_bytes}
use Rattle.ldb_words.specs.declared.kinds.Order.TheVariants.{Little}
use Rattle.machine_state.specs.declared.layout.TheConstants.{MIPS}
use Rattle.mips_isa.specs.declared.insn.Insn.{Insn}
use Rattle.mips_isa.specs.declared.insn.Insn.TheVariants.{Addu, Jal, Addiu, Syscall}
use Rattle.mips_isa.specs.Codec.{word_of}
use Rattle.gen_parts.specs.Coding.{Coding}
use Rattle.mips_gen.specs.Insns.{no_op, insns}
use Rattle.mips_gen.specs.Frames.{prologue, epilogue}
use Rattle.mips_gen.specs.Movers.{step_insns, copy_begin, copy_end, choice_insns}

-- `main` is called, and the program exits with what it gives
abbrev pub start_insns : List Insn
start_insns = Jal 0 ∷ no_op ∷ Addu 4 2 0 ∷ Addiu 2 0 3 ∷ Syscall ∷ []

-- each register that a function saves, with its distance from the stack pointer
abbrev pub saved_registers : List (ℕ × ℕ)
saved_registers = (31, 64) ∷ (16, 68) ∷ (17, 72) ∷ (18, 76) ∷ (19, 80) ∷ (20, 84) ∷ (21, 88) ∷ (22, 92) ∷ (23, 96) ∷ []

-- The ninth instruction of a choice jumps, and the third of a conditional jump; a return jumps to the function's end.
abbrev pub mips : Coding Insn
mips = record {
  shape = record { target = MIPS; order = Little; choice_jump = 8; jump_word = 2; returns_by_end = true };
  bytes_of = λ i. to_le_bytes w32 (word_of i);
  start = start_insns;
  prologue = prologue;
  operator = insns;
  epilogue = epilogue;
  choice = choice_insns;
  copy_begin = copy_begin;
  copy_end = copy_end;
  step = step_insns;
  saved = saved_registers;
}
