-- SPARC as a target of code.
use Rattle.std.specs.Prelude.{ℕ, List, [], ◌∷◌, false}
use Rattle.std.specs.Int.{w32, to_be_bytes}
use Rattle.ldb_words.specs.declared.kinds.Order.TheVariants.{Big}
use Rattle.machine_state.specs.declared.layout.TheConstants.{SPARC}
use Rattle.sparc_isa.specs.declared.condition.Condition.TheVariants as when
use Rattle.sparc_isa.specs.declared.operand.TrapOperand.TheVariants as trap
use Rattle.sparc_isa.specs.declared.insn.Insn.{Insn}
use Rattle.sparc_isa.specs.declared.insn.Insn.TheVariants.{Call, Ticc}
use Rattle.sparc_isa.specs.Codec.{word_of}
use Rattle.gen_parts.specs.Coding.{Coding}
use Rattle.sparc_gen.specs.Insns.{no_op, insns}
use Rattle.sparc_gen.specs.Frames.{prologue}
use Rattle.sparc_gen.specs.Movers.{step_insns, copy_begin, copy_end, choice_insns}

-- `main` is called, and the program exits with what it gives
abbrev pub start_insns : List Insn
start_insns = Call 0 ∷ no_op ∷ Ticc when.Always 0 (trap.Immediate 19) ∷ []

-- The eleventh instruction of a choice jumps, and the fourth of a conditional jump. A function ends with its last operator, since each return leaves it; the windows keep its caller's registers.
abbrev pub sparc : Coding Insn
sparc = record {
  shape = record { target = SPARC; order = Big; choice_jump = 10; jump_word = 3; returns_by_end = false };
  bytes_of = λ i. to_be_bytes w32 (word_of i);
  start = start_insns;
  prologue = prologue;
  operator = insns;
  epilogue = λ frame. [];
  choice = choice_insns;
  copy_begin = copy_begin;
  copy_end = copy_end;
  step = λ back before s. step_insns back s;
  saved = [];
}
