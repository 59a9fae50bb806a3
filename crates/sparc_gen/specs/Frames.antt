-- How a function begins on SPARC.
use Rattle.std.specs.Prelude.{ℕ, List, [], ◌∷◌, ◌++◌, false}
use Rattle.sparc_isa.specs.declared.condition.Condition.TheVariants as when
use Rattle.sparc_isa.specs.declared.operand.Operand.TheVariants.{Register}
use Rattle.sparc_isa.specs.declared.operand.TrapOperand.TheVariants as trap
use Rattle.sparc_isa.specs.declared.insn.Insn.{Insn}
use Rattle.sparc_isa.specs.declared.insn.Insn.TheVariants.{Bicc, Add, Sub, Subcc, Ticc, Save}
use Rattle.sparc_gen.specs.Insns.{no_op, word_insns}

-- minus the frame's bytes in `%g1`, and the new stack pointer in `%g2`
abbrev pub below_insns : (frame : ℕ) → List Insn
below_insns frame = word_insns 1 frame ++ Sub 1 0 (Register 1) ∷ Add 2 14 (Register 1) ∷ []

-- Where the new stack pointer would lie below the lowest, 2146369792, the request for more stack is made. The branch, by three instructions from itself, goes over it.
abbrev pub room_insns : List Insn
room_insns = word_insns 3 2146369792 ++ Subcc 0 2 (Register 3) ∷ Bicc false when.CarryClear 3 ∷ no_op ∷ Ticc when.Always 0 (trap.Immediate 21) ∷ []

abbrev pub prologue : (frame : ℕ) → List Insn
prologue frame = below_insns frame ++ room_insns ++ Save 14 14 (Register 1) ∷ []
