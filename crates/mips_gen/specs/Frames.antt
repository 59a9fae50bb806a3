-- How a function begins and ends on MIPS.
use Rattle.std.specs.Prelude.{ℕ, List, [], ◌∷◌, ◌++◌}
use Rattle.mips_isa.specs.declared.insn.Insn.{Insn}
use Rattle.mips_isa.specs.declared.insn.Insn.TheVariants.{Syscall, Addu, Subu, Sltu, Beq, Addiu, Lw, Sw, Jr}
use Rattle.mips_gen.specs.declared.registers.TheConstants.{LOWEST_STACK_POINTER}
use Rattle.mips_gen.specs.Insns.{no_op, word_insns}

-- the return address at 64 above the stack pointer, and the eight registers of locals from 68 on
abbrev pub saves : List Insn
saves = Sw 31 29 64 ∷ Sw 16 29 68 ∷ Sw 17 29 72 ∷ Sw 18 29 76 ∷ Sw 19 29 80 ∷ Sw 20 29 84 ∷ Sw 21 29 88 ∷ Sw 22 29 92 ∷ Sw 23 29 96 ∷ []

abbrev pub restores : List Insn
restores = Lw 31 29 64 ∷ Lw 16 29 68 ∷ Lw 17 29 72 ∷ Lw 18 29 76 ∷ Lw 19 29 80 ∷ Lw 20 29 84 ∷ Lw 21 29 88 ∷ Lw 22 29 92 ∷ Lw 23 29 96 ∷ no_op ∷ []

-- Where the new stack pointer would lie below the lowest, the request for more stack is made. The branch goes over it, three instructions on from its slot.
abbrev pub prologue : (frame : ℕ) → List Insn
prologue frame =
    word_insns 10 frame ++ (Subu 10 29 10 ∷ [])
    ++ word_insns 11 LOWEST_STACK_POINTER ++ (Sltu 11 10 11 ∷ Beq 11 0 3 ∷ no_op ∷ Addiu 2 0 5 ∷ Syscall ∷ Addu 29 10 0 ∷ [])
    ++ saves

abbrev pub epilogue : (frame : ℕ) → List Insn
epilogue frame = restores ++ word_insns 10 frame ++ (Addu 29 29 10 ∷ Jr 31 ∷ no_op ∷ [])
