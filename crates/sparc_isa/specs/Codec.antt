-- Instruction words: the SPARC V8 manual, appendix F. A field that an instruction does not use is 0.
use Rattle.std.specs.Prelude.{ℕ, ◌+◌, ◌*◌, ◌^◌, ◌/◌, ◌%◌, nat_eq, if◌then◌else◌, List, [], ◌∷◌, Option, Some}
use Rattle.ldb_words.specs.Word.{bit_of}
use Rattle.machine_state.specs.Codes.{at_code, if_exact}
use Rattle.sparc_isa.specs.declared.operand.Operand.{Operand}
use Rattle.sparc_isa.specs.declared.operand.Operand.TheVariants.{Register, Immediate}
use Rattle.sparc_isa.specs.declared.operand.ShiftOperand.{ShiftOperand}
use Rattle.sparc_isa.specs.declared.operand.ShiftOperand.TheVariants.{Register as ShiftRegister, Immediate as ShiftImmediate}
use Rattle.sparc_isa.specs.declared.operand.TrapOperand.{TrapOperand}
use Rattle.sparc_isa.specs.declared.operand.TrapOperand.TheVariants.{Register as TrapRegister, Immediate as TrapImmediate}
use Rattle.sparc_isa.specs.declared.insn.Insn.{Insn}
use Rattle.sparc_isa.specs.declared.insn.Insn.TheVariants.{Call, Bicc, Sethi, Add, And, Or, Xor, Sub, Andn, Orn, Xnor, Umul, Smul, Udiv, Sdiv, Subcc, Sll, Srl, Sra, Rdy, Wry, Jmpl, Ticc, Save, Restore, Ld, Ldub, Lduh, St, Stb, Sth, Ldsb, Ldsh}
use Rattle.sparc_isa.specs.Condition.{condition_code, condition_of}

-- ---- operands: bit 13 says whether an immediate stands below it, or a register in the lowest 5 bits

unfoldable pub operand_word : Operand → ℕ
operand_word (Register r) = r
operand_word (Immediate v) = 2 ^ 13 + v

unfoldable pub shift_word : ShiftOperand → ℕ
shift_word (ShiftRegister r) = r
shift_word (ShiftImmediate v) = 2 ^ 13 + v

unfoldable pub trap_word : TrapOperand → ℕ
trap_word (TrapRegister r) = r
trap_word (TrapImmediate v) = 2 ^ 13 + v

-- ---- the formats

-- format 1: a call
unfoldable pub call_format : ℕ → ℕ
call_format displacement = 1 * 2 ^ 30 + displacement

-- format 2: 5 bits, an op2 of 3 bits, and 22 bits
unfoldable pub wide_format : ℕ → ℕ → ℕ → ℕ
wide_format five op2 wide = five * 2 ^ 25 + (op2 * 2 ^ 22 + wide)

-- format 3: op 2 or 3, rd, an op3 of 6 bits, rs1, and an operand of 14 bits
unfoldable pub operand_format : ℕ → ℕ → ℕ → ℕ → ℕ → ℕ
operand_format op rd op3 rs1 low = op * 2 ^ 30 + (rd * 2 ^ 25 + (op3 * 2 ^ 19 + (rs1 * 2 ^ 14 + low)))

-- the word of an instruction
unfoldable pub word_of : Insn → ℕ
word_of (Call displacement) = call_format displacement
word_of (Bicc annul condition displacement) = wide_format (bit_of annul * 2 ^ 4 + condition_code condition) 2 displacement
word_of (Sethi rd immediate) = wide_format rd 4 immediate
word_of (Add rd rs1 operand) = operand_format 2 rd 0x00 rs1 (operand_word operand)
word_of (And rd rs1 operand) = operand_format 2 rd 0x01 rs1 (operand_word operand)
word_of (Or rd rs1 operand) = operand_format 2 rd 0x02 rs1 (operand_word operand)
word_of (Xor rd rs1 operand) = operand_format 2 rd 0x03 rs1 (operand_word operand)
word_of (Sub rd rs1 operand) = operand_format 2 rd 0x04 rs1 (operand_word operand)
word_of (Andn rd rs1 operand) = operand_format 2 rd 0x05 rs1 (operand_word operand)
word_of (Orn rd rs1 operand) = operand_format 2 rd 0x06 rs1 (operand_word operand)
word_of (Xnor rd rs1 operand) = operand_format 2 rd 0x07 rs1 (operand_word operand)
word_of (Umul rd rs1 operand) = operand_format 2 rd 0x0a rs1 (operand_word operand)
word_of (Smul rd rs1 operand) = operand_format 2 rd 0x0b rs1 (operand_word operand)
word_of (Udiv rd rs1 operand) = operand_format 2 rd 0x0e rs1 (operand_word operand)
word_of (Sdiv rd rs1 operand) = operand_format 2 rd 0x0f rs1 (operand_word operand)
word_of (Subcc rd rs1 operand) = operand_format 2 rd 0x14 rs1 (operand_word operand)
word_of (Sll rd rs1 count) = operand_format 2 rd 0x25 rs1 (shift_word count)
word_of (Srl rd rs1 count) = operand_format 2 rd 0x26 rs1 (shift_word count)
word_of (Sra rd rs1 count) = operand_format 2 rd 0x27 rs1 (shift_word count)
word_of (Rdy rd) = operand_format 2 rd 0x28 0 0
word_of (Wry rs1 operand) = operand_format 2 0 0x30 rs1 (operand_word operand)
word_of (Jmpl rd rs1 operand) = operand_format 2 rd 0x38 rs1 (operand_word operand)
word_of (Ticc condition rs1 operand) = operand_format 2 (condition_code condition) 0x3a rs1 (trap_word operand)
word_of (Save rd rs1 operand) = operand_format 2 rd 0x3c rs1 (operand_word operand)
word_of (Restore rd rs1 operand) = operand_format 2 rd 0x3d rs1 (operand_word operand)
word_of (Ld rd rs1 operand) = operand_format 3 rd 0x00 rs1 (operand_word operand)
word_of (Ldub rd rs1 operand) = operand_format 3 rd 0x01 rs1 (operand_word operand)
word_of (Lduh rd rs1 operand) = operand_format 3 rd 0x02 rs1 (operand_word operand)
word_of (St rd rs1 operand) = operand_format 3 rd 0x04 rs1 (operand_word operand)
word_of (Stb rd rs1 operand) = operand_format 3 rd 0x05 rs1 (operand_word operand)
word_of (Sth rd rs1 operand) = operand_format 3 rd 0x06 rs1 (operand_word operand)
word_of (Ldsb rd rs1 operand) = operand_format 3 rd 0x09 rs1 (operand_word operand)
word_of (Ldsh rd rs1 operand) = operand_format 3 rd 0x0a rs1 (operand_word operand)

-- ---- the fields of a word

abbrev pub op_of : ℕ → ℕ
op_of w = w / 2 ^ 30

abbrev pub displacement_of : ℕ → ℕ
displacement_of w = w % 2 ^ 30

-- rd, or the annul bit and the condition
abbrev pub five_of : ℕ → ℕ
five_of w = w / 2 ^ 25 % 2 ^ 5

abbrev pub op2_of : ℕ → ℕ
op2_of w = w / 2 ^ 22 % 2 ^ 3

abbrev pub wide_of : ℕ → ℕ
wide_of w = w % 2 ^ 22

abbrev pub op3_of : ℕ → ℕ
op3_of w = w / 2 ^ 19 % 2 ^ 6

abbrev pub rs1_of : ℕ → ℕ
rs1_of w = w / 2 ^ 14 % 2 ^ 5

-- bit 13 and what stands below it
abbrev pub low_of : ℕ → ℕ
low_of w = w % 2 ^ 14

unfoldable pub operand_of : ℕ → Operand
operand_of low = if nat_eq (low / 2 ^ 13 % 2) 0 then Register (low % 2 ^ 5) else Immediate (low % 2 ^ 13)

unfoldable pub shift_of : ℕ → ShiftOperand
shift_of low = if nat_eq (low / 2 ^ 13 % 2) 0 then ShiftRegister (low % 2 ^ 5) else ShiftImmediate (low % 2 ^ 5)

unfoldable pub trap_of : ℕ → TrapOperand
trap_of low = if nat_eq (low / 2 ^ 13 % 2) 0 then TrapRegister (low % 2 ^ 5) else TrapImmediate (low % 2 ^ 7)

-- ---- the tables

-- op 0, by op2; 0 is UNIMP, which is illegal
unfoldable pub wide_insn : ℕ → ℕ → ℕ → Option Insn
wide_insn five op2 wide =
    at_code op2 (
    (2, Bicc (nat_eq (five / 2 ^ 4) 1) (condition_of (five % 2 ^ 4)) wide) ∷
    (4, Sethi five wide) ∷
    [])

-- op 2, by op3
unfoldable pub arithmetic_insn : ℕ → ℕ → ℕ → ℕ → Option Insn
arithmetic_insn rd op3 rs1 low =
    at_code op3 (
    (0x00, Add rd rs1 (operand_of low)) ∷
    (0x01, And rd rs1 (operand_of low)) ∷
    (0x02, Or rd rs1 (operand_of low)) ∷
    (0x03, Xor rd rs1 (operand_of low)) ∷
    (0x04, Sub rd rs1 (operand_of low)) ∷
    (0x05, Andn rd rs1 (operand_of low)) ∷
    (0x06, Orn rd rs1 (operand_of low)) ∷
    (0x07, Xnor rd rs1 (operand_of low)) ∷
    (0x0a, Umul rd rs1 (operand_of low)) ∷
    (0x0b, Smul rd rs1 (operand_of low)) ∷
    (0x0e, Udiv rd rs1 (operand_of low)) ∷
    (0x0f, Sdiv rd rs1 (operand_of low)) ∷
    (0x14, Subcc rd rs1 (operand_of low)) ∷
    (0x25, Sll rd rs1 (shift_of low)) ∷
    (0x26, Srl rd rs1 (shift_of low)) ∷
    (0x27, Sra rd rs1 (shift_of low)) ∷
    (0x28, Rdy rd) ∷
    (0x30, Wry rs1 (operand_of low)) ∷
    (0x38, Jmpl rd rs1 (operand_of low)) ∷
    (0x3a, Ticc (condition_of (rd % 2 ^ 4)) rs1 (trap_of low)) ∷
    (0x3c, Save rd rs1 (operand_of low)) ∷
    (0x3d, Restore rd rs1 (operand_of low)) ∷
    [])

-- op 3, by op3
unfoldable pub memory_insn : ℕ → ℕ → ℕ → ℕ → Option Insn
memory_insn rd op3 rs1 low =
    at_code op3 (
    (0x00, Ld rd rs1 (operand_of low)) ∷
    (0x01, Ldub rd rs1 (operand_of low)) ∷
    (0x02, Lduh rd rs1 (operand_of low)) ∷
    (0x04, St rd rs1 (operand_of low)) ∷
    (0x05, Stb rd rs1 (operand_of low)) ∷
    (0x06, Sth rd rs1 (operand_of low)) ∷
    (0x09, Ldsb rd rs1 (operand_of low)) ∷
    (0x0a, Ldsh rd rs1 (operand_of low)) ∷
    [])

-- the instruction that a word's codes name, whatever stands in the fields that it does not use
unfoldable pub named_insn : ℕ → Option Insn
named_insn w =
    if nat_eq (op_of w) 0 then wide_insn (five_of w) (op2_of w) (wide_of w) else
    if nat_eq (op_of w) 1 then Some (Call (displacement_of w)) else
    if nat_eq (op_of w) 2 then arithmetic_insn (five_of w) (op3_of w) (rs1_of w) (low_of w) else
    memory_insn (five_of w) (op3_of w) (rs1_of w) (low_of w)

-- the instruction of a word, or none: the unused fields are zero
unfoldable pub insn_of : ℕ → Option Insn
insn_of w = if_exact word_of w (named_insn w)
