-- What fits in the fields of each instruction.
use Rattle.std.specs.Prelude.{◌<◌, ◌^◌}
use Rattle.sparc_isa.specs.declared.operand.Operand.{Operand}
use Rattle.sparc_isa.specs.declared.operand.Operand.TheVariants.{Register, Immediate}
use Rattle.sparc_isa.specs.declared.operand.ShiftOperand.{ShiftOperand}
use Rattle.sparc_isa.specs.declared.operand.ShiftOperand.TheVariants.{Register as ShiftRegister, Immediate as ShiftImmediate}
use Rattle.sparc_isa.specs.declared.operand.TrapOperand.{TrapOperand}
use Rattle.sparc_isa.specs.declared.operand.TrapOperand.TheVariants.{Register as TrapRegister, Immediate as TrapImmediate}
use Rattle.sparc_isa.specs.declared.insn.Insn.{Insn}
use Rattle.sparc_isa.specs.declared.insn.Insn.TheVariants.{Call, Bicc, Sethi, Add, And, Or, Xor, Sub, Andn, Orn, Xnor, Umul, Smul, Udiv, Sdiv, Subcc, Sll, Srl, Sra, Rdy, Wry, Jmpl, Ticc, Save, Restore, Ld, Ldub, Lduh, St, Stb, Sth, Ldsb, Ldsh}

unfoldable pub OperandFits : Operand → Type 0
OperandFits (Register r) = r < 32
OperandFits (Immediate v) = v < 2 ^ 13

unfoldable pub ShiftFits : ShiftOperand → Type 0
ShiftFits (ShiftRegister r) = r < 32
ShiftFits (ShiftImmediate v) = v < 32

unfoldable pub TrapFits : TrapOperand → Type 0
TrapFits (TrapRegister r) = r < 32
TrapFits (TrapImmediate v) = v < 2 ^ 7

-- each field is within its width
unfoldable pub FieldsFit : Insn → Type 0
FieldsFit (Call displacement) = displacement < 2 ^ 30
FieldsFit (Bicc annul condition displacement) = displacement < 2 ^ 22
FieldsFit (Sethi rd immediate) = (rd < 32) × (immediate < 2 ^ 22)
FieldsFit (Add rd rs1 operand) = (rd < 32) × (rs1 < 32) × OperandFits operand
FieldsFit (And rd rs1 operand) = (rd < 32) × (rs1 < 32) × OperandFits operand
FieldsFit (Or rd rs1 operand) = (rd < 32) × (rs1 < 32) × OperandFits operand
FieldsFit (Xor rd rs1 operand) = (rd < 32) × (rs1 < 32) × OperandFits operand
FieldsFit (Sub rd rs1 operand) = (rd < 32) × (rs1 < 32) × OperandFits operand
FieldsFit (Andn rd rs1 operand) = (rd < 32) × (rs1 < 32) × OperandFits operand
FieldsFit (Orn rd rs1 operand) = (rd < 32) × (rs1 < 32) × OperandFits operand
FieldsFit (Xnor rd rs1 operand) = (rd < 32) × (rs1 < 32) × OperandFits operand
FieldsFit (Umul rd rs1 operand) = (rd < 32) × (rs1 < 32) × OperandFits operand
FieldsFit (Smul rd rs1 operand) = (rd < 32) × (rs1 < 32) × OperandFits operand
FieldsFit (Udiv rd rs1 operand) = (rd < 32) × (rs1 < 32) × OperandFits operand
FieldsFit (Sdiv rd rs1 operand) = (rd < 32) × (rs1 < 32) × OperandFits operand
FieldsFit (Subcc rd rs1 operand) = (rd < 32) × (rs1 < 32) × OperandFits operand
FieldsFit (Sll rd rs1 count) = (rd < 32) × (rs1 < 32) × ShiftFits count
FieldsFit (Srl rd rs1 count) = (rd < 32) × (rs1 < 32) × ShiftFits count
FieldsFit (Sra rd rs1 count) = (rd < 32) × (rs1 < 32) × ShiftFits count
FieldsFit (Rdy rd) = rd < 32
FieldsFit (Wry rs1 operand) = (rs1 < 32) × OperandFits operand
FieldsFit (Jmpl rd rs1 operand) = (rd < 32) × (rs1 < 32) × OperandFits operand
FieldsFit (Ticc condition rs1 operand) = (rs1 < 32) × TrapFits operand
FieldsFit (Save rd rs1 operand) = (rd < 32) × (rs1 < 32) × OperandFits operand
FieldsFit (Restore rd rs1 operand) = (rd < 32) × (rs1 < 32) × OperandFits operand
FieldsFit (Ld rd rs1 operand) = (rd < 32) × (rs1 < 32) × OperandFits operand
FieldsFit (Ldub rd rs1 operand) = (rd < 32) × (rs1 < 32) × OperandFits operand
FieldsFit (Lduh rd rs1 operand) = (rd < 32) × (rs1 < 32) × OperandFits operand
FieldsFit (St rd rs1 operand) = (rd < 32) × (rs1 < 32) × OperandFits operand
FieldsFit (Stb rd rs1 operand) = (rd < 32) × (rs1 < 32) × OperandFits operand
FieldsFit (Sth rd rs1 operand) = (rd < 32) × (rs1 < 32) × OperandFits operand
FieldsFit (Ldsb rd rs1 operand) = (rd < 32) × (rs1 < 32) × OperandFits operand
FieldsFit (Ldsh rd rs1 operand) = (rd < 32) × (rs1 < 32) × OperandFits operand
