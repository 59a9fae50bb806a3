-- What fits in the fields of each instruction.
use Rattle.std.specs.Prelude.{◌<◌, ◌^◌}
use Rattle.mips_isa.specs.declared.insn.Insn.{Insn}
use Rattle.mips_isa.specs.declared.insn.Insn.TheVariants.{Sll, Srl, Sra, Sllv, Srlv, Srav, Jr, Jalr, Syscall, Break, Mfhi, Mthi, Mflo, Mtlo, Mult, Multu, Div, Divu, Addu, Subu, And, Or, Xor, Nor, Slt, Sltu, Bltz, Bgez, J, Jal, Beq, Bne, Blez, Bgtz, Addiu, Slti, Sltiu, Andi, Ori, Xori, Lui, Lb, Lh, Lw, Lbu, Lhu, Sb, Sh, Sw}

-- each field is within its width
unfoldable pub FieldsFit : Insn → Type 0
FieldsFit (Sll rd rt shamt) = (rd < 32) × (rt < 32) × (shamt < 32)
FieldsFit (Srl rd rt shamt) = (rd < 32) × (rt < 32) × (shamt < 32)
FieldsFit (Sra rd rt shamt) = (rd < 32) × (rt < 32) × (shamt < 32)
FieldsFit (Sllv rd rt rs) = (rd < 32) × (rt < 32) × (rs < 32)
FieldsFit (Srlv rd rt rs) = (rd < 32) × (rt < 32) × (rs < 32)
FieldsFit (Srav rd rt rs) = (rd < 32) × (rt < 32) × (rs < 32)
FieldsFit (Jr rs) = rs < 32
FieldsFit (Jalr rd rs) = (rd < 32) × (rs < 32)
FieldsFit Syscall = Unit {0}
FieldsFit Break = Unit {0}
FieldsFit (Mfhi rd) = rd < 32
FieldsFit (Mthi rs) = rs < 32
FieldsFit (Mflo rd) = rd < 32
FieldsFit (Mtlo rs) = rs < 32
FieldsFit (Mult rs rt) = (rs < 32) × (rt < 32)
FieldsFit (Multu rs rt) = (rs < 32) × (rt < 32)
FieldsFit (Div rs rt) = (rs < 32) × (rt < 32)
FieldsFit (Divu rs rt) = (rs < 32) × (rt < 32)
FieldsFit (Addu rd rs rt) = (rd < 32) × (rs < 32) × (rt < 32)
FieldsFit (Subu rd rs rt) = (rd < 32) × (rs < 32) × (rt < 32)
FieldsFit (And rd rs rt) = (rd < 32) × (rs < 32) × (rt < 32)
FieldsFit (Or rd rs rt) = (rd < 32) × (rs < 32) × (rt < 32)
FieldsFit (Xor rd rs rt) = (rd < 32) × (rs < 32) × (rt < 32)
FieldsFit (Nor rd rs rt) = (rd < 32) × (rs < 32) × (rt < 32)
FieldsFit (Slt rd rs rt) = (rd < 32) × (rs < 32) × (rt < 32)
FieldsFit (Sltu rd rs rt) = (rd < 32) × (rs < 32) × (rt < 32)
FieldsFit (Bltz rs offset) = (rs < 32) × (offset < 2 ^ 16)
FieldsFit (Bgez rs offset) = (rs < 32) × (offset < 2 ^ 16)
FieldsFit (J target) = target < 2 ^ 26
FieldsFit (Jal target) = target < 2 ^ 26
FieldsFit (Beq rs rt offset) = (rs < 32) × (rt < 32) × (offset < 2 ^ 16)
FieldsFit (Bne rs rt offset) = (rs < 32) × (rt < 32) × (offset < 2 ^ 16)
FieldsFit (Blez rs offset) = (rs < 32) × (offset < 2 ^ 16)
FieldsFit (Bgtz rs offset) = (rs < 32) × (offset < 2 ^ 16)
FieldsFit (Addiu rt rs immediate) = (rt < 32) × (rs < 32) × (immediate < 2 ^ 16)
FieldsFit (Slti rt rs immediate) = (rt < 32) × (rs < 32) × (immediate < 2 ^ 16)
FieldsFit (Sltiu rt rs immediate) = (rt < 32) × (rs < 32) × (immediate < 2 ^ 16)
FieldsFit (Andi rt rs immediate) = (rt < 32) × (rs < 32) × (immediate < 2 ^ 16)
FieldsFit (Ori rt rs immediate) = (rt < 32) × (rs < 32) × (immediate < 2 ^ 16)
FieldsFit (Xori rt rs immediate) = (rt < 32) × (rs < 32) × (immediate < 2 ^ 16)
FieldsFit (Lui rt immediate) = (rt < 32) × (immediate < 2 ^ 16)
FieldsFit (Lb rt base offset) = (rt < 32) × (base < 32) × (offset < 2 ^ 16)
FieldsFit (Lh rt base offset) = (rt < 32) × (base < 32) × (offset < 2 ^ 16)
FieldsFit (Lw rt base offset) = (rt < 32) × (base < 32) × (offset < 2 ^ 16)
FieldsFit (Lbu rt base offset) = (rt < 32) × (base < 32) × (offset < 2 ^ 16)
FieldsFit (Lhu rt base offset) = (rt < 32) × (base < 32) × (offset < 2 ^ 16)
FieldsFit (Sb rt base offset) = (rt < 32) × (base < 32) × (offset < 2 ^ 16)
FieldsFit (Sh rt base offset) = (rt < 32) × (base < 32) × (offset < 2 ^ 16)
FieldsFit (Sw rt base offset) = (rt < 32) × (base < 32) × (offset < 2 ^ 16)
