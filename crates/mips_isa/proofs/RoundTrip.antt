-- Words and instructions are one another's.
use Rattle.std.specs.Prelude.{◌≡◌, ℕ, ◌<◌, ◌^◌, nat_eq, nat_lt, true, false, cond, Option, Some, None, IfSome, refl}
use Rattle.std.proofs.Common.{ap, eq-eqb, eqb→eq, lit<, arith}
use Rattle.machine_state.proofs.Codes.{exact_of, if_exact-word_of}
use Rattle.mips_isa.specs.declared.insn.Insn.{Insn}
use Rattle.mips_isa.specs.declared.insn.Insn.TheVariants.{Sll, Srl, Sra, Sllv, Srlv, Srav, Jr, Jalr, Syscall, Break, Mfhi, Mthi, Mflo, Mtlo, Mult, Multu, Div, Divu, Addu, Subu, And, Or, Xor, Nor, Slt, Sltu, Bltz, Bgez, J, Jal, Beq, Bne, Blez, Bgtz, Addiu, Slti, Sltiu, Andi, Ori, Xori, Lui, Lb, Lh, Lw, Lbu, Lhu, Sb, Sh, Sw}
use Rattle.std.proofs.lemmas.Bool.Decides.{nat_tests}
use Rattle.mips_isa.specs.Codec.{special, with_immediate, with_target, word_of, op_of, special_insn, branch_insn, jump_insn, immediate_insn, named_insn, insn_of}
use Rattle.mips_isa.specs.Fit.{FieldsFit}
use Rattle.mips_isa.proofs.Fields.{op_of-special, rs_of-special, rt_of-special, rd_of-special, shamt_of-special, funct_of-special, op_of-with_immediate, rs_of-with_immediate, rt_of-with_immediate, immediate_of-with_immediate, op_of-with_target, target_of-with_target}

-- a word that names an instruction, and is its word
exact : (w : ℕ) (i : Insn) → named_insn w ≡ Some i → word_of i ≡ w → insn_of w ≡ Some i
unfolding insn_of
exact w i named same = rw named (exact_of word_of w i same)

module _ (rs rt rd shamt funct : ℕ) (a : rs < 32) (b : rt < 32) (c : rd < 32) (d : shamt < 32) (e : funct < 64) (i : Insn) where
  from_special : special_insn rs rt rd shamt funct ≡ Some i → word_of i ≡ special rs rt rd shamt funct → insn_of (word_of i) ≡ Some i
  unfolding named_insn
  from_special named same =
      rw same
      (exact (special rs rt rd shamt funct) i
      (rw (
        op_of-special rs rt rd shamt funct a b c d e,
        rs_of-special rs rt rd shamt funct a b c d e,
        rt_of-special rs rt rd shamt funct a b c d e,
        rd_of-special rs rt rd shamt funct a b c d e,
        shamt_of-special rs rt rd shamt funct a b c d e,
        funct_of-special rs rt rd shamt funct a b c d e,
      )
      named)
      same)

module _ (op rs rt immediate : ℕ) (a : rs < 32) (b : rt < 32) (c : immediate < 2 ^ 16) (i : Insn) where
  from_branch : op ≡ 1 → branch_insn rs rt immediate ≡ Some i → word_of i ≡ with_immediate op rs rt immediate → insn_of (word_of i) ≡ Some i
  unfolding named_insn
  from_branch is_branch named same =
      rw same
      (exact (with_immediate op rs rt immediate) i
      (rw (
        op_of-with_immediate op rs rt immediate a b c,
        rs_of-with_immediate op rs rt immediate a b c,
        rt_of-with_immediate op rs rt immediate a b c,
        immediate_of-with_immediate op rs rt immediate a b c,
        is_branch,
      )
      named)
      same)

  from_immediate : nat_lt 3 op ≡ true → immediate_insn op rs rt immediate ≡ Some i → word_of i ≡ with_immediate op rs rt immediate → insn_of (word_of i) ≡ Some i
  unfolding named_insn
  from_immediate above named same =
      let e : op_of (with_immediate op rs rt immediate) ≡ op = op_of-with_immediate op rs rt immediate a b c in
      let not_special : nat_eq op 0 ≡ false = grind (arith, nat_tests) in
      let not_branch : nat_eq op 1 ≡ false = grind (arith, nat_tests) in
      let not_jump : nat_lt op 4 ≡ false = grind (arith, nat_tests) in
      rw same
      (exact (with_immediate op rs rt immediate) i
      (rw (
        e,
        not_special,
        not_branch,
        not_jump,
        rs_of-with_immediate op rs rt immediate a b c,
        rt_of-with_immediate op rs rt immediate a b c,
        immediate_of-with_immediate op rs rt immediate a b c,
      )
      named)
      same)

module _ (op target : ℕ) (a : target < 2 ^ 26) (i : Insn) where
  from_target : nat_eq op 0 ≡ false → nat_eq op 1 ≡ false → nat_lt op 4 ≡ true → jump_insn op target ≡ Some i → word_of i ≡ with_target op target → insn_of (word_of i) ≡ Some i
  unfolding named_insn
  from_target not_special not_branch is_jump named same =
      rw same
      (exact (with_target op target) i
      (rw (op_of-with_target op target a, not_special, not_branch, is_jump, target_of-with_target op target a) named)
      same)

-- the word of an instruction names it
pub insn_of-word_of : (i : Insn) → FieldsFit i → insn_of (word_of i) ≡ Some i
unfolding FieldsFit word_of special_insn branch_insn jump_insn immediate_insn
insn_of-word_of (Sll rd rt shamt) f = from_special 0 rt rd shamt 0x00 (lit< tt) f.1 f.0 f.2 (lit< tt) (Sll rd rt shamt) refl refl
insn_of-word_of (Srl rd rt shamt) f = from_special 0 rt rd shamt 0x02 (lit< tt) f.1 f.0 f.2 (lit< tt) (Srl rd rt shamt) refl refl
insn_of-word_of (Sra rd rt shamt) f = from_special 0 rt rd shamt 0x03 (lit< tt) f.1 f.0 f.2 (lit< tt) (Sra rd rt shamt) refl refl
insn_of-word_of (Sllv rd rt rs) f = from_special rs rt rd 0 0x04 f.2 f.1 f.0 (lit< tt) (lit< tt) (Sllv rd rt rs) refl refl
insn_of-word_of (Srlv rd rt rs) f = from_special rs rt rd 0 0x06 f.2 f.1 f.0 (lit< tt) (lit< tt) (Srlv rd rt rs) refl refl
insn_of-word_of (Srav rd rt rs) f = from_special rs rt rd 0 0x07 f.2 f.1 f.0 (lit< tt) (lit< tt) (Srav rd rt rs) refl refl
insn_of-word_of (Jr rs) f = from_special rs 0 0 0 0x08 f (lit< tt) (lit< tt) (lit< tt) (lit< tt) (Jr rs) refl refl
insn_of-word_of (Jalr rd rs) f = from_special rs 0 rd 0 0x09 f.1 (lit< tt) f.0 (lit< tt) (lit< tt) (Jalr rd rs) refl refl
insn_of-word_of Syscall f = from_special 0 0 0 0 0x0c (lit< tt) (lit< tt) (lit< tt) (lit< tt) (lit< tt) Syscall refl refl
insn_of-word_of Break f = from_special 0 0 0 0 0x0d (lit< tt) (lit< tt) (lit< tt) (lit< tt) (lit< tt) Break refl refl
insn_of-word_of (Mfhi rd) f = from_special 0 0 rd 0 0x10 (lit< tt) (lit< tt) f (lit< tt) (lit< tt) (Mfhi rd) refl refl
insn_of-word_of (Mthi rs) f = from_special rs 0 0 0 0x11 f (lit< tt) (lit< tt) (lit< tt) (lit< tt) (Mthi rs) refl refl
insn_of-word_of (Mflo rd) f = from_special 0 0 rd 0 0x12 (lit< tt) (lit< tt) f (lit< tt) (lit< tt) (Mflo rd) refl refl
insn_of-word_of (Mtlo rs) f = from_special rs 0 0 0 0x13 f (lit< tt) (lit< tt) (lit< tt) (lit< tt) (Mtlo rs) refl refl
insn_of-word_of (Mult rs rt) f = from_special rs rt 0 0 0x18 f.0 f.1 (lit< tt) (lit< tt) (lit< tt) (Mult rs rt) refl refl
insn_of-word_of (Multu rs rt) f = from_special rs rt 0 0 0x19 f.0 f.1 (lit< tt) (lit< tt) (lit< tt) (Multu rs rt) refl refl
insn_of-word_of (Div rs rt) f = from_special rs rt 0 0 0x1a f.0 f.1 (lit< tt) (lit< tt) (lit< tt) (Div rs rt) refl refl
insn_of-word_of (Divu rs rt) f = from_special rs rt 0 0 0x1b f.0 f.1 (lit< tt) (lit< tt) (lit< tt) (Divu rs rt) refl refl
insn_of-word_of (Addu rd rs rt) f = from_special rs rt rd 0 0x21 f.1 f.2 f.0 (lit< tt) (lit< tt) (Addu rd rs rt) refl refl
insn_of-word_of (Subu rd rs rt) f = from_special rs rt rd 0 0x23 f.1 f.2 f.0 (lit< tt) (lit< tt) (Subu rd rs rt) refl refl
insn_of-word_of (And rd rs rt) f = from_special rs rt rd 0 0x24 f.1 f.2 f.0 (lit< tt) (lit< tt) (And rd rs rt) refl refl
insn_of-word_of (Or rd rs rt) f = from_special rs rt rd 0 0x25 f.1 f.2 f.0 (lit< tt) (lit< tt) (Or rd rs rt) refl refl
insn_of-word_of (Xor rd rs rt) f = from_special rs rt rd 0 0x26 f.1 f.2 f.0 (lit< tt) (lit< tt) (Xor rd rs rt) refl refl
insn_of-word_of (Nor rd rs rt) f = from_special rs rt rd 0 0x27 f.1 f.2 f.0 (lit< tt) (lit< tt) (Nor rd rs rt) refl refl
insn_of-word_of (Slt rd rs rt) f = from_special rs rt rd 0 0x2a f.1 f.2 f.0 (lit< tt) (lit< tt) (Slt rd rs rt) refl refl
insn_of-word_of (Sltu rd rs rt) f = from_special rs rt rd 0 0x2b f.1 f.2 f.0 (lit< tt) (lit< tt) (Sltu rd rs rt) refl refl
insn_of-word_of (Bltz rs offset) f = from_branch 1 rs 0 offset f.0 (lit< tt) f.1 (Bltz rs offset) refl refl refl
insn_of-word_of (Bgez rs offset) f = from_branch 1 rs 1 offset f.0 (lit< tt) f.1 (Bgez rs offset) refl refl refl
insn_of-word_of (J target) f = from_target 2 target f (J target) refl refl refl refl refl
insn_of-word_of (Jal target) f = from_target 3 target f (Jal target) refl refl refl refl refl
insn_of-word_of (Beq rs rt offset) f = from_immediate 0x04 rs rt offset f.0 f.1 f.2 (Beq rs rt offset) refl refl refl
insn_of-word_of (Bne rs rt offset) f = from_immediate 0x05 rs rt offset f.0 f.1 f.2 (Bne rs rt offset) refl refl refl
insn_of-word_of (Blez rs offset) f = from_immediate 0x06 rs 0 offset f.0 (lit< tt) f.1 (Blez rs offset) refl refl refl
insn_of-word_of (Bgtz rs offset) f = from_immediate 0x07 rs 0 offset f.0 (lit< tt) f.1 (Bgtz rs offset) refl refl refl
insn_of-word_of (Addiu rt rs immediate) f = from_immediate 0x09 rs rt immediate f.1 f.0 f.2 (Addiu rt rs immediate) refl refl refl
insn_of-word_of (Slti rt rs immediate) f = from_immediate 0x0a rs rt immediate f.1 f.0 f.2 (Slti rt rs immediate) refl refl refl
insn_of-word_of (Sltiu rt rs immediate) f = from_immediate 0x0b rs rt immediate f.1 f.0 f.2 (Sltiu rt rs immediate) refl refl refl
insn_of-word_of (Andi rt rs immediate) f = from_immediate 0x0c rs rt immediate f.1 f.0 f.2 (Andi rt rs immediate) refl refl refl
insn_of-word_of (Ori rt rs immediate) f = from_immediate 0x0d rs rt immediate f.1 f.0 f.2 (Ori rt rs immediate) refl refl refl
insn_of-word_of (Xori rt rs immediate) f = from_immediate 0x0e rs rt immediate f.1 f.0 f.2 (Xori rt rs immediate) refl refl refl
insn_of-word_of (Lui rt immediate) f = from_immediate 0x0f 0 rt immediate (lit< tt) f.0 f.1 (Lui rt immediate) refl refl refl
insn_of-word_of (Lb rt base offset) f = from_immediate 0x20 base rt offset f.1 f.0 f.2 (Lb rt base offset) refl refl refl
insn_of-word_of (Lh rt base offset) f = from_immediate 0x21 base rt offset f.1 f.0 f.2 (Lh rt base offset) refl refl refl
insn_of-word_of (Lw rt base offset) f = from_immediate 0x23 base rt offset f.1 f.0 f.2 (Lw rt base offset) refl refl refl
insn_of-word_of (Lbu rt base offset) f = from_immediate 0x24 base rt offset f.1 f.0 f.2 (Lbu rt base offset) refl refl refl
insn_of-word_of (Lhu rt base offset) f = from_immediate 0x25 base rt offset f.1 f.0 f.2 (Lhu rt base offset) refl refl refl
insn_of-word_of (Sb rt base offset) f = from_immediate 0x28 base rt offset f.1 f.0 f.2 (Sb rt base offset) refl refl refl
insn_of-word_of (Sh rt base offset) f = from_immediate 0x29 base rt offset f.1 f.0 f.2 (Sh rt base offset) refl refl refl
insn_of-word_of (Sw rt base offset) f = from_immediate 0x2b base rt offset f.1 f.0 f.2 (Sw rt base offset) refl refl refl

-- the instruction of a word has that word
pub word_of-insn_of : (w : ℕ) → IfSome (insn_of w) (λ i. word_of i ≡ w)
unfolding insn_of
word_of-insn_of w = if_exact-word_of word_of w (named_insn w)
