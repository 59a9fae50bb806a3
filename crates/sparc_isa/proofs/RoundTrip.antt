-- Words and instructions are one another's.
use Rattle.std.specs.Prelude.{◌≡◌, ℕ, ◌+◌, ◌*◌, ◌/◌, ◌%◌, ◌<◌, ◌^◌, nat_eq, Bool, true, false, Option, Some, IfSome, refl}
use Rattle.std.proofs.Common.{ap, lit<, arith}
use Rattle.ldb_words.specs.Word.{bit_of}
use Rattle.sparc_isa.specs.declared.operand.Operand.{Operand}
use Rattle.sparc_isa.specs.declared.operand.Operand.TheVariants.{Register, Immediate}
use Rattle.sparc_isa.specs.declared.operand.ShiftOperand.{ShiftOperand}
use Rattle.sparc_isa.specs.declared.operand.ShiftOperand.TheVariants.{Register as ShiftRegister, Immediate as ShiftImmediate}
use Rattle.sparc_isa.specs.declared.operand.TrapOperand.{TrapOperand}
use Rattle.sparc_isa.specs.declared.operand.TrapOperand.TheVariants.{Register as TrapRegister, Immediate as TrapImmediate}
use Rattle.sparc_isa.specs.declared.condition.Condition.{Condition}
use Rattle.sparc_isa.specs.declared.condition.Condition.TheVariants.{Never, Equal, LessOrEqual, Less, LessOrEqualUnsigned, CarrySet, Negative, OverflowSet, Always, NotEqual, Greater, GreaterOrEqual, GreaterUnsigned, CarryClear, Positive, OverflowClear}
use Rattle.sparc_isa.specs.declared.insn.Insn.{Insn}
use Rattle.sparc_isa.specs.declared.insn.Insn.TheVariants.{Call, Bicc, Sethi, Add, And, Or, Xor, Sub, Andn, Orn, Xnor, Umul, Smul, Udiv, Sdiv, Subcc, Sll, Srl, Sra, Rdy, Wry, Jmpl, Ticc, Save, Restore, Ld, Ldub, Lduh, St, Stb, Sth, Ldsb, Ldsh}
use Rattle.sparc_isa.specs.Condition.{condition_code, condition_of}
use Rattle.sparc_isa.specs.Codec.{operand_word, shift_word, trap_word, call_format, wide_format, operand_format, word_of, op_of, displacement_of, five_of, op2_of, wide_of, op3_of, rs1_of, low_of, operand_of, shift_of, trap_of, wide_insn, arithmetic_insn, memory_insn, named_insn, insn_of}
use Rattle.sparc_isa.specs.Fit.{OperandFits, ShiftFits, TrapFits, FieldsFit}
use Rattle.machine_state.proofs.Codes.{exact_of, if_exact-word_of}

-- ---- operands

operand_word_lt : (o : Operand) → OperandFits o → operand_word o < 2 ^ 14
unfolding operand_word OperandFits
operand_word_lt (Register r) f = omega arith
operand_word_lt (Immediate v) f = omega arith

operand_of-word : (o : Operand) → OperandFits o → operand_of (operand_word o) ≡ o
unfolding operand_word operand_of OperandFits
operand_of-word (Register r) f =
    let bit : r / 2 ^ 13 % 2 ≡ 0 = omega arith in
    let low : r % 2 ^ 5 ≡ r = omega arith in
    rw (bit, low) refl
operand_of-word (Immediate v) f =
    let bit : (2 ^ 13 + v) / 2 ^ 13 % 2 ≡ 1 = omega arith in
    let low : (2 ^ 13 + v) % 2 ^ 13 ≡ v = omega arith in
    rw (bit, low) refl

shift_word_lt : (o : ShiftOperand) → ShiftFits o → shift_word o < 2 ^ 14
unfolding shift_word ShiftFits
shift_word_lt (ShiftRegister r) f = omega arith
shift_word_lt (ShiftImmediate v) f = omega arith

shift_of-word : (o : ShiftOperand) → ShiftFits o → shift_of (shift_word o) ≡ o
unfolding shift_word shift_of ShiftFits
shift_of-word (ShiftRegister r) f =
    let bit : r / 2 ^ 13 % 2 ≡ 0 = omega arith in
    let low : r % 2 ^ 5 ≡ r = omega arith in
    rw (bit, low) refl
shift_of-word (ShiftImmediate v) f =
    let bit : (2 ^ 13 + v) / 2 ^ 13 % 2 ≡ 1 = omega arith in
    let low : (2 ^ 13 + v) % 2 ^ 5 ≡ v = omega arith in
    rw (bit, low) refl

trap_word_lt : (o : TrapOperand) → TrapFits o → trap_word o < 2 ^ 14
unfolding trap_word TrapFits
trap_word_lt (TrapRegister r) f = omega arith
trap_word_lt (TrapImmediate v) f = omega arith

trap_of-word : (o : TrapOperand) → TrapFits o → trap_of (trap_word o) ≡ o
unfolding trap_word trap_of TrapFits
trap_of-word (TrapRegister r) f =
    let bit : r / 2 ^ 13 % 2 ≡ 0 = omega arith in
    let low : r % 2 ^ 5 ≡ r = omega arith in
    rw (bit, low) refl
trap_of-word (TrapImmediate v) f =
    let bit : (2 ^ 13 + v) / 2 ^ 13 % 2 ≡ 1 = omega arith in
    let low : (2 ^ 13 + v) % 2 ^ 7 ≡ v = omega arith in
    rw (bit, low) refl

-- ---- conditions

condition_code_lt : (c : Condition) → condition_code c < 16
unfolding condition_code
condition_code_lt Never = lit< tt
condition_code_lt Equal = lit< tt
condition_code_lt LessOrEqual = lit< tt
condition_code_lt Less = lit< tt
condition_code_lt LessOrEqualUnsigned = lit< tt
condition_code_lt CarrySet = lit< tt
condition_code_lt Negative = lit< tt
condition_code_lt OverflowSet = lit< tt
condition_code_lt Always = lit< tt
condition_code_lt NotEqual = lit< tt
condition_code_lt Greater = lit< tt
condition_code_lt GreaterOrEqual = lit< tt
condition_code_lt GreaterUnsigned = lit< tt
condition_code_lt CarryClear = lit< tt
condition_code_lt Positive = lit< tt
condition_code_lt OverflowClear = lit< tt

condition_of-code : (c : Condition) → condition_of (condition_code c) ≡ c
unfolding condition_code condition_of
condition_of-code Never = refl
condition_of-code Equal = refl
condition_of-code LessOrEqual = refl
condition_of-code Less = refl
condition_of-code LessOrEqualUnsigned = refl
condition_of-code CarrySet = refl
condition_of-code Negative = refl
condition_of-code OverflowSet = refl
condition_of-code Always = refl
condition_of-code NotEqual = refl
condition_of-code Greater = refl
condition_of-code GreaterOrEqual = refl
condition_of-code GreaterUnsigned = refl
condition_of-code CarryClear = refl
condition_of-code Positive = refl
condition_of-code OverflowClear = refl

annul_of-word : (annul : Bool) (code : ℕ) → code < 16 → nat_eq ((bit_of annul * 2 ^ 4 + code) / 2 ^ 4) 1 ≡ annul
annul_of-word true code f = let e : (1 * 2 ^ 4 + code) / 2 ^ 4 ≡ 1 = omega arith in rw e refl
annul_of-word false code f = let e : (0 * 2 ^ 4 + code) / 2 ^ 4 ≡ 0 = omega arith in rw e refl

code_of-word : (annul : Bool) (code : ℕ) → code < 16 → (bit_of annul * 2 ^ 4 + code) % 2 ^ 4 ≡ code
code_of-word true code f = omega arith
code_of-word false code f = omega arith

five_lt : (annul : Bool) (code : ℕ) → code < 16 → bit_of annul * 2 ^ 4 + code < 32
five_lt true code f = omega arith
five_lt false code f = omega arith

-- ---- the formats

-- a word that names an instruction, and is its word
exact : (w : ℕ) (i : Insn) → named_insn w ≡ Some i → word_of i ≡ w → insn_of w ≡ Some i
unfolding insn_of
exact w i named same = rw named (exact_of word_of w i same)

module _ (displacement : ℕ) (a : displacement < 2 ^ 30) where
  from_call : insn_of (call_format displacement) ≡ Some (Call displacement)
  unfolding named_insn call_format word_of
  from_call =
      let op : op_of (1 * 2 ^ 30 + displacement) ≡ 1 = omega arith in
      let field : displacement_of (1 * 2 ^ 30 + displacement) ≡ displacement = omega arith in
      exact (1 * 2 ^ 30 + displacement) (Call displacement) (rw (op, field) refl) refl

module _ (five op2 wide : ℕ) (a : five < 32) (b : op2 < 8) (c : wide < 2 ^ 22) (i : Insn) where
  from_wide : wide_insn five op2 wide ≡ Some i → word_of i ≡ wide_format five op2 wide → insn_of (word_of i) ≡ Some i
  unfolding named_insn wide_format
  from_wide named same =
      let op : op_of (five * 2 ^ 25 + (op2 * 2 ^ 22 + wide)) ≡ 0 = omega arith in
      let high : five_of (five * 2 ^ 25 + (op2 * 2 ^ 22 + wide)) ≡ five = omega arith in
      let code : op2_of (five * 2 ^ 25 + (op2 * 2 ^ 22 + wide)) ≡ op2 = omega arith in
      let field : wide_of (five * 2 ^ 25 + (op2 * 2 ^ 22 + wide)) ≡ wide = omega arith in
      rw same (exact (five * 2 ^ 25 + (op2 * 2 ^ 22 + wide)) i (rw (op, high, code, field) named) same)

module _ (op rd op3 rs1 low : ℕ) (z : op < 4) (a : rd < 32) (b : op3 < 64) (c : rs1 < 32) (d : low < 2 ^ 14) where
  word : ℕ
  word = op * 2 ^ 30 + (rd * 2 ^ 25 + (op3 * 2 ^ 19 + (rs1 * 2 ^ 14 + low)))

  op_is : op_of word ≡ op
  unfolding word
  op_is = omega arith

  rd_is : five_of word ≡ rd
  unfolding word
  rd_is = omega arith

  op3_is : op3_of word ≡ op3
  unfolding word
  op3_is = omega arith

  rs1_is : rs1_of word ≡ rs1
  unfolding word
  rs1_is = omega arith

  low_is : low_of word ≡ low
  unfolding word
  low_is = omega arith

module _ (rd op3 rs1 low : ℕ) (a : rd < 32) (b : op3 < 64) (c : rs1 < 32) (d : low < 2 ^ 14) (i : Insn) where
  from_arithmetic : arithmetic_insn rd op3 rs1 low ≡ Some i → word_of i ≡ operand_format 2 rd op3 rs1 low → insn_of (word_of i) ≡ Some i
  unfolding named_insn operand_format word
  from_arithmetic named same =
      let e0 = op_is 2 rd op3 rs1 low (lit< tt) a b c d in
      let e1 = rd_is 2 rd op3 rs1 low (lit< tt) a b c d in
      let e2 = op3_is 2 rd op3 rs1 low (lit< tt) a b c d in
      let e3 = rs1_is 2 rd op3 rs1 low (lit< tt) a b c d in
      let e4 = low_is 2 rd op3 rs1 low (lit< tt) a b c d in
      rw same (exact (2 * 2 ^ 30 + (rd * 2 ^ 25 + (op3 * 2 ^ 19 + (rs1 * 2 ^ 14 + low)))) i (rw (e0, e1, e2, e3, e4) named) same)

  from_memory : memory_insn rd op3 rs1 low ≡ Some i → word_of i ≡ operand_format 3 rd op3 rs1 low → insn_of (word_of i) ≡ Some i
  unfolding named_insn operand_format word
  from_memory named same =
      let e0 = op_is 3 rd op3 rs1 low (lit< tt) a b c d in
      let e1 = rd_is 3 rd op3 rs1 low (lit< tt) a b c d in
      let e2 = op3_is 3 rd op3 rs1 low (lit< tt) a b c d in
      let e3 = rs1_is 3 rd op3 rs1 low (lit< tt) a b c d in
      let e4 = low_is 3 rd op3 rs1 low (lit< tt) a b c d in
      rw same (exact (3 * 2 ^ 30 + (rd * 2 ^ 25 + (op3 * 2 ^ 19 + (rs1 * 2 ^ 14 + low)))) i (rw (e0, e1, e2, e3, e4) named) same)

-- the word of an instruction names it
pub insn_of-word_of : (i : Insn) → FieldsFit i → insn_of (word_of i) ≡ Some i
unfolding FieldsFit word_of wide_insn arithmetic_insn memory_insn
insn_of-word_of (Call displacement) f = from_call displacement f
insn_of-word_of (Bicc annul condition displacement) f =
    let code : condition_code condition < 16 = condition_code_lt condition in
    let one = annul_of-word annul (condition_code condition) code in
    let two = code_of-word annul (condition_code condition) code in
    let three = condition_of-code condition in
    from_wide (bit_of annul * 2 ^ 4 + condition_code condition) 2 displacement (five_lt annul (condition_code condition) code) (lit< tt) f (Bicc annul condition displacement) (rw (one, two, three) refl) refl
insn_of-word_of (Sethi rd immediate) f = from_wide rd 4 immediate f.0 (lit< tt) f.1 (Sethi rd immediate) refl refl
insn_of-word_of (Add rd rs1 operand) f = from_arithmetic rd 0x00 rs1 (operand_word operand) f.0 (lit< tt) f.1 (operand_word_lt operand f.2) (Add rd rs1 operand) (ap (λ o. Some (Add rd rs1 o)) (operand_of-word operand f.2)) refl
insn_of-word_of (And rd rs1 operand) f = from_arithmetic rd 0x01 rs1 (operand_word operand) f.0 (lit< tt) f.1 (operand_word_lt operand f.2) (And rd rs1 operand) (ap (λ o. Some (And rd rs1 o)) (operand_of-word operand f.2)) refl
insn_of-word_of (Or rd rs1 operand) f = from_arithmetic rd 0x02 rs1 (operand_word operand) f.0 (lit< tt) f.1 (operand_word_lt operand f.2) (Or rd rs1 operand) (ap (λ o. Some (Or rd rs1 o)) (operand_of-word operand f.2)) refl
insn_of-word_of (Xor rd rs1 operand) f = from_arithmetic rd 0x03 rs1 (operand_word operand) f.0 (lit< tt) f.1 (operand_word_lt operand f.2) (Xor rd rs1 operand) (ap (λ o. Some (Xor rd rs1 o)) (operand_of-word operand f.2)) refl
insn_of-word_of (Sub rd rs1 operand) f = from_arithmetic rd 0x04 rs1 (operand_word operand) f.0 (lit< tt) f.1 (operand_word_lt operand f.2) (Sub rd rs1 operand) (ap (λ o. Some (Sub rd rs1 o)) (operand_of-word operand f.2)) refl
insn_of-word_of (Andn rd rs1 operand) f = from_arithmetic rd 0x05 rs1 (operand_word operand) f.0 (lit< tt) f.1 (operand_word_lt operand f.2) (Andn rd rs1 operand) (ap (λ o. Some (Andn rd rs1 o)) (operand_of-word operand f.2)) refl
insn_of-word_of (Orn rd rs1 operand) f = from_arithmetic rd 0x06 rs1 (operand_word operand) f.0 (lit< tt) f.1 (operand_word_lt operand f.2) (Orn rd rs1 operand) (ap (λ o. Some (Orn rd rs1 o)) (operand_of-word operand f.2)) refl
insn_of-word_of (Xnor rd rs1 operand) f = from_arithmetic rd 0x07 rs1 (operand_word operand) f.0 (lit< tt) f.1 (operand_word_lt operand f.2) (Xnor rd rs1 operand) (ap (λ o. Some (Xnor rd rs1 o)) (operand_of-word operand f.2)) refl
insn_of-word_of (Umul rd rs1 operand) f = from_arithmetic rd 0x0a rs1 (operand_word operand) f.0 (lit< tt) f.1 (operand_word_lt operand f.2) (Umul rd rs1 operand) (ap (λ o. Some (Umul rd rs1 o)) (operand_of-word operand f.2)) refl
insn_of-word_of (Smul rd rs1 operand) f = from_arithmetic rd 0x0b rs1 (operand_word operand) f.0 (lit< tt) f.1 (operand_word_lt operand f.2) (Smul rd rs1 operand) (ap (λ o. Some (Smul rd rs1 o)) (operand_of-word operand f.2)) refl
insn_of-word_of (Udiv rd rs1 operand) f = from_arithmetic rd 0x0e rs1 (operand_word operand) f.0 (lit< tt) f.1 (operand_word_lt operand f.2) (Udiv rd rs1 operand) (ap (λ o. Some (Udiv rd rs1 o)) (operand_of-word operand f.2)) refl
insn_of-word_of (Sdiv rd rs1 operand) f = from_arithmetic rd 0x0f rs1 (operand_word operand) f.0 (lit< tt) f.1 (operand_word_lt operand f.2) (Sdiv rd rs1 operand) (ap (λ o. Some (Sdiv rd rs1 o)) (operand_of-word operand f.2)) refl
insn_of-word_of (Subcc rd rs1 operand) f = from_arithmetic rd 0x14 rs1 (operand_word operand) f.0 (lit< tt) f.1 (operand_word_lt operand f.2) (Subcc rd rs1 operand) (ap (λ o. Some (Subcc rd rs1 o)) (operand_of-word operand f.2)) refl
insn_of-word_of (Sll rd rs1 count) f = from_arithmetic rd 0x25 rs1 (shift_word count) f.0 (lit< tt) f.1 (shift_word_lt count f.2) (Sll rd rs1 count) (ap (λ o. Some (Sll rd rs1 o)) (shift_of-word count f.2)) refl
insn_of-word_of (Srl rd rs1 count) f = from_arithmetic rd 0x26 rs1 (shift_word count) f.0 (lit< tt) f.1 (shift_word_lt count f.2) (Srl rd rs1 count) (ap (λ o. Some (Srl rd rs1 o)) (shift_of-word count f.2)) refl
insn_of-word_of (Sra rd rs1 count) f = from_arithmetic rd 0x27 rs1 (shift_word count) f.0 (lit< tt) f.1 (shift_word_lt count f.2) (Sra rd rs1 count) (ap (λ o. Some (Sra rd rs1 o)) (shift_of-word count f.2)) refl
insn_of-word_of (Rdy rd) f = from_arithmetic rd 0x28 0 0 f (lit< tt) (lit< tt) (lit< tt) (Rdy rd) refl refl
insn_of-word_of (Wry rs1 operand) f = from_arithmetic 0 0x30 rs1 (operand_word operand) (lit< tt) (lit< tt) f.0 (operand_word_lt operand f.1) (Wry rs1 operand) (ap (λ o. Some (Wry rs1 o)) (operand_of-word operand f.1)) refl
insn_of-word_of (Jmpl rd rs1 operand) f = from_arithmetic rd 0x38 rs1 (operand_word operand) f.0 (lit< tt) f.1 (operand_word_lt operand f.2) (Jmpl rd rs1 operand) (ap (λ o. Some (Jmpl rd rs1 o)) (operand_of-word operand f.2)) refl
insn_of-word_of (Ticc condition rs1 operand) f =
    let code : condition_code condition < 16 = condition_code_lt condition in
    let one : condition_code condition % 2 ^ 4 ≡ condition_code condition = omega arith in
    let two = condition_of-code condition in
    let three = trap_of-word operand f.1 in
    from_arithmetic (condition_code condition) 0x3a rs1 (trap_word operand) (omega arith) (lit< tt) f.0 (trap_word_lt operand f.1) (Ticc condition rs1 operand) (rw (one, two, three) refl) refl
insn_of-word_of (Save rd rs1 operand) f = from_arithmetic rd 0x3c rs1 (operand_word operand) f.0 (lit< tt) f.1 (operand_word_lt operand f.2) (Save rd rs1 operand) (ap (λ o. Some (Save rd rs1 o)) (operand_of-word operand f.2)) refl
insn_of-word_of (Restore rd rs1 operand) f = from_arithmetic rd 0x3d rs1 (operand_word operand) f.0 (lit< tt) f.1 (operand_word_lt operand f.2) (Restore rd rs1 operand) (ap (λ o. Some (Restore rd rs1 o)) (operand_of-word operand f.2)) refl
insn_of-word_of (Ld rd rs1 operand) f = from_memory rd 0x00 rs1 (operand_word operand) f.0 (lit< tt) f.1 (operand_word_lt operand f.2) (Ld rd rs1 operand) (ap (λ o. Some (Ld rd rs1 o)) (operand_of-word operand f.2)) refl
insn_of-word_of (Ldub rd rs1 operand) f = from_memory rd 0x01 rs1 (operand_word operand) f.0 (lit< tt) f.1 (operand_word_lt operand f.2) (Ldub rd rs1 operand) (ap (λ o. Some (Ldub rd rs1 o)) (operand_of-word operand f.2)) refl
insn_of-word_of (Lduh rd rs1 operand) f = from_memory rd 0x02 rs1 (operand_word operand) f.0 (lit< tt) f.1 (operand_word_lt operand f.2) (Lduh rd rs1 operand) (ap (λ o. Some (Lduh rd rs1 o)) (operand_of-word operand f.2)) refl
insn_of-word_of (St rd rs1 operand) f = from_memory rd 0x04 rs1 (operand_word operand) f.0 (lit< tt) f.1 (operand_word_lt operand f.2) (St rd rs1 operand) (ap (λ o. Some (St rd rs1 o)) (operand_of-word operand f.2)) refl
insn_of-word_of (Stb rd rs1 operand) f = from_memory rd 0x05 rs1 (operand_word operand) f.0 (lit< tt) f.1 (operand_word_lt operand f.2) (Stb rd rs1 operand) (ap (λ o. Some (Stb rd rs1 o)) (operand_of-word operand f.2)) refl
insn_of-word_of (Sth rd rs1 operand) f = from_memory rd 0x06 rs1 (operand_word operand) f.0 (lit< tt) f.1 (operand_word_lt operand f.2) (Sth rd rs1 operand) (ap (λ o. Some (Sth rd rs1 o)) (operand_of-word operand f.2)) refl
insn_of-word_of (Ldsb rd rs1 operand) f = from_memory rd 0x09 rs1 (operand_word operand) f.0 (lit< tt) f.1 (operand_word_lt operand f.2) (Ldsb rd rs1 operand) (ap (λ o. Some (Ldsb rd rs1 o)) (operand_of-word operand f.2)) refl
insn_of-word_of (Ldsh rd rs1 operand) f = from_memory rd 0x0a rs1 (operand_word operand) f.0 (lit< tt) f.1 (operand_word_lt operand f.2) (Ldsh rd rs1 operand) (ap (λ o. Some (Ldsh rd rs1 o)) (operand_of-word operand f.2)) refl

-- the instruction of a word has that word
pub word_of-insn_of : (w : ℕ) → IfSome (insn_of w) (λ i. word_of i ≡ w)
unfolding insn_of
word_of-insn_of w = if_exact-word_of word_of w (named_insn w)
