-- What each instruction does: MIPS I, "Instruction descriptions", with this profile's faults, hazards and requests.
use Rattle.std.specs.Prelude.{ℕ, ℤ, Bool, true, false, ◌+◌, ◌-◌, ◌*◌, ◌^◌, ◌/◌, ◌%◌, ◌&&◌, ◌||◌, nat_eq, nat_lt, not, if◌then◌else◌, bit_and, bit_or, bit_xor, int_div, int_rem, List, [], ◌∷◌, slice_index, slice_set, Option, Some, None, Result, Ok, Err}
use Rattle.ldb_words.specs.Word.{signed, word_of_signed, sum_of, difference_of, sign_extended, is_less_signed, bit_of, product_signed, high_of, low_of}
use Rattle.ldb_words.specs.Arithmetic.{shifted, divides}
use Rattle.ldb_words.specs.declared.kinds.Order.TheVariants.{Little}
use Rattle.ldb_words.specs.declared.kinds.Way.TheVariants.{RightSigned}
use Rattle.ldb_words.specs.declared.event.Event.TheVariants.{Went, Break, Fault}
use Rattle.ldb_words.specs.declared.event.FaultKind.{FaultKind}
use Rattle.ldb_words.specs.declared.event.FaultKind.TheVariants.{Division}
use Rattle.machine_state.specs.Regions.{load_of, store_of}
use Rattle.machine_state.specs.State.{MachineState, Facts}
use Rattle.machine_state.specs.Step.{Outcome, moved, jumps, on_loaded, sign_loaded, stores, requests, InstructionSet, step_by}
use Rattle.mips_isa.specs.declared.insn.Insn.{Insn}
use Rattle.mips_isa.specs.declared.insn.Insn.TheVariants.{Sll, Srl, Sra, Sllv, Srlv, Srav, Jr, Jalr, Syscall, Break as BreakInsn, Mfhi, Mthi, Mflo, Mtlo, Mult, Multu, Div, Divu, Addu, Subu, And, Or, Xor, Nor, Slt, Sltu, Bltz, Bgez, J, Jal, Beq, Bne, Blez, Bgtz, Addiu, Slti, Sltiu, Andi, Ori, Xori, Lui, Lb, Lh, Lw, Lbu, Lhu, Sb, Sh, Sw}
use Rattle.mips_isa.specs.Codec.{insn_of}

-- ---- registers

abbrev pub register : MachineState → ℕ → ℕ
register m r = slice_index m.registers r

-- nothing writes `$0`
unfoldable pub with_register : ℕ → ℕ → MachineState → MachineState
with_register r v m = record m { registers = if nat_eq r 0 then m.registers else slice_set m.registers r v }

abbrev pub hi : MachineState → ℕ
hi m = slice_index m.special 0

abbrev pub lo : MachineState → ℕ
lo m = slice_index m.special 1

-- ---- going on

-- an instruction that leaves a value in a register
unfoldable pub writes : ℕ → ℕ → MachineState → Outcome
writes r v m = (Went, with_register r v (moved m))

-- one that leaves HI and LO
unfoldable pub writes_special : ℕ → ℕ → MachineState → Outcome
writes_special high low m = (Went, record (moved m) { special = high ∷ low ∷ [] })

abbrev pub writes_product : ℕ → MachineState → Outcome
writes_product n m = writes_special (high_of n) (low_of n) m

-- one that reads HI or LO: the next two may not write them
unfoldable pub reads_special : ℕ → ℕ → MachineState → Outcome
reads_special r v m = let n = with_register r v (moved m) in (Went, record n { facts = record n.facts { wait = 2 } })

-- a quotient in LO and a remainder in HI
unfoldable pub divides_signed : ℤ → ℤ → MachineState → Outcome
divides_signed a b m =
    if divides a b then writes_special (word_of_signed (int_rem a b)) (word_of_signed (int_div a b)) m else (Fault Division, m)

unfoldable pub divides_unsigned : ℕ → ℕ → MachineState → Outcome
divides_unsigned a b m = if nat_eq b 0 then (Fault Division, m) else writes_special (a % b) (a / b) m

-- ---- branches

-- a branch by a signed number of instructions from the delay slot
unfoldable pub branches : Bool → ℕ → MachineState → Outcome
branches taken offset m =
    jumps (if taken then sum_of (sum_of m.pc 4) (sign_extended 16 offset * 4 % 2 ^ 32) else sum_of m.next_pc 4) (moved m)

-- a word within the delay slot's 256 MiB
unfoldable pub jump_target : MachineState → ℕ → ℕ
jump_target m target = sum_of m.pc 4 / 2 ^ 28 * 2 ^ 28 + target * 4

-- ---- memory

abbrev pub address : MachineState → ℕ → ℕ → ℕ
address m base offset = sum_of (register m base) (sign_extended 16 offset)

-- what was loaded in a register, which the next instruction may not read
unfoldable pub leaves_loaded : ℕ → ℕ → MachineState → Outcome
leaves_loaded r v m = let n = with_register r v (moved m) in (Went, record n { facts = record n.facts { loaded = r } })

abbrev pub loads : ℕ → Result ℕ FaultKind → MachineState → Outcome
loads r loaded m = on_loaded (leaves_loaded r) loaded m

-- ---- each instruction

unfoldable pub act : Insn → MachineState → Outcome
act (Sll rd rt shamt) m = writes rd ((register m rt) * 2 ^ shamt % 2 ^ 32) m
act (Srl rd rt shamt) m = writes rd ((register m rt) / 2 ^ shamt) m
act (Sra rd rt shamt) m = writes rd (shifted (register m rt) shamt RightSigned) m
act (Sllv rd rt rs) m = writes rd ((register m rt) * 2 ^ (register m rs % 32) % 2 ^ 32) m
act (Srlv rd rt rs) m = writes rd ((register m rt) / 2 ^ (register m rs % 32)) m
act (Srav rd rt rs) m = writes rd (shifted (register m rt) (register m rs % 32) RightSigned) m
act (Jr rs) m = jumps (register m rs) (moved m)
act (Jalr rd rs) m = jumps (register m rs) (with_register rd (sum_of m.pc 8) (moved m))
act Syscall m = requests (with_register 2) (register m 2) (register m 4) m
act BreakInsn m = (Break, m)
act (Mfhi rd) m = reads_special rd (hi m) m
act (Mthi rs) m = writes_special (register m rs) (lo m) m
act (Mflo rd) m = reads_special rd (lo m) m
act (Mtlo rs) m = writes_special (hi m) (register m rs) m
act (Mult rs rt) m = writes_product (product_signed (register m rs) (register m rt)) m
act (Multu rs rt) m = writes_product (register m rs * register m rt) m
act (Div rs rt) m = divides_signed (signed (register m rs)) (signed (register m rt)) m
act (Divu rs rt) m = divides_unsigned (register m rs) (register m rt) m
act (Addu rd rs rt) m = writes rd (sum_of (register m rs) (register m rt)) m
act (Subu rd rs rt) m = writes rd (difference_of (register m rs) (register m rt)) m
act (And rd rs rt) m = writes rd (bit_and (register m rs) (register m rt)) m
act (Or rd rs rt) m = writes rd (bit_or (register m rs) (register m rt)) m
act (Xor rd rs rt) m = writes rd (bit_xor (register m rs) (register m rt)) m
act (Nor rd rs rt) m = writes rd (2 ^ 32 - 1 - bit_or (register m rs) (register m rt)) m
act (Slt rd rs rt) m = writes rd (bit_of (is_less_signed (register m rs) (register m rt))) m
act (Sltu rd rs rt) m = writes rd (bit_of (nat_lt (register m rs) (register m rt))) m
act (Bltz rs offset) m = branches (nat_lt (2 ^ 31 - 1) (register m rs)) offset m
act (Bgez rs offset) m = branches (nat_lt (register m rs) (2 ^ 31)) offset m
act (J target) m = jumps (jump_target m target) (moved m)
act (Jal target) m = jumps (jump_target m target) (with_register 31 (sum_of m.pc 8) (moved m))
act (Beq rs rt offset) m = branches (nat_eq (register m rs) (register m rt)) offset m
act (Bne rs rt offset) m = branches (not (nat_eq (register m rs) (register m rt))) offset m
act (Blez rs offset) m = branches (nat_eq (register m rs) 0 || nat_lt (2 ^ 31 - 1) (register m rs)) offset m
act (Bgtz rs offset) m = branches (nat_lt 0 (register m rs) && nat_lt (register m rs) (2 ^ 31)) offset m
act (Addiu rt rs immediate) m = writes rt (sum_of (register m rs) (sign_extended 16 immediate)) m
act (Slti rt rs immediate) m = writes rt (bit_of (is_less_signed (register m rs) (sign_extended 16 immediate))) m
act (Sltiu rt rs immediate) m = writes rt (bit_of (nat_lt (register m rs) (sign_extended 16 immediate))) m
act (Andi rt rs immediate) m = writes rt (bit_and (register m rs) immediate) m
act (Ori rt rs immediate) m = writes rt (bit_or (register m rs) immediate) m
act (Xori rt rs immediate) m = writes rt (bit_xor (register m rs) immediate) m
act (Lui rt immediate) m = writes rt (immediate * 2 ^ 16) m
act (Lb rt base offset) m = loads rt (sign_loaded 8 (load_of Little m.memory (address m base offset) 1)) m
act (Lh rt base offset) m = loads rt (sign_loaded 16 (load_of Little m.memory (address m base offset) 2)) m
act (Lw rt base offset) m = loads rt (load_of Little m.memory (address m base offset) 4) m
act (Lbu rt base offset) m = loads rt (load_of Little m.memory (address m base offset) 1) m
act (Lhu rt base offset) m = loads rt (load_of Little m.memory (address m base offset) 2) m
act (Sb rt base offset) m = stores (store_of Little m.memory (address m base offset) 1 (register m rt)) m
act (Sh rt base offset) m = stores (store_of Little m.memory (address m base offset) 2 (register m rt)) m
act (Sw rt base offset) m = stores (store_of Little m.memory (address m base offset) 4 (register m rt)) m

-- ---- hazards

-- the registers that an instruction reads, or 0
unfoldable pub sources : Insn → ℕ × ℕ
sources (Sll rd rt shamt) = (0, rt)
sources (Srl rd rt shamt) = (0, rt)
sources (Sra rd rt shamt) = (0, rt)
sources (Sllv rd rt rs) = (rs, rt)
sources (Srlv rd rt rs) = (rs, rt)
sources (Srav rd rt rs) = (rs, rt)
sources (Jr rs) = (rs, 0)
sources (Jalr rd rs) = (rs, 0)
sources Syscall = (2, 4)
sources BreakInsn = (0, 0)
sources (Mfhi rd) = (0, 0)
sources (Mthi rs) = (rs, 0)
sources (Mflo rd) = (0, 0)
sources (Mtlo rs) = (rs, 0)
sources (Mult rs rt) = (rs, rt)
sources (Multu rs rt) = (rs, rt)
sources (Div rs rt) = (rs, rt)
sources (Divu rs rt) = (rs, rt)
sources (Addu rd rs rt) = (rs, rt)
sources (Subu rd rs rt) = (rs, rt)
sources (And rd rs rt) = (rs, rt)
sources (Or rd rs rt) = (rs, rt)
sources (Xor rd rs rt) = (rs, rt)
sources (Nor rd rs rt) = (rs, rt)
sources (Slt rd rs rt) = (rs, rt)
sources (Sltu rd rs rt) = (rs, rt)
sources (Bltz rs offset) = (rs, 0)
sources (Bgez rs offset) = (rs, 0)
sources (J target) = (0, 0)
sources (Jal target) = (0, 0)
sources (Beq rs rt offset) = (rs, rt)
sources (Bne rs rt offset) = (rs, rt)
sources (Blez rs offset) = (rs, 0)
sources (Bgtz rs offset) = (rs, 0)
sources (Addiu rt rs immediate) = (rs, 0)
sources (Slti rt rs immediate) = (rs, 0)
sources (Sltiu rt rs immediate) = (rs, 0)
sources (Andi rt rs immediate) = (rs, 0)
sources (Ori rt rs immediate) = (rs, 0)
sources (Xori rt rs immediate) = (rs, 0)
sources (Lui rt immediate) = (0, 0)
sources (Lb rt base offset) = (base, 0)
sources (Lh rt base offset) = (base, 0)
sources (Lw rt base offset) = (base, 0)
sources (Lbu rt base offset) = (base, 0)
sources (Lhu rt base offset) = (base, 0)
sources (Sb rt base offset) = (base, rt)
sources (Sh rt base offset) = (base, rt)
sources (Sw rt base offset) = (base, rt)

-- whether it may not stand in a delay slot
unfoldable pub is_transfer : Insn → Bool
is_transfer (Jr rs) = true
is_transfer (Jalr rd rs) = true
is_transfer Syscall = true
is_transfer BreakInsn = true
is_transfer (Bltz rs offset) = true
is_transfer (Bgez rs offset) = true
is_transfer (J target) = true
is_transfer (Jal target) = true
is_transfer (Beq rs rt offset) = true
is_transfer (Bne rs rt offset) = true
is_transfer (Blez rs offset) = true
is_transfer (Bgtz rs offset) = true
is_transfer _ = false

-- whether it writes HI or LO
unfoldable pub writes_hi_lo : Insn → Bool
writes_hi_lo (Mthi rs) = true
writes_hi_lo (Mtlo rs) = true
writes_hi_lo (Mult rs rt) = true
writes_hi_lo (Multu rs rt) = true
writes_hi_lo (Div rs rt) = true
writes_hi_lo (Divu rs rt) = true
writes_hi_lo _ = false

-- whether one of two registers was loaded just before
abbrev pub is_loaded : ℕ → ℕ × ℕ → Bool
is_loaded loaded pair = nat_lt 0 loaded && (nat_eq loaded pair.0 || nat_eq loaded pair.1)

unfoldable pub is_hazard : Insn → Facts → Bool
is_hazard i facts =
    is_loaded facts.loaded (sources i) || ((facts.in_slot && is_transfer i) || (nat_lt 0 facts.wait && writes_hi_lo i))

-- ---- the step

abbrev pub mips_set : InstructionSet Insn
mips_set = record { order = Little; insn_of = insn_of; is_hazard = is_hazard; act = act }

-- one step: the fault of pc, no such word, a hazard, and then what the instruction does
unfoldable pub step_of : MachineState → Outcome
step_of m = step_by mips_set m
