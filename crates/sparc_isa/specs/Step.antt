-- What each instruction does: the SPARC V8 manual, appendix B, with this profile's faults, hazards and requests.
use Rattle.std.specs.Prelude.{ℕ, Bool, true, false, ◌+◌, ◌-◌, ◌*◌, ◌^◌, ◌/◌, ◌%◌, ◌&&◌, ◌||◌, nat_eq, nat_lt, not, if◌then◌else◌, bit_and, bit_or, bit_xor, List, [], ◌∷◌, Option, Some, None, Result, Ok, Err}
use Rattle.ldb_words.specs.Word.{sum_of, difference_of, sign_extended, product_signed, high_of, low_of}
use Rattle.ldb_words.specs.Arithmetic.{shifted}
use Rattle.ldb_words.specs.declared.kinds.Order.TheVariants.{Big}
use Rattle.ldb_words.specs.declared.kinds.Way.TheVariants.{RightSigned}
use Rattle.ldb_words.specs.declared.event.Event.TheVariants.{Went, Break, Fault}
use Rattle.ldb_words.specs.declared.event.FaultKind.{FaultKind}
use Rattle.ldb_words.specs.declared.event.FaultKind.TheVariants.{Division}
use Rattle.machine_state.specs.Regions.{load_of, store_of}
use Rattle.machine_state.specs.State.{MachineState, Facts}
use Rattle.machine_state.specs.Step.{Outcome, moved, jumps, on_loaded, sign_loaded, stores, requests, InstructionSet, step_by}
use Rattle.sparc_isa.specs.declared.operand.Operand.{Operand}
use Rattle.sparc_isa.specs.declared.operand.Operand.TheVariants.{Register, Immediate}
use Rattle.sparc_isa.specs.declared.operand.ShiftOperand.{ShiftOperand}
use Rattle.sparc_isa.specs.declared.operand.ShiftOperand.TheVariants.{Register as ShiftRegister, Immediate as ShiftImmediate}
use Rattle.sparc_isa.specs.declared.operand.TrapOperand.{TrapOperand}
use Rattle.sparc_isa.specs.declared.operand.TrapOperand.TheVariants.{Register as TrapRegister, Immediate as TrapImmediate}
use Rattle.sparc_isa.specs.declared.condition.Condition.{Condition}
use Rattle.sparc_isa.specs.declared.insn.Insn.{Insn}
use Rattle.sparc_isa.specs.declared.insn.Insn.TheVariants.{Call, Bicc, Sethi, Add, And, Or, Xor, Sub, Andn, Orn, Xnor, Umul, Smul, Udiv, Sdiv, Subcc, Sll, Srl, Sra, Rdy, Wry, Jmpl, Ticc, Save, Restore, Ld, Ldub, Lduh, St, Stb, Sth, Ldsb, Ldsh}
use Rattle.sparc_isa.specs.Arithmetic.{quotient_unsigned, quotient_signed, codes_of}
use Rattle.sparc_isa.specs.Codec.{insn_of}
use Rattle.sparc_isa.specs.Condition.{holds, is_conditional}
use Rattle.sparc_isa.specs.Windows.{window_below, window_above, y, codes, current, invalid, with_y, with_codes, with_current, register, with_register, spills, fills}

-- ---- operands

-- a register, or an immediate extended by its sign
abbrev pub value : MachineState → Operand → ℕ
value m (Register r) = register m r
value m (Immediate v) = sign_extended 13 v

-- how far to shift: only the lowest 5 bits of a register count
abbrev pub distance : MachineState → ShiftOperand → ℕ
distance m (ShiftRegister r) = register m r % 32
distance m (ShiftImmediate v) = v

abbrev pub trap_value : MachineState → TrapOperand → ℕ
trap_value m (TrapRegister r) = register m r
trap_value m (TrapImmediate v) = v

-- the lowest 7 bits of the sum
abbrev pub trap_number : MachineState → ℕ → TrapOperand → ℕ
trap_number m rs1 operand = sum_of (register m rs1) (trap_value m operand) % 2 ^ 7

abbrev pub address : MachineState → ℕ → Operand → ℕ
address m rs1 operand = sum_of (register m rs1) (value m operand)

-- Y and a register, as 64 bits
abbrev pub dividend : MachineState → ℕ → ℕ
dividend m rs1 = y m * 2 ^ 32 + register m rs1

abbrev pub inverted : ℕ → ℕ
inverted v = 2 ^ 32 - 1 - v

-- ---- going on

-- an instruction that leaves a value in a register
unfoldable pub writes : ℕ → ℕ → MachineState → Outcome
writes rd v m = (Went, with_register rd v (moved m))

-- the low word of a product in a register, the high word in Y
unfoldable pub multiplies : ℕ → ℕ → MachineState → Outcome
multiplies rd product m = (Went, with_y (high_of product) (with_register rd (low_of product) (moved m)))

-- a quotient, whose divisor is not 0, in a register
unfoldable pub divides : ℕ → ℕ → ℕ → MachineState → Outcome
divides rd divisor quotient m = if nat_eq divisor 0 then (Fault Division, m) else writes rd quotient m

-- a difference in a register, and its codes
unfoldable pub subtracts : ℕ → ℕ → ℕ → MachineState → Outcome
subtracts rd a b m = (Went, with_codes (codes_of a b) (with_register rd (difference_of a b) (moved m)))

-- Y is written late: the next three instructions may not read it
unfoldable pub writes_y : ℕ → MachineState → Outcome
writes_y v m =
    let n = with_y v (moved m) in
    (Went, record n { facts = record n.facts { wait = 3 } })

-- ---- control transfers

-- a transfer to a target that skips its delay slot, where `n` has moved on
unfoldable pub skips : ℕ → MachineState → Outcome
skips target n = (Went, record n { pc = target; next_pc = sum_of target 4 })

-- whether a branch's delay slot is skipped: with the annul bit, unless a condition was asked for and holds
abbrev pub is_annulled : Bool → Condition → ℕ → Bool
is_annulled annul condition flags = annul && not (is_conditional condition && holds condition flags)

-- where a branch goes: by a number of words from itself, or on to what follows its delay slot
abbrev pub branch_target : Condition → ℕ → MachineState → ℕ
branch_target condition displacement m =
    if holds condition (codes m) then sum_of m.pc (sign_extended 22 displacement * 4 % 2 ^ 32) else sum_of m.next_pc 4

unfoldable pub branches : Bool → Condition → ℕ → MachineState → Outcome
branches annul condition displacement m =
    if is_annulled annul condition (codes m)
    then skips (branch_target condition displacement m) (moved m)
    else jumps (branch_target condition displacement m) (moved m)

-- the address of the call stays in `%o7`
unfoldable pub calls : ℕ → MachineState → Outcome
calls displacement m = jumps (sum_of m.pc (displacement * 4)) (with_register 15 m.pc (moved m))

-- the address of the jump stays in a register; a target that is no multiple of 4 is a fault of the next fetch
unfoldable pub jumps_linked : ℕ → ℕ → MachineState → Outcome
jumps_linked rd target m = jumps target (with_register rd m.pc (moved m))

-- ---- memory

abbrev pub loads : ℕ → Result ℕ FaultKind → MachineState → Outcome
loads rd loaded m = on_loaded (writes rd) loaded m

-- ---- windows

-- a sum of the old window in a register of the window below, or a spill in place of it
unfoldable pub saves : ℕ → ℕ → MachineState → Outcome
saves rd v m =
    let w = window_below (current m) in
    if nat_eq w (invalid m) then spills (window_below w) m else (Went, with_register rd v (with_current w (moved m)))

-- a sum of the old window in a register of the window above, or a fill in place of it
unfoldable pub restores : ℕ → ℕ → MachineState → Outcome
restores rd v m =
    let w = window_above (current m) in
    if nat_eq w (invalid m) then fills w m else (Went, with_register rd v (with_current w (moved m)))

-- ---- traps

-- 1 is a breakpoint; 17 to 21 are the requests 1 to 5, whose argument and result stand in `%o0`
unfoldable pub traps : ℕ → MachineState → Outcome
traps number m = if nat_eq number 1 then (Break, m) else requests (with_register 8) (number - 16) (register m 8) m

unfoldable pub traps_if : Bool → ℕ → MachineState → Outcome
traps_if holds number m = if holds then traps number m else (Went, moved m)

-- ---- each instruction

unfoldable pub act : Insn → MachineState → Outcome
act (Call displacement) m = calls displacement m
act (Bicc annul condition displacement) m = branches annul condition displacement m
act (Sethi rd immediate) m = writes rd (immediate * 2 ^ 10) m
act (Add rd rs1 operand) m = writes rd (sum_of (register m rs1) (value m operand)) m
act (And rd rs1 operand) m = writes rd (bit_and (register m rs1) (value m operand)) m
act (Or rd rs1 operand) m = writes rd (bit_or (register m rs1) (value m operand)) m
act (Xor rd rs1 operand) m = writes rd (bit_xor (register m rs1) (value m operand)) m
act (Sub rd rs1 operand) m = writes rd (difference_of (register m rs1) (value m operand)) m
act (Andn rd rs1 operand) m = writes rd (bit_and (register m rs1) (inverted (value m operand))) m
act (Orn rd rs1 operand) m = writes rd (bit_or (register m rs1) (inverted (value m operand))) m
act (Xnor rd rs1 operand) m = writes rd (inverted (bit_xor (register m rs1) (value m operand))) m
act (Umul rd rs1 operand) m = multiplies rd (register m rs1 * value m operand) m
act (Smul rd rs1 operand) m = multiplies rd (product_signed (register m rs1) (value m operand)) m
act (Udiv rd rs1 operand) m = divides rd (value m operand) (quotient_unsigned (dividend m rs1) (value m operand)) m
act (Sdiv rd rs1 operand) m = divides rd (value m operand) (quotient_signed (dividend m rs1) (value m operand)) m
act (Subcc rd rs1 operand) m = subtracts rd (register m rs1) (value m operand) m
act (Sll rd rs1 count) m = writes rd (register m rs1 * 2 ^ distance m count % 2 ^ 32) m
act (Srl rd rs1 count) m = writes rd (register m rs1 / 2 ^ distance m count) m
act (Sra rd rs1 count) m = writes rd (shifted (register m rs1) (distance m count) RightSigned) m
act (Rdy rd) m = writes rd (y m) m
act (Wry rs1 operand) m = writes_y (bit_xor (register m rs1) (value m operand)) m
act (Jmpl rd rs1 operand) m = jumps_linked rd (address m rs1 operand) m
act (Ticc condition rs1 operand) m = traps_if (holds condition (codes m)) (trap_number m rs1 operand) m
act (Save rd rs1 operand) m = saves rd (address m rs1 operand) m
act (Restore rd rs1 operand) m = restores rd (address m rs1 operand) m
act (Ld rd rs1 operand) m = loads rd (load_of Big m.memory (address m rs1 operand) 4) m
act (Ldub rd rs1 operand) m = loads rd (load_of Big m.memory (address m rs1 operand) 1) m
act (Lduh rd rs1 operand) m = loads rd (load_of Big m.memory (address m rs1 operand) 2) m
act (St rd rs1 operand) m = stores (store_of Big m.memory (address m rs1 operand) 4 (register m rd)) m
act (Stb rd rs1 operand) m = stores (store_of Big m.memory (address m rs1 operand) 1 (register m rd)) m
act (Sth rd rs1 operand) m = stores (store_of Big m.memory (address m rs1 operand) 2 (register m rd)) m
act (Ldsb rd rs1 operand) m = loads rd (sign_loaded 8 (load_of Big m.memory (address m rs1 operand) 1)) m
act (Ldsh rd rs1 operand) m = loads rd (sign_loaded 16 (load_of Big m.memory (address m rs1 operand) 2)) m

-- ---- hazards

-- whether it may not stand in a delay slot
unfoldable pub is_transfer : Insn → Bool
is_transfer (Call displacement) = true
is_transfer (Bicc annul condition displacement) = true
is_transfer (Jmpl rd rs1 operand) = true
is_transfer (Ticc condition rs1 operand) = true
is_transfer _ = false

-- whether it reads Y
unfoldable pub reads_y : Insn → Bool
reads_y (Rdy rd) = true
reads_y (Udiv rd rs1 operand) = true
reads_y (Sdiv rd rs1 operand) = true
reads_y _ = false

unfoldable pub is_hazard : Insn → Facts → Bool
is_hazard i facts = (facts.in_slot && is_transfer i) || (nat_lt 0 facts.wait && reads_y i)

-- ---- the step

abbrev pub sparc_set : InstructionSet Insn
sparc_set = record { order = Big; insn_of = insn_of; is_hazard = is_hazard; act = act }

-- one step: the fault of pc, no such word, a hazard, and then what the instruction does
unfoldable pub step_of : MachineState → Outcome
step_of m = step_by sparc_set m
