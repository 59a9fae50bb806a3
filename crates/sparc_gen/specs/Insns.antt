-- The instructions of flat operators (SPARC V8). A field that the linker writes is 0.
use Rattle.std.specs.Prelude.{ℕ, ◌+◌, ◌*◌, ◌/◌, ◌%◌, ◌^◌, List, [], ◌∷◌, ◌++◌, Bool, true, false, nat_lt, if◌then◌else◌}
use Rattle.ldb_words.specs.declared.kinds.Kind.{Kind}
use Rattle.ldb_words.specs.declared.kinds.Kind.TheVariants.{Byte, Word, Address}
use Rattle.sparc_isa.specs.declared.condition.Condition.{Condition}
use Rattle.sparc_isa.specs.declared.condition.Condition.TheVariants as when
use Rattle.sparc_isa.specs.declared.operand.Operand.TheVariants.{Register, Immediate}
use Rattle.sparc_isa.specs.declared.operand.ShiftOperand.TheVariants as shift
use Rattle.sparc_isa.specs.declared.operand.TrapOperand.TheVariants as trap
use Rattle.sparc_isa.specs.declared.insn.Insn.{Insn}
use Rattle.sparc_isa.specs.declared.insn.Insn.TheVariants.{Call, Bicc, Sethi, Add, And, Or, Xor, Sub, Xnor, Smul, Udiv, Sdiv, Subcc, Sll, Srl, Sra, Wry, Jmpl, Ticc, Restore, Ld, Ldub, Lduh, St, Stb, Ldsb, Ldsh}
use Rattle.slot_ir.specs.declared.code.Access.{Access}
use Rattle.slot_ir.specs.declared.code.Access.TheVariants as access
use Rattle.slot_ir.specs.declared.code.UnaryWordOp.{UnaryWordOp}
use Rattle.slot_ir.specs.declared.code.UnaryWordOp.TheVariants as unary
use Rattle.slot_ir.specs.declared.code.WordOp.{WordOp}
use Rattle.slot_ir.specs.declared.code.WordOp.TheVariants as word
use Rattle.flat_ir.specs.declared.code.Scratch.{Scratch}
use Rattle.flat_ir.specs.declared.code.Scratch.TheVariants as scratch
use Rattle.flat_ir.specs.declared.code.Request.{Request}
use Rattle.flat_ir.specs.declared.code.Request.TheVariants.{GetChar, PutChar, Exit}
use Rattle.flat_ir.specs.declared.code.Landing.{Landing}
use Rattle.flat_ir.specs.declared.code.Landing.TheVariants as landing
use Rattle.flat_ir.specs.declared.code.FlatOp.{FlatOp}
use Rattle.flat_ir.specs.declared.code.FlatOp.TheVariants as flat

-- A stands in `%g1`, B in `%g2`, an operator's own word in `%g3`, the stack pointer in `%o6`
abbrev pub register_of : Scratch → ℕ
register_of scratch.A = 1
register_of scratch.B = 2

abbrev pub no_op : Insn
no_op = Sethi 0 0

abbrev pub move_insn : (to from : ℕ) → Insn
move_insn to from = Or to 0 (Register from)

abbrev pub word_insns : (to bits : ℕ) → List Insn
word_insns to bits = Sethi to (bits / 2 ^ 10) ∷ Or to to (Immediate (bits % 2 ^ 10)) ∷ []

-- distances from 4,096 on are long
abbrev pub is_short : ℕ → Bool
is_short at = nat_lt at (2 ^ 12)

abbrev pub get_insns : (to at : ℕ) → List Insn
get_insns to at =
    if is_short at
    then Ld to 14 (Immediate (at % 2 ^ 12)) ∷ []
    else word_insns 3 at ++ Ld to 14 (Register 3) ∷ []

abbrev pub put_insns : (from at : ℕ) → List Insn
put_insns from at =
    if is_short at
    then St from 14 (Immediate (at % 2 ^ 12)) ∷ []
    else word_insns 3 at ++ St from 14 (Register 3) ∷ []

abbrev pub load_insn : Access → Insn
load_insn access.SignedByte = Ldsb 1 1 (Immediate 0)
load_insn access.UnsignedByte = Ldub 1 1 (Immediate 0)
load_insn access.SignedHalf = Ldsh 1 1 (Immediate 0)
load_insn access.UnsignedHalf = Lduh 1 1 (Immediate 0)
load_insn access.Word = Ld 1 1 (Immediate 0)
load_insn access.Pointer = Ld 1 1 (Immediate 0)

abbrev pub store_insn : Kind → (from base at : ℕ) → Insn
store_insn Byte from base at = Stb from base (Immediate at)
store_insn Word from base at = St from base (Immediate at)
store_insn Address from base at = St from base (Immediate at)

abbrev pub extend_insns : Access → List Insn
extend_insns access.SignedByte = Sll 1 1 (shift.Immediate 24) ∷ Sra 1 1 (shift.Immediate 24) ∷ []
extend_insns access.UnsignedByte = And 1 1 (Immediate 255) ∷ []
extend_insns access.SignedHalf = Sll 1 1 (shift.Immediate 16) ∷ Sra 1 1 (shift.Immediate 16) ∷ []
extend_insns access.UnsignedHalf = Sll 1 1 (shift.Immediate 16) ∷ Srl 1 1 (shift.Immediate 16) ∷ []
extend_insns access.Word = []
extend_insns access.Pointer = []

-- a loop over words: the branch goes back three instructions
abbrev pub fill_insns : ℕ → List Insn
fill_insns bytes =
    word_insns 3 bytes
    ++ Add 3 1 (Register 3) ∷ St 0 1 (Immediate 0) ∷ Add 1 1 (Immediate 4) ∷ Subcc 0 1 (Register 3) ∷ Bicc false when.NotEqual 4194301 ∷ no_op ∷ []

-- 1 in the slot of a branch, and 0 behind it, over which the branch goes where the condition holds
abbrev pub condition_insns : Insn → Condition → List Insn
condition_insns compare c = compare ∷ Bicc false c 3 ∷ Or 1 0 (Immediate 1) ∷ Or 1 0 (Immediate 0) ∷ []

abbrev pub unary_insns : UnaryWordOp → List Insn
unary_insns unary.Plus = []
unary_insns unary.Minus = Sub 1 0 (Register 1) ∷ []
unary_insns unary.MinusUnsigned = Sub 1 0 (Register 1) ∷ []
unary_insns unary.Complement = Xnor 1 1 (Register 0) ∷ []
unary_insns unary.Not = condition_insns (Subcc 0 1 (Immediate 0)) when.Equal
unary_insns unary.Truth = condition_insns (Subcc 0 1 (Immediate 0)) when.NotEqual

abbrev pub compare_insns : Condition → List Insn
compare_insns c = condition_insns (Subcc 0 1 (Register 2)) c

-- the upper word of what is divided, and three instructions between its write and a division
abbrev pub upper_insns : (signed : Bool) → List Insn
upper_insns true = Sra 3 1 (shift.Immediate 31) ∷ Wry 3 (Register 0) ∷ no_op ∷ no_op ∷ no_op ∷ []
upper_insns false = Wry 0 (Register 0) ∷ no_op ∷ no_op ∷ no_op ∷ []

abbrev pub remainder_insns : (signed : Bool) → Insn → List Insn
remainder_insns signed divide = upper_insns signed ++ divide ∷ Smul 3 3 (Register 2) ∷ Sub 1 1 (Register 3) ∷ []

abbrev pub binary_insns : WordOp → List Insn
binary_insns word.Or = Or 1 1 (Register 2) ∷ []
binary_insns word.Xor = Xor 1 1 (Register 2) ∷ []
binary_insns word.And = And 1 1 (Register 2) ∷ []
binary_insns word.Equal = compare_insns when.Equal
binary_insns word.Unequal = compare_insns when.NotEqual
binary_insns word.Less = compare_insns when.Less
binary_insns word.Greater = compare_insns when.Greater
binary_insns word.LessEqual = compare_insns when.LessOrEqual
binary_insns word.GreaterEqual = compare_insns when.GreaterOrEqual
binary_insns word.LessUnsigned = compare_insns when.CarrySet
binary_insns word.GreaterUnsigned = compare_insns when.GreaterUnsigned
binary_insns word.LessEqualUnsigned = compare_insns when.LessOrEqualUnsigned
binary_insns word.GreaterEqualUnsigned = compare_insns when.CarryClear
binary_insns word.ShiftLeft = Sll 1 1 (shift.Register 2) ∷ []
binary_insns word.ShiftRight = Sra 1 1 (shift.Register 2) ∷ []
binary_insns word.ShiftRightUnsigned = Srl 1 1 (shift.Register 2) ∷ []
binary_insns word.Add = Add 1 1 (Register 2) ∷ []
binary_insns word.AddUnsigned = Add 1 1 (Register 2) ∷ []
binary_insns word.Subtract = Sub 1 1 (Register 2) ∷ []
binary_insns word.SubtractUnsigned = Sub 1 1 (Register 2) ∷ []
binary_insns word.Multiply = Smul 1 1 (Register 2) ∷ []
binary_insns word.MultiplyUnsigned = Smul 1 1 (Register 2) ∷ []
binary_insns word.Divide = upper_insns true ++ Sdiv 1 1 (Register 2) ∷ []
binary_insns word.Remainder = remainder_insns true (Sdiv 3 1 (Register 2))
binary_insns word.DivideUnsigned = upper_insns false ++ Udiv 1 1 (Register 2) ∷ []
binary_insns word.RemainderUnsigned = remainder_insns false (Udiv 3 1 (Register 2))

abbrev pub moved_insn : (back : Bool) → Insn
moved_insn true = Sub 1 1 (Register 3)
moved_insn false = Add 1 1 (Register 3)

abbrev pub scale_insns : (size : ℕ) (back : Bool) → List Insn
scale_insns size back = word_insns 3 size ++ Smul 3 2 (Register 3) ∷ moved_insn back ∷ []

abbrev pub apart_insns : ℕ → List Insn
apart_insns size =
    (Sub 1 1 (Register 2) ∷ Sra 3 1 (shift.Immediate 31) ∷ Wry 3 (Register 0) ∷ []) ++ (word_insns 3 size ++ no_op ∷ Sdiv 1 1 (Register 3) ∷ [])

-- where the condition of a jump doesn't hold the branch goes over it
abbrev pub over_condition : Bool → Condition
over_condition true = when.NotEqual
over_condition false = when.Equal

abbrev pub jump_if_insns : Bool → List Insn
jump_if_insns is_zero = Subcc 0 1 (Immediate 0) ∷ Bicc false (over_condition is_zero) 4 ∷ no_op ∷ Call 0 ∷ no_op ∷ []

-- arguments 0 to 5 stand in `%o0` to `%o5`, and `%i0` to `%i5` once SAVE was; the others in the caller's frame, from 68 on
abbrev pub pass_insns : (number at : ℕ) → List Insn
pass_insns number at =
    if nat_lt number 6
    then get_insns (8 + number % 6) at
    else get_insns 1 at ++ put_insns 1 (number * 4 + 68)

abbrev pub landed_insn : (from : ℕ) → Landing → Insn
landed_insn from (landing.Frame at kind) = store_insn kind from 14 at
landed_insn from (landing.Register r) = move_insn (16 + r) from

abbrev pub argument_insns : (frame number : ℕ) → Landing → List Insn
argument_insns frame number to =
    if nat_lt number 6
    then landed_insn (24 + number % 6) to ∷ []
    else get_insns 1 (frame + (number * 4 + 68)) ++ landed_insn 1 to ∷ []

abbrev pub request_trap : Request → ℕ
request_trap GetChar = 17
request_trap PutChar = 18
request_trap Exit = 19

-- the instructions of an operator in a frame of so many bytes
abbrev pub insns : (frame : ℕ) → FlatOp → List Insn
insns frame (flat.Set to bits) = word_insns (register_of to) bits
insns frame (flat.StaticAddress to object) = word_insns (register_of to) 0
insns frame (flat.FrameAddress to at) = word_insns (register_of to) at ++ Add (register_of to) (register_of to) (Register 14) ∷ []
insns frame (flat.Get to at) = get_insns (register_of to) at
insns frame (flat.Put from at) = put_insns (register_of from) at
insns frame (flat.Load a) = load_insn a ∷ []
insns frame (flat.Store kind) = store_insn kind 2 1 0 ∷ []
insns frame (flat.Fill bytes) = fill_insns bytes
insns frame (flat.Copy shape) = Call 0 ∷ no_op ∷ []
insns frame (flat.ReadRegister r a) = move_insn 1 (16 + r) ∷ extend_insns a
insns frame (flat.WriteRegister r) = move_insn (16 + r) 1 ∷ []
insns frame (flat.Extend a) = extend_insns a
insns frame (flat.Unary op) = unary_insns op
insns frame (flat.Binary op) = binary_insns op
insns frame (flat.Scale size back) = scale_insns size back
insns frame (flat.Apart size) = apart_insns size
insns frame (flat.Jump place) = Call 0 ∷ no_op ∷ []
insns frame (flat.JumpIf is_zero place) = jump_if_insns is_zero
insns frame (flat.Pass number at) = pass_insns number at
insns frame (flat.Argument number to) = argument_insns frame number to
insns frame (flat.Call function) = Call 0 ∷ no_op ∷ move_insn 1 8 ∷ []
insns frame flat.Return = move_insn 24 1 ∷ Restore 0 0 (Register 0) ∷ Jmpl 0 15 (Immediate 8) ∷ no_op ∷ []
insns frame (flat.Stop point) = no_op ∷ []
insns frame (flat.Ask request) = move_insn 8 1 ∷ Ticc when.Always 0 (trap.Immediate (request_trap request)) ∷ move_insn 1 8 ∷ []
