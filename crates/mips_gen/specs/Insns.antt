-- The instructions of flat operators (MIPS R3000). A field that the linker writes is 0.
use Rattle.std.specs.Prelude.{ℕ, ◌+◌, ◌*◌, ◌/◌, ◌%◌, ◌^◌, List, [], ◌∷◌, ◌++◌, Bool, true, false, nat_lt, if◌then◌else◌}
use Rattle.ldb_words.specs.declared.kinds.Kind.{Kind}
use Rattle.ldb_words.specs.declared.kinds.Kind.TheVariants.{Byte, Word, Address}
use Rattle.mips_isa.specs.declared.insn.Insn.{Insn}
use Rattle.mips_isa.specs.declared.insn.Insn.TheVariants.{Sll, Sra, Sllv, Srlv, Srav, Syscall, Mfhi, Mflo, Mult, Div, Divu, Addu, Subu, And, Or, Xor, Nor, Slt, Sltu, J, Jal, Beq, Bne, Addiu, Sltiu, Andi, Ori, Xori, Lui, Lb, Lh, Lw, Lbu, Lhu, Sb, Sw}
use Rattle.slot_ir.specs.declared.code.Access.{Access}
use Rattle.slot_ir.specs.declared.code.Access.TheVariants as access
use Rattle.slot_ir.specs.declared.code.UnaryWordOp.{UnaryWordOp}
use Rattle.slot_ir.specs.declared.code.UnaryWordOp.TheVariants as unary
use Rattle.slot_ir.specs.declared.code.WordOp.{WordOp}
use Rattle.slot_ir.specs.declared.code.WordOp.TheVariants as word
use Rattle.flat_ir.specs.declared.code.Scratch.{Scratch}
use Rattle.flat_ir.specs.declared.code.Scratch.TheVariants as scratch
use Rattle.flat_ir.specs.declared.code.Request.{Request}
use Rattle.flat_ir.specs.declared.code.Request.TheVariants.{GetChar, PutChar, Exit}
use Rattle.flat_ir.specs.declared.code.Landing.{Landing}
use Rattle.flat_ir.specs.declared.code.Landing.TheVariants as landing
use Rattle.flat_ir.specs.declared.code.FlatOp.{FlatOp}
use Rattle.flat_ir.specs.declared.code.FlatOp.TheVariants as flat

-- A stands in `$8`, B in `$9`, an operator's own word in `$10`, the stack pointer in `$29`
abbrev pub register_of : Scratch → ℕ
register_of scratch.A = 8
register_of scratch.B = 9

abbrev pub no_op : Insn
no_op = Sll 0 0 0

abbrev pub word_insns : (to bits : ℕ) → List Insn
word_insns to bits = Lui to (bits / 2 ^ 16) ∷ Ori to to (bits % 2 ^ 16) ∷ []

-- Distances from 32,768 on are long. A load adds its lower half with its sign, so the upper half is that of the distance and 32,768 more.
abbrev pub is_short : ℕ → Bool
is_short at = nat_lt at (2 ^ 15)

abbrev pub upper_insns : ℕ → List Insn
upper_insns at = Lui 10 ((at + 2 ^ 15) % 2 ^ 32 / 2 ^ 16) ∷ Addu 10 10 29 ∷ []

abbrev pub get_insns : (to at : ℕ) → List Insn
get_insns to at =
    if is_short at
    then Lw to 29 (at % 2 ^ 16) ∷ no_op ∷ []
    else upper_insns at ++ Lw to 10 (at % 2 ^ 16) ∷ no_op ∷ []

abbrev pub put_insns : (from at : ℕ) → List Insn
put_insns from at =
    if is_short at
    then Sw from 29 (at % 2 ^ 16) ∷ []
    else upper_insns at ++ Sw from 10 (at % 2 ^ 16) ∷ []

abbrev pub load_insn : Access → Insn
load_insn access.SignedByte = Lb 8 8 0
load_insn access.UnsignedByte = Lbu 8 8 0
load_insn access.SignedHalf = Lh 8 8 0
load_insn access.UnsignedHalf = Lhu 8 8 0
load_insn access.Word = Lw 8 8 0
load_insn access.Pointer = Lw 8 8 0

abbrev pub store_insn : Kind → (from base at : ℕ) → Insn
store_insn Byte from base at = Sb from base at
store_insn Word from base at = Sw from base at
store_insn Address from base at = Sw from base at

abbrev pub extend_insns : Access → List Insn
extend_insns access.SignedByte = Sll 8 8 24 ∷ Sra 8 8 24 ∷ []
extend_insns access.UnsignedByte = Andi 8 8 255 ∷ []
extend_insns access.SignedHalf = Sll 8 8 16 ∷ Sra 8 8 16 ∷ []
extend_insns access.UnsignedHalf = Andi 8 8 65535 ∷ []
extend_insns access.Word = []
extend_insns access.Pointer = []

-- A loop over words: the branch goes back three instructions from its slot.
abbrev pub fill_insns : ℕ → List Insn
fill_insns bytes = word_insns 10 bytes ++ Addu 10 8 10 ∷ Sw 0 8 0 ∷ Addiu 8 8 4 ∷ Bne 8 10 65533 ∷ no_op ∷ []

abbrev pub unary_insns : UnaryWordOp → List Insn
unary_insns unary.Plus = []
unary_insns unary.Minus = Subu 8 0 8 ∷ []
unary_insns unary.MinusUnsigned = Subu 8 0 8 ∷ []
unary_insns unary.Complement = Nor 8 8 0 ∷ []
unary_insns unary.Not = Sltiu 8 8 1 ∷ []
unary_insns unary.Truth = Sltu 8 0 8 ∷ []

-- two instructions stand between a read of HI or LO and the next write of them
abbrev pub long_insns : (op take : Insn) → List Insn
long_insns op take = no_op ∷ no_op ∷ op ∷ take ∷ []

abbrev pub turned_insns : Insn → List Insn
turned_insns compare = compare ∷ Xori 8 8 1 ∷ []

abbrev pub binary_insns : WordOp → List Insn
binary_insns word.Or = Or 8 8 9 ∷ []
binary_insns word.Xor = Xor 8 8 9 ∷ []
binary_insns word.And = And 8 8 9 ∷ []
binary_insns word.Equal = Xor 8 8 9 ∷ Sltiu 8 8 1 ∷ []
binary_insns word.Unequal = Xor 8 8 9 ∷ Sltu 8 0 8 ∷ []
binary_insns word.Less = Slt 8 8 9 ∷ []
binary_insns word.Greater = Slt 8 9 8 ∷ []
binary_insns word.LessEqual = turned_insns (Slt 8 9 8)
binary_insns word.GreaterEqual = turned_insns (Slt 8 8 9)
binary_insns word.LessUnsigned = Sltu 8 8 9 ∷ []
binary_insns word.GreaterUnsigned = Sltu 8 9 8 ∷ []
binary_insns word.LessEqualUnsigned = turned_insns (Sltu 8 9 8)
binary_insns word.GreaterEqualUnsigned = turned_insns (Sltu 8 8 9)
binary_insns word.ShiftLeft = Sllv 8 8 9 ∷ []
binary_insns word.ShiftRight = Srav 8 8 9 ∷ []
binary_insns word.ShiftRightUnsigned = Srlv 8 8 9 ∷ []
binary_insns word.Add = Addu 8 8 9 ∷ []
binary_insns word.AddUnsigned = Addu 8 8 9 ∷ []
binary_insns word.Subtract = Subu 8 8 9 ∷ []
binary_insns word.SubtractUnsigned = Subu 8 8 9 ∷ []
binary_insns word.Multiply = long_insns (Mult 8 9) (Mflo 8)
binary_insns word.MultiplyUnsigned = long_insns (Mult 8 9) (Mflo 8)
binary_insns word.Divide = long_insns (Div 8 9) (Mflo 8)
binary_insns word.Remainder = long_insns (Div 8 9) (Mfhi 8)
binary_insns word.DivideUnsigned = long_insns (Divu 8 9) (Mflo 8)
binary_insns word.RemainderUnsigned = long_insns (Divu 8 9) (Mfhi 8)

abbrev pub moved_insn : (back : Bool) → Insn
moved_insn true = Subu 8 8 10
moved_insn false = Addu 8 8 10

abbrev pub scale_insns : (size : ℕ) (back : Bool) → List Insn
scale_insns size back = word_insns 10 size ++ Mult 9 10 ∷ Mflo 10 ∷ moved_insn back ∷ []

abbrev pub apart_insns : ℕ → List Insn
apart_insns size = word_insns 10 size ++ Subu 8 8 9 ∷ Div 8 10 ∷ Mflo 8 ∷ []

-- the branch over a jump goes three instructions on from its slot
abbrev pub over_insn : Bool → Insn
over_insn true = Bne 8 0 3
over_insn false = Beq 8 0 3

-- arguments 0 to 3 stand in `$4` to `$7`, the others in the caller's frame, at 4 for each before it
abbrev pub pass_insns : (number at : ℕ) → List Insn
pass_insns number at =
    if nat_lt number 4
    then get_insns (4 + number % 4) at
    else get_insns 8 at ++ put_insns 8 (number * 4)

abbrev pub landed_insn : (from : ℕ) → Landing → Insn
landed_insn from (landing.Frame at kind) = store_insn kind from 29 at
landed_insn from (landing.Register r) = Addu (16 + r) from 0

abbrev pub argument_insns : (frame number : ℕ) → Landing → List Insn
argument_insns frame number to =
    if nat_lt number 4
    then landed_insn (4 + number % 4) to ∷ []
    else get_insns 8 (frame + number * 4) ++ landed_insn 8 to ∷ []

abbrev pub request_number : Request → ℕ
request_number GetChar = 1
request_number PutChar = 2
request_number Exit = 3

-- the instructions of an operator in a frame of so many bytes
abbrev pub insns : (frame : ℕ) → FlatOp → List Insn
insns frame (flat.Set to bits) = word_insns (register_of to) bits
insns frame (flat.StaticAddress to object) = word_insns (register_of to) 0
insns frame (flat.FrameAddress to at) = word_insns (register_of to) at ++ Addu (register_of to) (register_of to) 29 ∷ []
insns frame (flat.Get to at) = get_insns (register_of to) at
insns frame (flat.Put from at) = put_insns (register_of from) at
insns frame (flat.Load a) = load_insn a ∷ no_op ∷ []
insns frame (flat.Store kind) = store_insn kind 9 8 0 ∷ []
insns frame (flat.Fill bytes) = fill_insns bytes
insns frame (flat.Copy shape) = Jal 0 ∷ no_op ∷ []
insns frame (flat.ReadRegister r a) = Addu 8 (16 + r) 0 ∷ extend_insns a
insns frame (flat.WriteRegister r) = Addu (16 + r) 8 0 ∷ []
insns frame (flat.Extend a) = extend_insns a
insns frame (flat.Unary op) = unary_insns op
insns frame (flat.Binary op) = binary_insns op
insns frame (flat.Scale size back) = scale_insns size back
insns frame (flat.Apart size) = apart_insns size
insns frame (flat.Jump place) = J 0 ∷ no_op ∷ []
insns frame (flat.JumpIf is_zero place) = over_insn is_zero ∷ no_op ∷ J 0 ∷ no_op ∷ []
insns frame (flat.Pass number at) = pass_insns number at
insns frame (flat.Argument number to) = argument_insns frame number to
insns frame (flat.Call function) = Jal 0 ∷ no_op ∷ Addu 8 2 0 ∷ []
insns frame flat.Return = Addu 2 8 0 ∷ J 0 ∷ no_op ∷ []
insns frame (flat.Stop point) = no_op ∷ []
insns frame (flat.Ask request) = Addu 4 8 0 ∷ Addiu 2 0 (request_number request) ∷ Syscall ∷ Addu 8 2 0 ∷ []
