-- How many words operators take.
use Rattle.std.proofs.Common.{◌≡◌, ◌≤◌, ℕ, ◌+◌, ◌*◌, ◌%◌, ◌^◌, List, [], ◌∷◌, ◌++◌, length, length-append, Bool, true, false, nat_lt, if◌then◌else◌, refl, arith}
use Rattle.mips_isa.specs.declared.insn.Insn.{Insn}
use Rattle.mips_isa.specs.declared.insn.Insn.TheVariants.{Lw, Sw}
use Rattle.slot_ir.specs.declared.code.Access.{Access}
use Rattle.slot_ir.specs.declared.code.Access.TheVariants as access
use Rattle.slot_ir.specs.declared.code.UnaryWordOp.{UnaryWordOp}
use Rattle.slot_ir.specs.declared.code.UnaryWordOp.TheVariants as unary
use Rattle.slot_ir.specs.declared.code.WordOp.{WordOp}
use Rattle.slot_ir.specs.declared.code.WordOp.TheVariants as word
use Rattle.flat_ir.specs.declared.code.Scratch.{Scratch}
use Rattle.flat_ir.specs.declared.code.Landing.{Landing}
use Rattle.flat_ir.specs.declared.code.FlatOp.{FlatOp}
use Rattle.flat_ir.specs.declared.code.FlatOp.TheVariants as flat
use Rattle.flat_gen.specs.Words.{IsNarrow}
use Rattle.flat_gen.proofs.Words.{most_binary, most, narrow}
use Rattle.gen_parts.specs.Links.{HasRoom}
use Rattle.mips_gen.specs.Insns.{register_of, no_op, is_short, upper_insns, get_insns, put_insns, extend_insns, unary_insns, binary_insns, pass_insns, landed_insn, argument_insns, insns}
use Rattle.mips_gen.specs.Coding.{mips}

either : (b : Bool) (x y : List Insn) (n : ℕ) → length x ≤ n → length y ≤ n → length (if b then x else y) ≤ n
either true x y n h k = h
either false x y n h k = k

get_most : (to at : ℕ) → length (get_insns to at) ≤ 4
get_most to at = either (is_short at) (Lw to 29 (at % 2 ^ 16) ∷ no_op ∷ []) (upper_insns at ++ Lw to 10 (at % 2 ^ 16) ∷ no_op ∷ []) 4 (omega arith) (omega arith)

put_most : (from at : ℕ) → length (put_insns from at) ≤ 3
put_most from at = either (is_short at) (Sw from 29 (at % 2 ^ 16) ∷ []) (upper_insns at ++ Sw from 10 (at % 2 ^ 16) ∷ []) 3 (omega arith) (omega arith)

extend_most : (a : Access) → length (extend_insns a) ≤ 2
extend_most access.SignedByte = omega arith
extend_most access.UnsignedByte = omega arith
extend_most access.SignedHalf = omega arith
extend_most access.UnsignedHalf = omega arith
extend_most access.Word = omega arith
extend_most access.Pointer = omega arith

unary_most : (op : UnaryWordOp) → length (unary_insns op) ≤ 4
unary_most unary.Plus = omega arith
unary_most unary.Minus = omega arith
unary_most unary.MinusUnsigned = omega arith
unary_most unary.Complement = omega arith
unary_most unary.Not = omega arith
unary_most unary.Truth = omega arith

binary_most : (op : WordOp) → length (binary_insns op) ≤ most_binary 4 5 op
binary_most word.Or = omega arith
binary_most word.Xor = omega arith
binary_most word.And = omega arith
binary_most word.Equal = omega arith
binary_most word.Unequal = omega arith
binary_most word.Less = omega arith
binary_most word.Greater = omega arith
binary_most word.LessEqual = omega arith
binary_most word.GreaterEqual = omega arith
binary_most word.LessUnsigned = omega arith
binary_most word.GreaterUnsigned = omega arith
binary_most word.LessEqualUnsigned = omega arith
binary_most word.GreaterEqualUnsigned = omega arith
binary_most word.ShiftLeft = omega arith
binary_most word.ShiftRight = omega arith
binary_most word.ShiftRightUnsigned = omega arith
binary_most word.Add = omega arith
binary_most word.Subtract = omega arith
binary_most word.Multiply = omega arith
binary_most word.Divide = omega arith
binary_most word.Remainder = omega arith
binary_most word.AddUnsigned = omega arith
binary_most word.SubtractUnsigned = omega arith
binary_most word.MultiplyUnsigned = omega arith
binary_most word.DivideUnsigned = omega arith
binary_most word.RemainderUnsigned = omega arith

pass_most : (number at : ℕ) → length (pass_insns number at) ≤ 7
pass_most number at =
    either (nat_lt number 4) (get_insns (4 + number % 4) at) (get_insns 8 at ++ put_insns 8 (number * 4)) 7 (omega (arith, get_most (4 + number % 4) at))
    (omega (arith, length-append (get_insns 8 at) (put_insns 8 (number * 4)), get_most 8 at, put_most 8 (number * 4)))

argument_most : (frame number : ℕ) (to : Landing) → length (argument_insns frame number to) ≤ 5
argument_most frame number to =
    either (nat_lt number 4) (landed_insn (4 + number % 4) to ∷ []) (get_insns 8 (frame + number * 4) ++ landed_insn 8 to ∷ []) 5 (omega arith)
    (omega (arith, length-append (get_insns 8 (frame + number * 4)) (landed_insn 8 to ∷ []), get_most 8 (frame + number * 4)))

op_most : (frame : ℕ) (o : FlatOp) → length (insns frame o) ≤ most 4 5 o
op_most frame (flat.Set to bits) = omega arith
op_most frame (flat.StaticAddress to object) = omega arith
op_most frame (flat.FrameAddress to at) = omega arith
op_most frame (flat.Get to at) = get_most (register_of to) at
op_most frame (flat.Put from at) = put_most (register_of from) at
op_most frame (flat.Load a) = omega arith
op_most frame (flat.Store kind) = omega arith
op_most frame (flat.Fill bytes) = omega arith
op_most frame (flat.Copy shape) = omega arith
op_most frame (flat.ReadRegister r a) = omega (arith, extend_most a)
op_most frame (flat.WriteRegister r) = omega arith
op_most frame (flat.Extend a) = extend_most a
op_most frame (flat.Unary op) = unary_most op
op_most frame (flat.Binary op) = binary_most op
op_most frame (flat.Scale size back) = omega arith
op_most frame (flat.Apart size) = omega arith
op_most frame (flat.Jump place) = omega arith
op_most frame (flat.JumpIf is_zero place) = omega arith
op_most frame (flat.Pass number at) = pass_most number at
op_most frame (flat.Argument number to) = argument_most frame number to
op_most frame (flat.Call function) = omega arith
op_most frame flat.Return = omega arith
op_most frame (flat.Stop point) = omega arith
op_most frame (flat.Ask request) = omega arith

-- a load from the frame takes at most four words, and a division or a difference of pointers five
pub mips_narrow : (frame : ℕ) → IsNarrow (λ o. length (insns frame o))
mips_narrow frame = narrow 4 5 (omega arith) (omega arith) (omega arith) (λ o. length (insns frame o)) (op_most frame)

pub mips_room : HasRoom mips
mips_room = record {
  word = λ i. refl;
  start = omega arith;
  choice = λ size. omega arith;
  inside = λ back before number words. omega arith;
  address = λ frame object to. omega arith;
  copy = λ frame shape. omega arith;
  call = λ frame function. omega arith;
  jump = λ frame place. omega arith;
  jump_if = λ frame place is_zero. omega arith;
  return = λ frame by. omega arith;
}
