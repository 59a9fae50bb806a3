-- Code is narrow on a target whose operators take no more words than a table.
use Rattle.std.proofs.Common.{◌≡◌, ◌≤◌, ℕ, suc, zero, ◌+◌, ◌*◌, List, [], ◌∷◌, ◌++◌, Bool, true, false, Option, Some, None, slice_get, if◌then◌else◌, arith}
use Rattle.std.specs.Int.{next_multiple_of}
use Rattle.slot_ir.specs.declared.code.SlotCode.{SlotCode}
use Rattle.slot_ir.specs.declared.code.SlotFunction.{SlotFunction}
use Rattle.slot_ir.specs.declared.code.SlotLocal.{SlotLocal}
use Rattle.slot_ir.specs.declared.code.Home.{Home}
use Rattle.slot_ir.specs.declared.code.Home.TheVariants.{Block, Register}
use Rattle.slot_ir.specs.declared.code.SlotOp.{SlotOp}
use Rattle.slot_ir.specs.declared.code.SlotOp.TheVariants as slot
use Rattle.slot_ir.specs.declared.code.PointerOp.{PointerOp}
use Rattle.slot_ir.specs.declared.code.PointerOp.TheVariants as pointer
use Rattle.slot_ir.specs.declared.code.WordOp.{WordOp}
use Rattle.slot_ir.specs.declared.code.WordOp.TheVariants as word
use Rattle.slot_ir.specs.WellFormed.{weight_of}
use Rattle.flat_ir.specs.declared.code.Scratch.TheVariants.{A}
use Rattle.flat_ir.specs.declared.code.FlatOp.{FlatOp}
use Rattle.flat_ir.specs.declared.code.FlatOp.TheVariants.{Set, StaticAddress, FrameAddress, Get, Put, Load, Store, Fill, Copy, ReadRegister, WriteRegister, Extend, Unary, Binary, Scale, Apart, Jump, JumpIf, Pass, Argument, Call, Return, Stop, Ask}
use Rattle.flat_gen.specs.declared.layout.Layout.{Layout}
use Rattle.flat_gen.specs.Codes.{comparison, op_code, stop_code, one_code, zeros_by, zeros_in, passes}
use Rattle.flat_gen.specs.Words.{words_in, IsNarrow}

-- a table for both targets: a load from the frame takes `get` words, and a division `wide`
module _ (get wide : ℕ) where
  abbrev pub most_binary : WordOp → ℕ
  most_binary word.Divide = wide
  most_binary word.Remainder = wide
  most_binary word.DivideUnsigned = wide
  most_binary word.RemainderUnsigned = wide
  most_binary op = 4

  abbrev pub most : FlatOp → ℕ
  most (Set to bits) = 2
  most (StaticAddress to o) = 2
  most (FrameAddress to at) = 3
  most (Get to at) = get
  most (Put from at) = 3
  most (Load a) = 2
  most (Store k) = 1
  most (Fill n) = 8
  most (Copy s) = 2
  most (ReadRegister r a) = 3
  most (WriteRegister r) = 1
  most (Extend a) = 2
  most (Unary op) = 4
  most (Binary op) = most_binary op
  most (Scale size back) = 5
  most (Apart size) = wide
  most (Jump place) = 2
  most (JumpIf z place) = 5
  most (Pass n at) = 7
  most (Argument n to) = 5
  most (Call g) = 3
  most Return = 4
  most (Stop q) = 1
  most (Ask r) = 4

words_append : (w : FlatOp → ℕ) (xs ys : List FlatOp) → words_in w (xs ++ ys) ≡ words_in w xs + words_in w ys
words_append w [] ys = omega arith
words_append w (x ∷ xs) ys = omega (arith, words_append w xs ys)

no_more : (w m : FlatOp → ℕ) → ((o : FlatOp) → w o ≤ m o) → (ops : List FlatOp) → words_in w ops ≤ words_in m ops
no_more w m h [] = omega arith
no_more w m h (o ∷ os) = omega (arith, h o, no_more w m h os)

module _ (get wide : ℕ) (small : get ≤ 4) (big : 4 ≤ wide) (fits : get + get + wide ≤ 14) where
  binary_most : (op : WordOp) → most_binary get wide op ≤ wide
  binary_most op = elim op as (λ (o : WordOp). most_binary get wide o ≤ wide) [
    | word.Divide ↦ omega arith
    | word.Remainder ↦ omega arith
    | word.DivideUnsigned ↦ omega arith
    | word.RemainderUnsigned ↦ omega arith
    | word.Or ↦ big
    | word.Xor ↦ big
    | word.And ↦ big
    | word.Equal ↦ big
    | word.Unequal ↦ big
    | word.Less ↦ big
    | word.Greater ↦ big
    | word.LessEqual ↦ big
    | word.GreaterEqual ↦ big
    | word.LessUnsigned ↦ big
    | word.GreaterUnsigned ↦ big
    | word.LessEqualUnsigned ↦ big
    | word.GreaterEqualUnsigned ↦ big
    | word.ShiftLeft ↦ big
    | word.ShiftRight ↦ big
    | word.ShiftRightUnsigned ↦ big
    | word.Add ↦ big
    | word.Subtract ↦ big
    | word.Multiply ↦ big
    | word.AddUnsigned ↦ big
    | word.SubtractUnsigned ↦ big
    | word.MultiplyUnsigned ↦ big
  ]

  module _ (c : SlotCode) (f : SlotFunction) (l : Layout) (starts : List ℕ) where
    passed : (d n : ℕ) → words_in (most get wide) (passes c f l starts d n) ≡ n * 7
    passed d zero = omega arith
    passed d (suc n) = omega (arith, words_append (most get wide) (passes c f l starts d n) (Pass n (l.temporaries + (d + n) * 4) ∷ []), passed d n)

    called : (d g n : ℕ) → words_in (most get wide) (op_code c f l starts (slot.Call d g n)) ≤ 17 * (1 + n)
    called d g n = omega (arith, words_append (most get wide) (passes c f l starts d n) (Call g ∷ Put A (l.temporaries + d * 4) ∷ []), passed d n)

    zeroed_by : (x size : ℕ) (h : Home) → words_in (most get wide) (zeros_by c f l starts x size h) ≤ 17
    zeroed_by x size Block = omega arith
    zeroed_by x size (Register r) = omega arith

    zeroed : (x : ℕ) (o : Option SlotLocal) → words_in (most get wide) (zeros_in c f l starts x o) ≤ 17
    zeroed x None = omega arith
    zeroed x (Some row) = zeroed_by x row.size row.home

    op_most : (op : SlotOp) → words_in (most get wide) (op_code c f l starts op) ≤ 17 * weight_of op
    op_most (slot.Const d n) = omega arith
    op_most (slot.Null d) = omega arith
    op_most (slot.StaticAddress d o) = omega arith
    op_most (slot.TextAddress d k) = omega arith
    op_most (slot.LocalAddress d x) = omega arith
    op_most (slot.Load d i k a) = omega arith
    op_most (slot.Store i j k) = omega arith
    op_most (slot.ReadRegister d x k a) = omega arith
    op_most (slot.WriteRegister j x k) = omega arith
    op_most (slot.Convert d a) = omega arith
    op_most (slot.Unary d op) = omega arith
    op_most (slot.Binary d i j op) = omega (arith, binary_most op)
    op_most (slot.Compare d i j op) = omega (arith, binary_most (comparison op))
    op_most (slot.Index d i j size u back) = omega arith
    op_most (slot.Distance d i j size) = omega arith
    op_most (slot.Offset d n) = omega arith
    op_most (slot.Take d i) = omega arith
    op_most (slot.Jump place) = omega arith
    op_most (slot.JumpIfZero d place) = omega arith
    op_most (slot.JumpIfNotZero d place) = omega arith
    op_most (slot.JumpIfEqual d n place) = omega arith
    op_most (slot.Call d g n) = called d g n
    op_most (slot.Return d) = omega arith
    op_most (slot.Stop q) = omega arith
    op_most (slot.Move i j s) = omega arith
    op_most (slot.Zero x) = zeroed x (slice_get f.locals x)
    op_most (slot.Leave n) = omega arith
    op_most (slot.GetChar d) = omega arith
    op_most (slot.PutChar d) = omega arith
    op_most (slot.Exit d) = omega arith

    stop_most : (op : SlotOp) → words_in (most get wide) (stop_code op) ≤ 1
    stop_most (slot.Const d n) = omega arith
    stop_most (slot.Null d) = omega arith
    stop_most (slot.StaticAddress d o) = omega arith
    stop_most (slot.TextAddress d k) = omega arith
    stop_most (slot.LocalAddress d x) = omega arith
    stop_most (slot.Load d i k a) = omega arith
    stop_most (slot.Store i j k) = omega arith
    stop_most (slot.ReadRegister d x k a) = omega arith
    stop_most (slot.WriteRegister j x k) = omega arith
    stop_most (slot.Convert d a) = omega arith
    stop_most (slot.Unary d o) = omega arith
    stop_most (slot.Binary d i j o) = omega arith
    stop_most (slot.Compare d i j o) = omega arith
    stop_most (slot.Index d i j size u back) = omega arith
    stop_most (slot.Distance d i j size) = omega arith
    stop_most (slot.Offset d n) = omega arith
    stop_most (slot.Take d i) = omega arith
    stop_most (slot.Jump place) = omega arith
    stop_most (slot.JumpIfZero d place) = omega arith
    stop_most (slot.JumpIfNotZero d place) = omega arith
    stop_most (slot.JumpIfEqual d n place) = omega arith
    stop_most (slot.Call d g n) = omega arith
    stop_most (slot.Return d) = omega arith
    stop_most (slot.Stop q) = omega arith
    stop_most (slot.Move i j s) = omega arith
    stop_most (slot.Zero x) = omega arith
    stop_most (slot.Leave n) = omega arith
    stop_most (slot.GetChar d) = omega arith
    stop_most (slot.PutChar d) = omega arith
    stop_most (slot.Exit d) = omega arith

    weighs : (op : SlotOp) → 1 ≤ weight_of op
    weighs (slot.Const d n) = omega arith
    weighs (slot.Null d) = omega arith
    weighs (slot.StaticAddress d o) = omega arith
    weighs (slot.TextAddress d k) = omega arith
    weighs (slot.LocalAddress d x) = omega arith
    weighs (slot.Load d i k a) = omega arith
    weighs (slot.Store i j k) = omega arith
    weighs (slot.ReadRegister d x k a) = omega arith
    weighs (slot.WriteRegister j x k) = omega arith
    weighs (slot.Convert d a) = omega arith
    weighs (slot.Unary d o) = omega arith
    weighs (slot.Binary d i j o) = omega arith
    weighs (slot.Compare d i j o) = omega arith
    weighs (slot.Index d i j size u back) = omega arith
    weighs (slot.Distance d i j size) = omega arith
    weighs (slot.Offset d n) = omega arith
    weighs (slot.Take d i) = omega arith
    weighs (slot.Jump place) = omega arith
    weighs (slot.JumpIfZero d place) = omega arith
    weighs (slot.JumpIfNotZero d place) = omega arith
    weighs (slot.JumpIfEqual d n place) = omega arith
    weighs (slot.Call d g n) = omega arith
    weighs (slot.Return d) = omega arith
    weighs (slot.Stop q) = omega arith
    weighs (slot.Move i j s) = omega arith
    weighs (slot.Zero x) = omega arith
    weighs (slot.Leave n) = omega arith
    weighs (slot.GetChar d) = omega arith
    weighs (slot.PutChar d) = omega arith
    weighs (slot.Exit d) = omega arith

    one_by : (op : SlotOp) (b : Bool) → words_in (most get wide) (if b then op_code c f l starts op else stop_code op) ≤ 17 * weight_of op
    one_by op true = op_most op
    one_by op false = omega (arith, stop_most op, weighs op)

  pub narrow : (w : FlatOp → ℕ) → ((o : FlatOp) → w o ≤ most get wide o) → IsNarrow w
  narrow w h c f l starts op =
      let below : words_in w (one_code c f l starts op) ≤ words_in (most get wide) (one_code c f l starts op) = no_more w (most get wide) h (one_code c f l starts op) in
      let table : words_in (most get wide) (one_code c f l starts op) ≤ 17 * weight_of op = one_by c f l starts op l.fits in
      omega (arith, below, table)
