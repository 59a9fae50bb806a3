-- The operators of both targets go on behind their ends.
use Rattle.std.proofs.Common.{◌≡◌, ◌≤◌, ℕ, ◌+◌, ◌*◌, ◌%◌, ◌^◌, List, [], ◌∷◌, ◌++◌, Bool, true, false, not, length, nat_lt, if◌then◌else◌, refl, ap, ◌∙◌, arith}
use Rattle.std.specs.List.{AllByRecursion}
use Rattle.ldb_words.specs.declared.kinds.Kind.{Kind}
use Rattle.ldb_words.specs.declared.kinds.Kind.TheVariants.{Byte, Word, Address}
use Rattle.obj_file.specs.declared.object.Object.{Object}
use Rattle.slot_ir.specs.declared.code.SlotCode.{SlotCode}
use Rattle.slot_ir.specs.WellFormed.{IsWellFormed}
use Rattle.slot_ir.specs.declared.code.Access.{Access}
use Rattle.slot_ir.specs.declared.code.Access.TheVariants as access
use Rattle.slot_ir.specs.declared.code.UnaryWordOp.{UnaryWordOp}
use Rattle.slot_ir.specs.declared.code.UnaryWordOp.TheVariants as unary
use Rattle.slot_ir.specs.declared.code.WordOp.{WordOp}
use Rattle.slot_ir.specs.declared.code.WordOp.TheVariants as word
use Rattle.flat_ir.specs.declared.code.Landing.{Landing}
use Rattle.flat_ir.specs.declared.code.Landing.TheVariants as landing
use Rattle.flat_ir.specs.declared.code.FlatOp.{FlatOp}
use Rattle.flat_ir.specs.declared.code.FlatOp.TheVariants as flat
use Rattle.flat_ir.specs.declared.code.FlatCode.{FlatCode}
use Rattle.flat_gen.specs.Codes.{flat_code}
use Rattle.gen_parts.specs.Parts.{IsObjectOf}
use Rattle.gen_parts.specs.Text.{program_insns}
use Rattle.mips_isa.specs.declared.insn.Insn.TheVariants.{Lw, Sw}
use Rattle.mips_isa.specs.Step.{is_transfer}
use Rattle.mips_gen.specs.Insns as m
use Rattle.mips_gen.specs.Coding.{mips}
use Rattle.sparc_isa.specs.declared.insn.Insn.TheVariants.{Ld, St}
use Rattle.sparc_isa.specs.declared.operand.Operand.TheVariants.{Register, Immediate}
use Rattle.sparc_gen.specs.Insns as s
use Rattle.sparc_gen.specs.Coding.{sparc}
use Rattle.object_laws.specs.Delayed.{is_delayed}
use Rattle.object_laws.specs.Stops.{HasStops, goes_on_behind, HasPlainEnds}
use Rattle.gen_parts.specs.Links.{IsInOrder}
use Rattle.link_image.specs.Conditions.{has_rows_inside}
use Rattle.object_laws.proofs.Inside.{all_inside, text_least}
use Rattle.object_laws.proofs.Places.{functions_places}
use Rattle.object_laws.proofs.Stops.{behind_both, object_stops}

either : {Insn : Type 0} (is_transfer : Insn → Bool) (b before : Bool) (x y : List Insn) → goes_on_behind is_transfer before x ≡ true → goes_on_behind is_transfer before y ≡ true
    → goes_on_behind is_transfer before (if b then x else y) ≡ true
either is_transfer true before x y h k = h
either is_transfer false before x y h k = k

-- ---- MIPS

mips_get : (before : Bool) (to at : ℕ) → goes_on_behind is_transfer before (m.get_insns to at) ≡ true
unfolding is_transfer
mips_get before to at = either is_transfer (m.is_short at) before (Lw to 29 (at % 2 ^ 16) ∷ m.no_op ∷ []) (m.upper_insns at ++ Lw to 10 (at % 2 ^ 16) ∷ m.no_op ∷ []) refl refl

mips_put : (before : Bool) (from at : ℕ) → goes_on_behind is_transfer before (m.put_insns from at) ≡ true
unfolding is_transfer
mips_put before from at = either is_transfer (m.is_short at) before (Sw from 29 (at % 2 ^ 16) ∷ []) (m.upper_insns at ++ Sw from 10 (at % 2 ^ 16) ∷ []) refl refl

mips_store : (kind : Kind) (from base at : ℕ) → is_transfer (m.store_insn kind from base at) ≡ false
unfolding is_transfer
mips_store Byte from base at = refl
mips_store Word from base at = refl
mips_store Address from base at = refl

mips_extend : (a : Access) → goes_on_behind is_transfer true (m.extend_insns a) ≡ true
unfolding is_transfer
mips_extend access.SignedByte = refl
mips_extend access.UnsignedByte = refl
mips_extend access.SignedHalf = refl
mips_extend access.UnsignedHalf = refl
mips_extend access.Word = refl
mips_extend access.Pointer = refl

mips_unary : (op : UnaryWordOp) → goes_on_behind is_transfer true (m.unary_insns op) ≡ true
unfolding is_transfer
mips_unary unary.Plus = refl
mips_unary unary.Minus = refl
mips_unary unary.MinusUnsigned = refl
mips_unary unary.Complement = refl
mips_unary unary.Not = refl
mips_unary unary.Truth = refl

mips_binary : (op : WordOp) → goes_on_behind is_transfer true (m.binary_insns op) ≡ true
unfolding is_transfer
mips_binary word.Or = refl
mips_binary word.Xor = refl
mips_binary word.And = refl
mips_binary word.Equal = refl
mips_binary word.Unequal = refl
mips_binary word.Less = refl
mips_binary word.Greater = refl
mips_binary word.LessEqual = refl
mips_binary word.GreaterEqual = refl
mips_binary word.LessUnsigned = refl
mips_binary word.GreaterUnsigned = refl
mips_binary word.LessEqualUnsigned = refl
mips_binary word.GreaterEqualUnsigned = refl
mips_binary word.ShiftLeft = refl
mips_binary word.ShiftRight = refl
mips_binary word.ShiftRightUnsigned = refl
mips_binary word.Add = refl
mips_binary word.Subtract = refl
mips_binary word.Multiply = refl
mips_binary word.Divide = refl
mips_binary word.Remainder = refl
mips_binary word.AddUnsigned = refl
mips_binary word.SubtractUnsigned = refl
mips_binary word.MultiplyUnsigned = refl
mips_binary word.DivideUnsigned = refl
mips_binary word.RemainderUnsigned = refl

mips_moved : (back : Bool) → is_transfer (m.moved_insn back) ≡ false
unfolding is_transfer
mips_moved true = refl
mips_moved false = refl

mips_landed : (from : ℕ) (to : Landing) → is_transfer (m.landed_insn from to) ≡ false
unfolding is_transfer
mips_landed from (landing.Frame at kind) = mips_store kind from 29 at
mips_landed from (landing.Register r) = refl

mips_pass : (number at : ℕ) → goes_on_behind is_transfer true (m.pass_insns number at) ≡ true
mips_pass number at =
    either is_transfer (nat_lt number 4) true (m.get_insns (4 + number % 4) at) (m.get_insns 8 at ++ m.put_insns 8 (number * 4)) (mips_get true (4 + number % 4) at)
    (behind_both is_transfer true (m.get_insns 8 at) (m.put_insns 8 (number * 4)) ∙ mips_put (goes_on_behind is_transfer true (m.get_insns 8 at)) 8 (number * 4))

mips_argument : (frame number : ℕ) (to : Landing) → goes_on_behind is_transfer true (m.argument_insns frame number to) ≡ true
mips_argument frame number to =
    either is_transfer (nat_lt number 4) true (m.landed_insn (4 + number % 4) to ∷ []) (m.get_insns 8 (frame + number * 4) ++ m.landed_insn 8 to ∷ []) (ap not (mips_landed (4 + number % 4) to))
    (behind_both is_transfer true (m.get_insns 8 (frame + number * 4)) (m.landed_insn 8 to ∷ []) ∙ ap not (mips_landed 8 to))

mips_operator : (frame : ℕ) (o : FlatOp) → goes_on_behind is_transfer true (m.insns frame o) ≡ true
unfolding is_transfer
mips_operator frame (flat.Set to bits) = refl
mips_operator frame (flat.StaticAddress to object) = refl
mips_operator frame (flat.FrameAddress to at) = refl
mips_operator frame (flat.Get to at) = mips_get true (m.register_of to) at
mips_operator frame (flat.Put from at) = mips_put true (m.register_of from) at
mips_operator frame (flat.Load a) = refl
mips_operator frame (flat.Store kind) = ap not (mips_store kind 9 8 0)
mips_operator frame (flat.Fill bytes) = refl
mips_operator frame (flat.Copy shape) = refl
mips_operator frame (flat.ReadRegister r a) = mips_extend a
mips_operator frame (flat.WriteRegister r) = refl
mips_operator frame (flat.Extend a) = mips_extend a
mips_operator frame (flat.Unary op) = mips_unary op
mips_operator frame (flat.Binary op) = mips_binary op
mips_operator frame (flat.Scale size back) = ap not (mips_moved back)
mips_operator frame (flat.Apart size) = refl
mips_operator frame (flat.Jump place) = refl
mips_operator frame (flat.JumpIf is_zero place) = refl
mips_operator frame (flat.Pass number at) = mips_pass number at
mips_operator frame (flat.Argument number to) = mips_argument frame number to
mips_operator frame (flat.Call function) = refl
mips_operator frame flat.Return = refl
mips_operator frame (flat.Stop point) = refl
mips_operator frame (flat.Ask request) = refl

mips_ends : HasPlainEnds mips m.no_op is_transfer
unfolding is_transfer
mips_ends = record {
  word = λ i. refl;
  stop = λ frame point. refl;
  operator = mips_operator;
  prologue = λ frame. refl;
}

pub mips_stops : (c : SlotCode) (o : Object) → IsWellFormed c → IsObjectOf mips c (flat_code 100 c) o → AllByRecursion (HasStops mips m.no_op is_transfer (program_insns mips (flat_code 100 c)) o.text) o.functions
unfolding flat_code
mips_stops c o h is = object_stops mips m.no_op is_transfer mips_ends c (flat_code 100 c) o (functions_places 100 c c.functions h.1) is

pub mips_inside : (c : SlotCode) (o : Object) → IsWellFormed c → IsObjectOf mips c (flat_code 100 c) o → IsInOrder o → has_rows_inside o ≡ true
mips_inside c o h made order =
    all_inside mips m.no_op is_transfer (program_insns mips (flat_code 100 c)) o.text mips_ends (omega arith) (omega arith) (λ frame. omega arith) c (flat_code 100 c) o made order (mips_stops c o h made)

pub mips_least : (c : SlotCode) (flat : FlatCode) (o : Object) → IsObjectOf mips c flat o → 4 ≤ length o.text
mips_least = text_least mips (omega arith) (omega arith) (λ frame. omega arith) (λ i. refl)

-- ---- SPARC

sparc_get : (before : Bool) (to at : ℕ) → goes_on_behind is_delayed before (s.get_insns to at) ≡ true
sparc_get before to at = either is_delayed (s.is_short at) before (Ld to 14 (Immediate (at % 2 ^ 12)) ∷ []) (s.word_insns 3 at ++ Ld to 14 (Register 3) ∷ []) refl refl

sparc_put : (before : Bool) (from at : ℕ) → goes_on_behind is_delayed before (s.put_insns from at) ≡ true
sparc_put before from at = either is_delayed (s.is_short at) before (St from 14 (Immediate (at % 2 ^ 12)) ∷ []) (s.word_insns 3 at ++ St from 14 (Register 3) ∷ []) refl refl

sparc_store : (kind : Kind) (from base at : ℕ) → is_delayed (s.store_insn kind from base at) ≡ false
sparc_store Byte from base at = refl
sparc_store Word from base at = refl
sparc_store Address from base at = refl

sparc_load : (a : Access) → is_delayed (s.load_insn a) ≡ false
sparc_load access.SignedByte = refl
sparc_load access.UnsignedByte = refl
sparc_load access.SignedHalf = refl
sparc_load access.UnsignedHalf = refl
sparc_load access.Word = refl
sparc_load access.Pointer = refl

sparc_extend : (a : Access) → goes_on_behind is_delayed true (s.extend_insns a) ≡ true
sparc_extend access.SignedByte = refl
sparc_extend access.UnsignedByte = refl
sparc_extend access.SignedHalf = refl
sparc_extend access.UnsignedHalf = refl
sparc_extend access.Word = refl
sparc_extend access.Pointer = refl

sparc_unary : (op : UnaryWordOp) → goes_on_behind is_delayed true (s.unary_insns op) ≡ true
sparc_unary unary.Plus = refl
sparc_unary unary.Minus = refl
sparc_unary unary.MinusUnsigned = refl
sparc_unary unary.Complement = refl
sparc_unary unary.Not = refl
sparc_unary unary.Truth = refl

sparc_binary : (op : WordOp) → goes_on_behind is_delayed true (s.binary_insns op) ≡ true
sparc_binary word.Or = refl
sparc_binary word.Xor = refl
sparc_binary word.And = refl
sparc_binary word.Equal = refl
sparc_binary word.Unequal = refl
sparc_binary word.Less = refl
sparc_binary word.Greater = refl
sparc_binary word.LessEqual = refl
sparc_binary word.GreaterEqual = refl
sparc_binary word.LessUnsigned = refl
sparc_binary word.GreaterUnsigned = refl
sparc_binary word.LessEqualUnsigned = refl
sparc_binary word.GreaterEqualUnsigned = refl
sparc_binary word.ShiftLeft = refl
sparc_binary word.ShiftRight = refl
sparc_binary word.ShiftRightUnsigned = refl
sparc_binary word.Add = refl
sparc_binary word.Subtract = refl
sparc_binary word.Multiply = refl
sparc_binary word.Divide = refl
sparc_binary word.Remainder = refl
sparc_binary word.AddUnsigned = refl
sparc_binary word.SubtractUnsigned = refl
sparc_binary word.MultiplyUnsigned = refl
sparc_binary word.DivideUnsigned = refl
sparc_binary word.RemainderUnsigned = refl

sparc_moved : (back : Bool) → is_delayed (s.moved_insn back) ≡ false
sparc_moved true = refl
sparc_moved false = refl

sparc_landed : (from : ℕ) (to : Landing) → is_delayed (s.landed_insn from to) ≡ false
sparc_landed from (landing.Frame at kind) = sparc_store kind from 14 at
sparc_landed from (landing.Register r) = refl

sparc_pass : (number at : ℕ) → goes_on_behind is_delayed true (s.pass_insns number at) ≡ true
sparc_pass number at =
    either is_delayed (nat_lt number 6) true (s.get_insns (8 + number % 6) at) (s.get_insns 1 at ++ s.put_insns 1 (number * 4 + 68)) (sparc_get true (8 + number % 6) at)
    (behind_both is_delayed true (s.get_insns 1 at) (s.put_insns 1 (number * 4 + 68)) ∙ sparc_put (goes_on_behind is_delayed true (s.get_insns 1 at)) 1 (number * 4 + 68))

sparc_argument : (frame number : ℕ) (to : Landing) → goes_on_behind is_delayed true (s.argument_insns frame number to) ≡ true
sparc_argument frame number to =
    either is_delayed (nat_lt number 6) true (s.landed_insn (24 + number % 6) to ∷ []) (s.get_insns 1 (frame + (number * 4 + 68)) ++ s.landed_insn 1 to ∷ []) (ap not (sparc_landed (24 + number % 6) to))
    (behind_both is_delayed true (s.get_insns 1 (frame + (number * 4 + 68))) (s.landed_insn 1 to ∷ []) ∙ ap not (sparc_landed 1 to))

sparc_operator : (frame : ℕ) (o : FlatOp) → goes_on_behind is_delayed true (s.insns frame o) ≡ true
sparc_operator frame (flat.Set to bits) = refl
sparc_operator frame (flat.StaticAddress to object) = refl
sparc_operator frame (flat.FrameAddress to at) = refl
sparc_operator frame (flat.Get to at) = sparc_get true (s.register_of to) at
sparc_operator frame (flat.Put from at) = sparc_put true (s.register_of from) at
sparc_operator frame (flat.Load a) = ap not (sparc_load a)
sparc_operator frame (flat.Store kind) = ap not (sparc_store kind 2 1 0)
sparc_operator frame (flat.Fill bytes) = refl
sparc_operator frame (flat.Copy shape) = refl
sparc_operator frame (flat.ReadRegister r a) = sparc_extend a
sparc_operator frame (flat.WriteRegister r) = refl
sparc_operator frame (flat.Extend a) = sparc_extend a
sparc_operator frame (flat.Unary op) = sparc_unary op
sparc_operator frame (flat.Binary op) = sparc_binary op
sparc_operator frame (flat.Scale size back) = ap not (sparc_moved back)
sparc_operator frame (flat.Apart size) = refl
sparc_operator frame (flat.Jump place) = refl
sparc_operator frame (flat.JumpIf is_zero place) = refl
sparc_operator frame (flat.Pass number at) = sparc_pass number at
sparc_operator frame (flat.Argument number to) = sparc_argument frame number to
sparc_operator frame (flat.Call function) = refl
sparc_operator frame flat.Return = refl
sparc_operator frame (flat.Stop point) = refl
sparc_operator frame (flat.Ask request) = refl

sparc_ends : HasPlainEnds sparc s.no_op is_delayed
sparc_ends = record {
  word = λ i. refl;
  stop = λ frame point. refl;
  operator = sparc_operator;
  prologue = λ frame. refl;
}

pub sparc_stops : (c : SlotCode) (o : Object) → IsWellFormed c → IsObjectOf sparc c (flat_code 132 c) o → AllByRecursion (HasStops sparc s.no_op is_delayed (program_insns sparc (flat_code 132 c)) o.text) o.functions
unfolding flat_code
sparc_stops c o h is = object_stops sparc s.no_op is_delayed sparc_ends c (flat_code 132 c) o (functions_places 132 c c.functions h.1) is

pub sparc_inside : (c : SlotCode) (o : Object) → IsWellFormed c → IsObjectOf sparc c (flat_code 132 c) o → IsInOrder o → has_rows_inside o ≡ true
sparc_inside c o h made order =
    all_inside sparc s.no_op is_delayed (program_insns sparc (flat_code 132 c)) o.text sparc_ends (omega arith) (omega arith) (λ frame. omega arith) c (flat_code 132 c) o made order (sparc_stops c o h made)

pub sparc_least : (c : SlotCode) (flat : FlatCode) (o : Object) → IsObjectOf sparc c flat o → 4 ≤ length o.text
sparc_least = text_least sparc (omega arith) (omega arith) (λ frame. omega arith) (λ i. refl)
