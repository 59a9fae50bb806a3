-- What flat code does, operator by operator.
use Rattle.std.specs.Prelude.{ℕ, suc, zero, ◌+◌, ◌-◌, ◌*◌, ◌%◌, ◌^◌, List, [], ◌∷◌, ◌++◌, Bool, true, false, ◌==◌, ◌&&◌, not, nat_le, pos, int_div, Option, Some, None, Result, Ok, Err, replicate, slice_get, slice_index, drop, length, if◌then◌else◌}
use Rattle.std.specs.Int.{cast_signed, w16}
use Rattle.ldb_words.specs.declared.kinds.Undef.{Undef}
use Rattle.ldb_words.specs.declared.kinds.Undef.TheVariants.{Division}
use Rattle.ldb_words.specs.declared.kinds.Order.{Order}
use Rattle.ldb_words.specs.Word.{signed, word_of_signed, sum_of, difference_of, bit_of}
use Rattle.machine_state.specs.declared.layout.TheConstants.{DATA, DATA_SIZE, STACK, FIRST_STACK_POINTER}
use Rattle.c_tree.specs.declared.types.Leaf.{Leaf}
use Rattle.runs.specs.Runs.{Next, Goes, Passes, Exits, Undefined, Reason, IllTyped}
use Rattle.c_operators.specs.Bits.{low_byte, minus_one, signed_negate, subtract, multiply}
use Rattle.slot_ir.specs.declared.code.Access.{Access}
use Rattle.slot_ir.specs.declared.code.Access.TheVariants.{SignedByte, UnsignedByte, SignedHalf, UnsignedHalf, Word, Pointer}
use Rattle.slot_ir.specs.declared.code.UnaryWordOp.{UnaryWordOp}
use Rattle.slot_ir.specs.declared.code.UnaryWordOp.TheVariants as unary
use Rattle.slot_ir.specs.Operators.{on_words}
use Rattle.flat_ir.specs.declared.code.Scratch.{Scratch}
use Rattle.flat_ir.specs.declared.code.Scratch.TheVariants.{A, B}
use Rattle.flat_ir.specs.declared.code.Request.{Request}
use Rattle.flat_ir.specs.declared.code.Request.TheVariants.{GetChar, PutChar, Exit}
use Rattle.flat_ir.specs.declared.code.Landing.{Landing}
use Rattle.flat_ir.specs.declared.code.Landing.TheVariants as landing
use Rattle.flat_ir.specs.declared.code.FlatOp.{FlatOp}
use Rattle.flat_ir.specs.declared.code.FlatOp.TheVariants.{Set, StaticAddress, FrameAddress, Get, Put, Load, Store, Fill, Copy, ReadRegister, WriteRegister, Extend, Unary, Binary, Scale, Apart, Jump, JumpIf, Pass, Argument, Call, Return, Stop, Ask}
use Rattle.flat_ir.specs.declared.code.FlatFunction.{FlatFunction}
use Rattle.flat_ir.specs.declared.code.FlatCode.{FlatCode}
use Rattle.flat_ir.specs.Memory.{Memory, Spot, Reserved, Unknown, Known, width_of, spots_at, are_open, is_aligned, overlaid, read_at, written_at, copied, may_hold, opened, closed, is_from}

-- what is known of each of the eight registers
abbrev pub Registers : Type 0
Registers = ℕ → Option ℕ

abbrev pub no_registers : Registers
no_registers r = None

abbrev pub with_register : Registers → ℕ → Option ℕ → Registers
with_register registers r w i = if i == r then w else registers i

-- an activation: its function, where it goes on, its stack pointer, and its registers
pub record FlatFrame : Type 0 where
  pub function : ℕ
  pub pc : ℕ
  pub sp : ℕ
  pub registers : Registers

-- `a` and `b` are the scratch words where they are known. `passing` are the arguments passed for the next call, and `given` those of the call just made. Once `ended`, the program exits with A.
pub record FlatState : Type 0 where
  pub here : FlatFrame
  pub a : Option ℕ
  pub b : Option ℕ
  pub passing : List ℕ
  pub given : List ℕ
  pub outer : List FlatFrame
  pub memory : Memory
  pub input : List ℕ
  pub output : List ℕ
  pub ended : Bool

-- What a target settles: its byte order, how many bytes at the stack pointer are its own, and the addresses of the static objects and then of the strings. Of the program, the leaves of each struct.
pub record Setting : Type 0 where
  pub order : Order
  pub linkage : ℕ
  pub addresses : List ℕ
  pub structs : List (List Leaf)

abbrev pub leaves_in : Option (List Leaf) → List Leaf
leaves_in None = []
leaves_in (Some ls) = ls

abbrev pub leaves_of : Setting → ℕ → List Leaf
leaves_of setting k = leaves_in (slice_get setting.structs k)

abbrev pub frame_in : Option FlatFunction → ℕ
frame_in None = 0
frame_in (Some f) = f.frame

abbrev pub frame_of : FlatCode → ℕ → ℕ
frame_of c f = frame_in (slice_get c.functions f)

abbrev pub code_in : Option FlatFunction → List FlatOp
code_in None = []
code_in (Some f) = f.code

abbrev pub code_of : FlatCode → ℕ → List FlatOp
code_of c f = code_in (slice_get c.functions f)

-- ---- words

abbrev pub width_by : Access → ℕ
width_by SignedByte = 1
width_by UnsignedByte = 1
width_by SignedHalf = 2
width_by UnsignedHalf = 2
width_by Word = 4
width_by Pointer = 4

-- a word as a value of a width and sign
abbrev pub extended : Access → ℕ → ℕ
extended SignedByte n = low_byte n
extended UnsignedByte n = n % 2 ^ 8
extended SignedHalf n = word_of_signed (cast_signed w16 (n % 2 ^ 16))
extended UnsignedHalf n = n % 2 ^ 16
extended Word n = n
extended Pointer n = n

unfoldable pub on_word : UnaryWordOp → ℕ → Result ℕ Undef
on_word unary.Plus n = Ok n
on_word unary.Minus n = signed_negate n
on_word unary.MinusUnsigned n = Ok (subtract 0 n)
on_word unary.Complement n = Ok (minus_one - n)
on_word unary.Not n = Ok (bit_of (n == 0))
on_word unary.Truth n = Ok (bit_of (not (n == 0)))

-- an address moved by some items
unfoldable pub scaled : (size : ℕ) (back : Bool) → ℕ → ℕ → ℕ
scaled size false a b = sum_of a (multiply size b)
scaled size true a b = difference_of a (multiply size b)

unfoldable pub items_apart : (size : ℕ) → ℕ → ℕ → Result ℕ Undef
items_apart zero a b = Err Division
items_apart (suc size) a b = Ok (word_of_signed (int_div (signed (difference_of a b)) (pos (suc size))))

-- the lowest stack pointer: the lowest 256 bytes of the stack belong to copies of structs
abbrev pub lowest_pointer : ℕ
lowest_pointer = STACK + 256

-- ---- how many machine steps an operator takes at most, on either target

abbrev pub count_of : Setting → FlatOp → ℕ
count_of setting (Set to bits) = 2
count_of setting (StaticAddress to object) = 2
count_of setting (FrameAddress to at) = 3
count_of setting (Get to at) = 4
count_of setting (Put from at) = 3
count_of setting (Load access) = 2
count_of setting (Store kind) = 1
count_of setting (Fill bytes) = 10 + 2 * bytes
count_of setting (Copy shape) = 55 + 126 * length (leaves_of setting shape)
count_of setting (ReadRegister register access) = 3
count_of setting (WriteRegister register) = 1
count_of setting (Extend access) = 2
count_of setting (Unary op) = 4
count_of setting (Binary op) = 17
count_of setting (Scale size back) = 6
count_of setting (Apart size) = 10
count_of setting (Jump place) = 2
count_of setting (JumpIf is_zero place) = 5
count_of setting (Pass number at) = 5
count_of setting (Argument number to) = 5
count_of setting (Call function) = 30
count_of setting Return = 25
count_of setting (Stop point) = 1
count_of setting (Ask request) = 4

-- ---- steps

abbrev pub on : {A : Type 0} → Option A → (A → Next FlatState) → Next FlatState
on None go = Undefined IllTyped
on (Some x) go = go x

abbrev pub on_ok : Result ℕ Undef → (ℕ → Next FlatState) → Next FlatState
on_ok (Ok x) go = go x
on_ok (Err r) go = Undefined (Reason r)

abbrev pub where_ : Bool → Next FlatState → Next FlatState
where_ true go = go
where_ false go = Undefined IllTyped

abbrev pub next_byte : List ℕ → ℕ
next_byte [] = minus_one
next_byte (b ∷ bs) = b

module _ (c : FlatCode) (setting : Setting) (s : FlatState) (count : ℕ) where
  -- Every operator but those of a call forgets what was passed and given.
  abbrev pub at_place : ℕ → FlatState
  at_place place = record s { here = record s.here { pc = place }; passing = []; given = [] }

  abbrev pub onward : FlatState
  onward = at_place (s.here.pc + 1)

  abbrev pub holding : Scratch → FlatState → ℕ → FlatState
  holding A t w = record t { a = Some w }
  holding B t w = record t { b = Some w }

  abbrev pub scratch : Scratch → Option ℕ
  scratch A = s.a
  scratch B = s.b

  abbrev pub sets : Scratch → ℕ → Next FlatState
  sets to w = Goes count (holding to onward w)

  abbrev pub stores : Option Memory → Next FlatState
  stores m = on m (λ m. Goes count (record onward { memory = m }))

  -- the bytes may be read and written
  abbrev pub has_room : ℕ → ℕ → Bool
  has_room at bytes = is_aligned at 4 && are_open (spots_at s.memory at bytes)

  abbrev pub overlays : ℕ → List Spot → Next FlatState
  overlays at spots = Goes count (record onward { memory = overlaid s.memory at spots; a = None; b = None })

  abbrev pub copies : List Leaf → ℕ → ℕ → Next FlatState
  copies ls to from =
      where_ (may_hold ls s.memory to && may_hold ls s.memory from)
      (Goes count (record onward { memory = copied ls s.memory to from; a = None; b = None }))

  abbrev pub with_registers : Registers → FlatState
  with_registers rs = record onward { here = record onward.here { registers = rs } }

  abbrev pub lands : Landing → ℕ → Next FlatState
  lands (landing.Frame at kind) w =
      on (written_at setting.order s.memory (s.here.sp + at) (width_of kind) w)
      (λ m. Goes count (record onward { memory = m; given = s.given; a = None; b = None }))
  lands (landing.Register r) w =
      Goes count (record (with_registers (with_register s.here.registers r (Some w))) { given = s.given; a = None; b = None })

  abbrev pub passes : ℕ → ℕ → Next FlatState
  passes number w = where_ (number == length s.passing) (Goes count (record onward { passing = s.passing ++ w ∷ []; a = None }))

  -- a new activation, for which there has to be room on the stack
  abbrev pub enters : ℕ → Next FlatState
  enters f =
      where_ (nat_le (lowest_pointer + frame_of c f) s.here.sp)
      (Goes count (record s {
        here = record { function = f; pc = 0; sp = s.here.sp - frame_of c f; registers = no_registers };
        a = None;
        b = None;
        passing = [];
        given = s.passing;
        outer = record s.here { pc = s.here.pc + 1 } ∷ s.outer;
        memory = opened (s.here.sp - frame_of c f + setting.linkage) s.here.sp s.memory;
      }))

  abbrev pub ends : ℕ → FlatState
  ends w = record onward { a = Some w; b = None; ended = true }

  -- the innermost activation ends, and its frame is the program's no more
  abbrev pub returns : ℕ → List FlatFrame → Next FlatState
  returns w [] = Goes count (ends w)
  returns w (f ∷ outer) =
      Goes count (record s {
        here = f;
        b = None;
        passing = [];
        given = [];
        outer = outer;
        memory = closed s.here.sp (s.here.sp + frame_of c s.here.function) s.memory;
      })

  abbrev pub asks : Request → Next FlatState
  asks GetChar = Goes count (record onward { a = Some (next_byte s.input); b = None; input = drop 1 s.input })
  asks PutChar = on s.a (λ w. Goes count (record onward { a = Some (w % 256); b = None; output = s.output ++ (w % 256) ∷ [] }))
  asks Exit = on s.a (λ w. Goes count (ends w))

  abbrev pub jumps_if : Bool → ℕ → Next FlatState
  jumps_if true place = Goes count (at_place place)
  jumps_if false place = Goes count onward

  abbrev pub act : FlatOp → Next FlatState
  act (Set to w) = sets to w
  act (StaticAddress to k) = on (slice_get setting.addresses k) (sets to)
  act (FrameAddress to at) = sets to (s.here.sp + at)
  act (Get to at) = on (read_at setting.order s.memory (s.here.sp + at) 4) (sets to)
  act (Put from at) = on (scratch from) (λ w. stores (written_at setting.order s.memory (s.here.sp + at) 4 w))
  act (Load k) = on s.a (λ at. on (read_at setting.order s.memory at (width_by k)) (λ w. sets A (extended k w)))
  act (Store k) = on s.a (λ at. on s.b (λ w. stores (written_at setting.order s.memory at (width_of k) w)))
  act (Fill n) = on s.a (λ at. where_ (has_room at n && (n % 4 == 0) && not (n == 0)) (overlays at (replicate n (Known 0))))
  act (Copy k) = on s.a (λ to. on s.b (λ from. copies (leaves_of setting k) to from))
  act (ReadRegister r k) = on (s.here.registers r) (λ w. sets A (extended k w))
  act (WriteRegister r) = on s.a (λ w. Goes count (with_registers (with_register s.here.registers r (Some w))))
  act (Extend k) = on s.a (λ w. sets A (extended k w))
  act (Unary op) = on s.a (λ x. on_ok (on_word op x) (sets A))
  act (Binary op) = on s.a (λ x. on s.b (λ y. on_ok (on_words op x y) (sets A)))
  act (Scale size back) = on s.a (λ x. on s.b (λ y. sets A (scaled size back x y)))
  act (Apart size) = on s.a (λ x. on s.b (λ y. on_ok (items_apart size x y) (sets A)))
  act (Jump place) = Goes count (at_place place)
  act (JumpIf is_zero place) = on s.a (λ w. jumps_if (if is_zero then w == 0 else not (w == 0)) place)
  act (Pass number at) = on (read_at setting.order s.memory (s.here.sp + at) 4) (passes number)
  act (Argument number to) = on (slice_get s.given number) (lands to)
  act (Call f) = enters f
  act Return = on s.a (λ w. returns w s.outer)
  act (Stop q) = Passes q 1 (record onward { a = None; b = None })
  act (Ask request) = asks request

-- one step of flat code
unfoldable pub step : FlatCode → Setting → FlatState → Next FlatState
step c setting s =
    if s.ended then on s.a (λ w. Exits (signed w) 1 s) else
    on (slice_get (code_of c s.here.function) s.here.pc) (λ op. act c setting s (count_of setting op) op)

-- ---- the beginning

-- the data begin with the bytes of the static objects, and the stack with the frame of `main`
unfoldable pub first_memory : (statics : List ℕ) → (low : ℕ) → Memory
first_memory statics low b =
    if is_from low FIRST_STACK_POINTER b then Unknown else
    if is_from DATA (DATA + DATA_SIZE) b then Known (slice_index statics (b - DATA)) else
    Reserved

unfoldable pub begin : FlatCode → Setting → (statics input : List ℕ) → FlatState
begin c setting statics input = record {
  here = record { function = c.main; pc = 0; sp = FIRST_STACK_POINTER - frame_of c c.main; registers = no_registers };
  a = None;
  b = None;
  passing = [];
  given = [];
  outer = [];
  memory = first_memory statics (FIRST_STACK_POINTER - frame_of c c.main + setting.linkage);
  input = input;
  output = [];
  ended = false;
}
