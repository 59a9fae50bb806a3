-- The flat code of slot code.
use Rattle.std.specs.Prelude.{ℕ, zero, suc, ◌+◌, ◌*◌, List, [], ◌∷◌, ◌++◌, length, Bool, true, false, Option, Some, None, slice_get, take, map, if◌then◌else◌}
use Rattle.std.specs.Int.{next_multiple_of}
use Rattle.ldb_words.specs.declared.kinds.Kind.{Kind}
use Rattle.ldb_words.specs.declared.kinds.Kind.TheVariants.{Word}
use Rattle.c_tree.specs.declared.types.Leaf.{Leaf}
use Rattle.slot_ir.specs.declared.code.SlotOp.{SlotOp}
use Rattle.slot_ir.specs.declared.code.SlotOp.TheVariants as slot
use Rattle.slot_ir.specs.declared.code.PointerOp.{PointerOp}
use Rattle.slot_ir.specs.declared.code.PointerOp.TheVariants as pointer
use Rattle.slot_ir.specs.declared.code.WordOp.{WordOp}
use Rattle.slot_ir.specs.declared.code.WordOp.TheVariants as word
use Rattle.slot_ir.specs.declared.code.Home.{Home}
use Rattle.slot_ir.specs.declared.code.Home.TheVariants.{Block, Register}
use Rattle.slot_ir.specs.declared.code.SlotCode.{SlotCode}
use Rattle.slot_ir.specs.declared.code.SlotFunction.{SlotFunction}
use Rattle.slot_ir.specs.declared.code.SlotLocal.{SlotLocal}
use Rattle.flat_ir.specs.declared.code.Scratch.TheVariants.{A, B}
use Rattle.flat_ir.specs.declared.code.Request.TheVariants.{GetChar, PutChar, Exit}
use Rattle.flat_ir.specs.declared.code.Landing.{Landing}
use Rattle.flat_ir.specs.declared.code.Landing.TheVariants as landing
use Rattle.flat_ir.specs.declared.code.FlatOp.{FlatOp}
use Rattle.flat_ir.specs.declared.code.FlatOp.TheVariants.{Set, StaticAddress, FrameAddress, Get, Put, Load, Store, Fill, Copy, ReadRegister, WriteRegister, Extend, Unary, Binary, Scale, Apart, Jump, JumpIf, Pass, Argument, Call, Return, Stop, Ask}
use Rattle.flat_ir.specs.declared.code.FlatFunction.{FlatFunction}
use Rattle.flat_ir.specs.declared.code.FlatCode.{FlatCode}
use Rattle.flat_gen.specs.Movers.{movers}
use Rattle.flat_gen.specs.declared.layout.Layout.{Layout}
use Rattle.flat_gen.specs.Layout.{layout}

abbrev pub comparison : PointerOp → WordOp
comparison pointer.Equal = word.Equal
comparison pointer.Unequal = word.Unequal
comparison pointer.Less = word.LessUnsigned
comparison pointer.Greater = word.GreaterUnsigned
comparison pointer.LessEqual = word.LessEqualUnsigned
comparison pointer.GreaterEqual = word.GreaterEqualUnsigned

abbrev pub or_zero : Option ℕ → ℕ
or_zero None = 0
or_zero (Some n) = n

abbrev pub register_by : Home → ℕ
register_by Block = 0
register_by (Register r) = r

abbrev pub register_in : Option SlotLocal → ℕ
register_in None = 0
register_in (Some l) = register_by l.home

-- what the first leaf of a local holds
abbrev pub first_kind : List Leaf → Kind
first_kind [] = Word
first_kind (l ∷ ls) = l.kind

-- the stopping point that an operator may be
abbrev pub stop_code : SlotOp → List FlatOp
stop_code (slot.Stop q) = Stop q ∷ []
stop_code op = []

-- a function of slot code, its layout, and where the flat code of each place in its slot code begins
module _ (c : SlotCode) (f : SlotFunction) (l : Layout) (starts : List ℕ) where
  abbrev pub temporary : ℕ → ℕ
  temporary i = l.temporaries + i * 4

  abbrev pub local_at : ℕ → ℕ
  local_at x = or_zero (slice_get l.locals x)

  abbrev pub register_of : ℕ → ℕ
  register_of x = register_in (slice_get f.locals x)

  abbrev pub start : ℕ → ℕ
  start place = or_zero (slice_get starts place)

  abbrev pub zeros_by : ℕ → (size : ℕ) → Home → List FlatOp
  zeros_by x size Block = FrameAddress A (local_at x) ∷ Fill (next_multiple_of size 4) ∷ []
  zeros_by x size (Register r) = Set A 0 ∷ WriteRegister r ∷ []

  abbrev pub zeros_in : ℕ → Option SlotLocal → List FlatOp
  zeros_in x None = []
  zeros_in x (Some row) = zeros_by x row.size row.home

  -- so many temporaries from d on as arguments
  abbrev pub passes : (d n : ℕ) → List FlatOp
  passes d zero = []
  passes d (suc n) = passes d n ++ Pass n (temporary (d + n)) ∷ []

  abbrev pub op_code : SlotOp → List FlatOp
  op_code (slot.Const d n) = Set A n ∷ Put A (temporary d) ∷ []
  op_code (slot.Null d) = Set A 0 ∷ Put A (temporary d) ∷ []
  op_code (slot.StaticAddress d o) = StaticAddress A o ∷ Put A (temporary d) ∷ []
  op_code (slot.TextAddress d k) = StaticAddress A (length c.objects + k) ∷ Put A (temporary d) ∷ []
  op_code (slot.LocalAddress d x) = FrameAddress A (local_at x) ∷ Put A (temporary d) ∷ []
  op_code (slot.Load d i k a) = Get A (temporary i) ∷ Load a ∷ Put A (temporary d) ∷ []
  op_code (slot.Store i j k) = Get A (temporary i) ∷ Get B (temporary j) ∷ Store k ∷ []
  op_code (slot.ReadRegister d x k a) = ReadRegister (register_of x) a ∷ Put A (temporary d) ∷ []
  op_code (slot.WriteRegister j x k) = Get A (temporary j) ∷ WriteRegister (register_of x) ∷ []
  op_code (slot.Convert d a) = Get A (temporary d) ∷ Extend a ∷ Put A (temporary d) ∷ []
  op_code (slot.Unary d op) = Get A (temporary d) ∷ Unary op ∷ Put A (temporary d) ∷ []
  op_code (slot.Binary d i j op) = Get A (temporary i) ∷ Get B (temporary j) ∷ Binary op ∷ Put A (temporary d) ∷ []
  op_code (slot.Compare d i j op) = Get A (temporary i) ∷ Get B (temporary j) ∷ Binary (comparison op) ∷ Put A (temporary d) ∷ []
  op_code (slot.Index d i j size u back) = Get A (temporary i) ∷ Get B (temporary j) ∷ Scale size back ∷ Put A (temporary d) ∷ []
  op_code (slot.Distance d i j size) = Get A (temporary i) ∷ Get B (temporary j) ∷ Apart size ∷ Put A (temporary d) ∷ []
  op_code (slot.Offset d n) = Get A (temporary d) ∷ Set B n ∷ Binary word.AddUnsigned ∷ Put A (temporary d) ∷ []
  op_code (slot.Take d i) = Get A (temporary i) ∷ Put A (temporary d) ∷ []
  op_code (slot.Jump place) = Jump (start place) ∷ []
  op_code (slot.JumpIfZero d place) = Get A (temporary d) ∷ JumpIf true (start place) ∷ []
  op_code (slot.JumpIfNotZero d place) = Get A (temporary d) ∷ JumpIf false (start place) ∷ []
  op_code (slot.JumpIfEqual d n place) = Get A (temporary d) ∷ Set B n ∷ Binary word.Equal ∷ JumpIf false (start place) ∷ []
  op_code (slot.Call d g n) = passes d n ++ Call g ∷ Put A (temporary d) ∷ []
  op_code (slot.Return d) = Get A (temporary d) ∷ Return ∷ []
  op_code (slot.Stop q) = Stop q ∷ []
  op_code (slot.Move i j s) = Get A (temporary i) ∷ Get B (temporary j) ∷ Copy s ∷ []
  op_code (slot.Zero x) = zeros_in x (slice_get f.locals x)
  op_code (slot.Leave n) = []
  op_code (slot.GetChar d) = Ask GetChar ∷ Put A (temporary d) ∷ []
  op_code (slot.PutChar d) = Get A (temporary d) ∷ Ask PutChar ∷ Put A (temporary d) ∷ []
  op_code (slot.Exit d) = Get A (temporary d) ∷ Ask Exit ∷ []

  -- of a function whose frame is too great, the stopping points alone
  abbrev pub one_code : SlotOp → List FlatOp
  one_code op = if l.fits then op_code op else stop_code op

  abbrev pub ops_code : List SlotOp → List FlatOp
  ops_code [] = []
  ops_code (o ∷ rest) = one_code o ++ ops_code rest

  -- where the code of each operator begins, that of the first at a place
  abbrev pub starts_from : ℕ → List SlotOp → List ℕ
  starts_from n [] = []
  starts_from n (o ∷ rest) = n ∷ starts_from (n + length (one_code o)) rest

  abbrev pub landing_by : ℕ → SlotLocal → Home → Landing
  landing_by x row Block = landing.Frame (local_at x) (first_kind row.leaves)
  landing_by x row (Register r) = landing.Register r

  -- the parameters from number x on
  abbrev pub arguments : ℕ → List SlotLocal → List FlatOp
  arguments x [] = []
  arguments x (row ∷ rows) = Argument x (landing_by x row row.home) ∷ arguments (suc x) rows

  abbrev pub params_code : List FlatOp
  params_code = if l.fits then arguments 0 (take f.params f.locals) else []

  abbrev pub code_by : List FlatOp
  code_by = params_code ++ ops_code f.code

  abbrev pub starts_by : List ℕ
  starts_by = starts_from (length params_code) f.code

-- Where the code of each place begins: how many operators there are does not depend on where jumps go.
unfoldable pub starts_of : SlotCode → SlotFunction → Layout → List ℕ
starts_of c f l = starts_by c f l []

unfoldable pub function_code : SlotCode → SlotFunction → Layout → List FlatOp
function_code c f l = code_by c f l (starts_of c f l)

abbrev pub place_of : List ℕ → ℕ → ℕ
place_of starts place = or_zero (slice_get starts place)

abbrev pub flat_by : SlotCode → SlotFunction → Layout → FlatFunction
flat_by c f l = record { frame = l.frame; locals = l.locals; code = function_code c f l; places = map (place_of (starts_of c f l)) f.places }

-- the flat code of a function, whose frame begins with so many bytes of the target's own
unfoldable pub flat_function : (linkage : ℕ) → SlotCode → SlotFunction → FlatFunction
flat_function linkage c f = flat_by c f (layout linkage f)

-- the flat code of a program: of its functions, and of copies of its structs
unfoldable pub flat_code : (linkage : ℕ) → SlotCode → FlatCode
flat_code linkage c = record { functions = map (flat_function linkage c) c.functions; main = c.main; movers = movers c }
