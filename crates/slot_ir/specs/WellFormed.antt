-- Well-formed slot code: everything that is named is there.
use Rattle.std.specs.Prelude.{◌≡◌, ◌≤◌, ◌<◌, ◌==◌, Bool, true, false, ℕ, suc, zero, ◌+◌, ◌*◌, ◌%◌, ◌^◌, List, [], ◌∷◌, ◌++◌, Option, Some, None, slice_get, length, sum, map, take, ◌⊎◌}
use Rattle.std.specs.Int.{next_multiple_of}
use Rattle.std.specs.List.{AllByRecursion}
use Rattle.ldb_words.specs.declared.kinds.Kind.{Kind}
use Rattle.ldb_words.specs.declared.kinds.Kind.TheVariants.{Byte, Word, Address}
use Rattle.c_tree.specs.declared.types.Leaf.{Leaf}
use Rattle.c_tree.specs.Layout.{repeated}
use Rattle.c_tree.specs.Ordered.{width_of, LieIn, IsAligned}
use Rattle.slot_ir.specs.declared.code.Access.{Access}
use Rattle.slot_ir.specs.declared.code.Access.TheVariants as access
use Rattle.slot_ir.specs.declared.code.SlotOp.{SlotOp}
use Rattle.slot_ir.specs.declared.code.SlotOp.TheVariants.{Const, Null, StaticAddress, TextAddress, LocalAddress, Load, Store, ReadRegister, WriteRegister, Convert, Unary, Binary, Compare, Index, Distance, Offset, Take, Jump, JumpIfZero, JumpIfNotZero, JumpIfEqual, Call, Return, Stop, Move, Zero, Leave, GetChar, PutChar, Exit}
use Rattle.slot_ir.specs.declared.code.Home.TheVariants.{Block, Register}
use Rattle.slot_ir.specs.declared.code.SlotCode.{SlotCode}
use Rattle.slot_ir.specs.declared.code.SlotFunction.{SlotFunction}
use Rattle.slot_ir.specs.declared.code.SlotLocal.{SlotLocal}
use Rattle.slot_ir.specs.declared.code.SlotItem.{SlotItem}
use Rattle.slot_ir.specs.declared.code.SlotItem.TheVariants.{Scalar, Struct}
use Rattle.slot_ir.specs.declared.code.SlotMember.{SlotMember}
use Rattle.slot_ir.specs.declared.code.SlotStruct.{SlotStruct}
use Rattle.slot_ir.specs.declared.code.SlotObject.{SlotObject}
use Rattle.slot_ir.specs.declared.code.SlotStart.{SlotStart}
use Rattle.slot_ir.specs.declared.code.SlotValue.{SlotValue}
use Rattle.slot_ir.specs.declared.code.SlotValue.TheVariants as start
use Rattle.slot_ir.specs.Slots.{leaves_in}

-- the weight of code for a token of the sources, at most, and for the tokens that all sources have at most
abbrev pub operators_of_a_token : ℕ
operators_of_a_token = 6

abbrev pub most_operators : ℕ
most_operators = operators_of_a_token * 40000

abbrev pub most_arguments : ℕ
most_arguments = 16

abbrev pub most_static_bytes : ℕ
most_static_bytes = 1048576

-- a byte is extended, and a word and a pointer are taken whole
abbrev pub IsOfKind : Kind → Access → Type 0
IsOfKind Byte access.SignedByte = Unit {0}
IsOfKind Byte access.UnsignedByte = Unit {0}
IsOfKind Word access.Word = Unit {0}
IsOfKind Address access.Pointer = Unit {0}
IsOfKind k a = ⊥

abbrev IsBlockIn : Option SlotLocal → Type 0
IsBlockIn None = ⊥
IsBlockIn (Some l) = l.home ≡ Block

abbrev IsRegisterIn : Option SlotLocal → Type 0
IsRegisterIn None = ⊥
IsRegisterIn (Some l) = elim l.home as (λ h. Type 0) [ Block ↦ ⊥ | Register r ↦ r < 8 ]

abbrev TakesIn : Option SlotFunction → (arguments : ℕ) → Type 0
TakesIn None n = ⊥
TakesIn (Some f) n = (n ≡ f.params) × (n ≤ most_arguments)

abbrev ParamsIn : Option SlotFunction → Type 0
ParamsIn None = ⊥
ParamsIn (Some f) = f.params ≡ 0

abbrev pub members_in : Option SlotStruct → List SlotMember
members_in None = []
members_in (Some s) = s.members

-- a struct that has members, as a complete one has (C90 6.5.2.1)
abbrev pub IsFilled : Option SlotStruct → Type 0
IsFilled s = 1 ≤ length (members_in s)

abbrev pub IsAmong : ℕ → List ℕ → Type 0
IsAmong q [] = ⊥
IsAmong q (r ∷ rs) = (q ≡ r) ⊎ IsAmong q rs

-- no two of these are the same
abbrev pub Differ : List ℕ → Type 0
Differ [] = Unit {0}
Differ (q ∷ qs) = (IsAmong q qs → ⊥) × Differ qs

-- the place is listed for the point
abbrev pub IsListed : (point place : ℕ) → List ℕ → List ℕ → Type 0
IsListed q i [] is = ⊥
IsListed q i (r ∷ rs) [] = ⊥
IsListed q i (r ∷ rs) (j ∷ js) = ((q ≡ r) × (i ≡ j)) ⊎ IsListed q i rs js

module _ (c : SlotCode) (f : SlotFunction) where
  abbrev IsTemp : ℕ → Type 0
  IsTemp i = i < f.temporaries

  abbrev IsPlace : ℕ → Type 0
  IsPlace i = i < length f.code

  abbrev pub NamesWhatIsThere : SlotOp → Type 0
  NamesWhatIsThere (Const d n) = IsTemp d × (n < 2 ^ 32)
  NamesWhatIsThere (Null d) = IsTemp d
  NamesWhatIsThere (StaticAddress d o) = IsTemp d × (o < length c.objects)
  NamesWhatIsThere (TextAddress d k) = IsTemp d × (k < length c.strings)
  NamesWhatIsThere (LocalAddress d x) = IsTemp d × IsBlockIn (slice_get f.locals x)
  NamesWhatIsThere (Load d i k a) = IsTemp d × IsTemp i × IsOfKind k a
  NamesWhatIsThere (Store i j k) = IsTemp i × IsTemp j
  NamesWhatIsThere (ReadRegister d x k a) = IsTemp d × IsRegisterIn (slice_get f.locals x) × IsOfKind k a
  NamesWhatIsThere (WriteRegister j x k) = IsTemp j × IsRegisterIn (slice_get f.locals x)
  NamesWhatIsThere (Convert d a) = IsTemp d
  NamesWhatIsThere (Unary d op) = IsTemp d
  NamesWhatIsThere (Binary d i j op) = IsTemp d × IsTemp i × IsTemp j
  NamesWhatIsThere (Compare d i j op) = IsTemp d × IsTemp i × IsTemp j
  NamesWhatIsThere (Index d i j size u back) = IsTemp d × IsTemp i × IsTemp j × (size ≤ most_static_bytes)
  NamesWhatIsThere (Distance d i j size) = IsTemp d × IsTemp i × IsTemp j × (1 ≤ size) × (size ≤ most_static_bytes)
  NamesWhatIsThere (Offset d n) = IsTemp d × (n ≤ most_static_bytes)
  NamesWhatIsThere (Take d i) = IsTemp d × IsTemp i
  NamesWhatIsThere (Jump place) = IsPlace place
  NamesWhatIsThere (JumpIfZero d place) = IsTemp d × IsPlace place
  NamesWhatIsThere (JumpIfNotZero d place) = IsTemp d × IsPlace place
  NamesWhatIsThere (JumpIfEqual d n place) = IsTemp d × (n < 2 ^ 32) × IsPlace place
  NamesWhatIsThere (Call d g n) = IsTemp d × (d + n ≤ f.temporaries) × TakesIn (slice_get c.functions g) n
  NamesWhatIsThere (Return d) = IsTemp d
  NamesWhatIsThere (Stop q) = IsAmong q f.points
  NamesWhatIsThere (Move i j s) = IsTemp i × IsTemp j × IsFilled (slice_get c.structs s)
  NamesWhatIsThere (Zero x) = x < length f.locals
  NamesWhatIsThere (Leave n) = n ≤ length f.locals
  NamesWhatIsThere (GetChar d) = IsTemp d
  NamesWhatIsThere (PutChar d) = IsTemp d
  NamesWhatIsThere (Exit d) = IsTemp d

  -- the places of the stopping points
  abbrev pub PlacesOf : List ℕ → List ℕ → Type 0
  PlacesOf [] [] = Unit {0}
  PlacesOf (q ∷ qs) (i ∷ is) = (slice_get f.code i ≡ Some (Stop q)) × PlacesOf qs is
  PlacesOf _ _ = ⊥

  -- a stop stands nowhere but at a place that is listed for its point
  abbrev pub StopsAreListed : Type 0
  StopsAreListed = (i q : ℕ) → slice_get f.code i ≡ Some (Stop q) → IsListed q i f.points f.places

-- ---- leaves

-- leaves of something of a size: in order, apart and inside it, each at a multiple of its width, and with at most four bytes for each
abbrev pub AreLeavesOf : (size : ℕ) → List Leaf → Type 0
AreLeavesOf size ls = LieIn 0 ls size × AllByRecursion IsAligned ls × (size ≤ 4 * length ls)

-- one leaf, which is the whole local, and into which an argument is converted by its kind
abbrev pub IsScalar : SlotLocal → Type 0
IsScalar l = (leaf : Leaf) × (l.leaves ≡ leaf ∷ []) × (leaf.at ≡ 0) × (l.size ≡ width_of leaf.kind) × IsOfKind leaf.kind l.access

-- ---- functions

-- a local in a register is a scalar
abbrev pub FitsHome : SlotLocal → Type 0
FitsHome l = elim l.home as (λ h. Type 0) [ Block ↦ Unit {0} | Register r ↦ (r < 8) × IsScalar l ]

-- a local has a leaf
abbrev pub IsLocal : SlotLocal → Type 0
IsLocal l = (1 ≤ length l.leaves) × (l.size ≤ most_static_bytes) × AreLeavesOf l.size l.leaves × FitsHome l

-- no two locals share a register
abbrev pub HaveOwnRegisters : List SlotLocal → Type 0
HaveOwnRegisters ls = (x y r : ℕ) (l k : SlotLocal) → slice_get ls x ≡ Some l → slice_get ls y ≡ Some k → l.home ≡ Register r → k.home ≡ Register r → x ≡ y

-- behind the operator nothing goes on with the next one
abbrev IsLast : SlotOp → Type 0
IsLast (Jump place) = Unit {0}
IsLast (Return d) = Unit {0}
IsLast (Exit d) = Unit {0}
IsLast op = ⊥

abbrev pub EndsBehind : SlotOp → List SlotOp → Type 0
EndsBehind op [] = IsLast op
EndsBehind op (next ∷ ops) = EndsBehind next ops

-- a code has operators, and none runs past its end
abbrev pub IsClosed : List SlotOp → Type 0
IsClosed [] = ⊥
IsClosed (op ∷ ops) = EndsBehind op ops

abbrev pub IsFunction : SlotCode → SlotFunction → Type 0
IsFunction c f =
    IsClosed f.code × (f.params ≤ length f.locals) × (f.params ≤ most_arguments) × AllByRecursion IsScalar (take f.params f.locals) × AllByRecursion IsLocal f.locals
    × HaveOwnRegisters f.locals × AllByRecursion (NamesWhatIsThere c f) f.code × PlacesOf c f f.points f.places × StopsAreListed c f × Differ f.points

-- ---- structs

abbrev pub size_in : Option SlotStruct → ℕ
size_in None = 0
size_in (Some s) = s.size

module _ (c : SlotCode) where
  abbrev pub item_size : SlotItem → ℕ
  item_size (Scalar k) = width_of k
  item_size (Struct s) = size_in (slice_get c.structs s)

  abbrev pub item_leaves : SlotItem → List Leaf
  item_leaves (Scalar k) = record { at = 0; kind = k } ∷ []
  item_leaves (Struct s) = leaves_in (slice_get c.structs s)

  abbrev pub leaves_by : List SlotMember → List Leaf
  leaves_by [] = []
  leaves_by (m ∷ ms) = repeated m.items (item_size m.item) m.at (item_leaves m.item) ++ leaves_by ms

  abbrev pub IsItemThere : SlotItem → Type 0
  IsItemThere (Scalar k) = Unit {0}
  IsItemThere (Struct s) = IsFilled (slice_get c.structs s)

  -- a member has an item, of a struct that has members
  abbrev pub IsMember : SlotMember → Type 0
  IsMember m = (1 ≤ m.items) × (m.items ≤ most_static_bytes) × IsItemThere m.item

  abbrev pub member_size : SlotMember → ℕ
  member_size m = m.items * item_size m.item

  -- members in order and apart between two offsets
  abbrev pub MembersLieIn : ℕ → List SlotMember → ℕ → Type 0
  MembersLieIn from [] end = from ≤ end
  MembersLieIn from (m ∷ ms) end = (from ≤ m.at) × MembersLieIn (m.at + member_size m) ms end

  -- a member that is the only one is the whole of its struct
  abbrev pub IsWholeAlone : (size : ℕ) → List SlotMember → Type 0
  IsWholeAlone size (m ∷ []) = (m.at ≡ 0) × (member_size m ≡ size)
  IsWholeAlone size _ = Unit {0}

  abbrev pub IsStruct : SlotStruct → Type 0
  IsStruct s =
      (s.size ≤ most_static_bytes) × AreLeavesOf s.size s.leaves × (s.leaves ≡ leaves_by s.members) × AllByRecursion IsMember s.members
      × MembersLieIn 0 s.members s.size × IsWholeAlone s.size s.members

  -- A struct holds structs that hold others, at most so many levels deep. More than one item is a level too, since a copy counts them.
  abbrev pub NestsWithin : (deep : ℕ) → (is_one : Bool) → SlotItem → Type 0
  NestsWithin zero true (Scalar k) = Unit {0}
  NestsWithin zero true (Struct s) = ⊥
  NestsWithin zero false item = ⊥
  NestsWithin (suc deep) true (Scalar k) = Unit {0}
  NestsWithin (suc deep) true (Struct s) = AllByRecursion (λ (m : SlotMember). NestsWithin deep (m.items == 1) m.item) (members_in (slice_get c.structs s))
  NestsWithin (suc deep) false item = NestsWithin deep true item

abbrev pub most_nested : ℕ
most_nested = 63

-- ---- static objects

-- an address lies in its object, or is its end
abbrev IsInside : ℕ → Option SlotObject → Type 0
IsInside i None = ⊥
IsInside i (Some o) = i ≤ o.size

abbrev IsValueIn : SlotCode → SlotValue → Type 0
IsValueIn c (start.Number n) = n < 2 ^ 32
IsValueIn c start.Null = Unit {0}
IsValueIn c (start.Object o i) = IsInside i (slice_get c.objects o)
IsValueIn c (start.Str k) = k < length c.strings

-- a start of one byte is a number
abbrev pub IsNumber : SlotValue → Type 0
IsNumber (start.Number n) = Unit {0}
IsNumber _ = ⊥

abbrev pub IsWide : SlotStart → Type 0
IsWide s = (s.width ≡ 4) ⊎ ((s.width ≡ 1) × IsNumber s.value)

-- starts in order and apart between two offsets, each at a multiple of its width
abbrev pub StartsLieIn : ℕ → List SlotStart → ℕ → Type 0
StartsLieIn from [] end = from ≤ end
StartsLieIn from (s ∷ ss) end = (from ≤ s.at) × (s.at % s.width ≡ 0) × StartsLieIn (s.at + s.width) ss end

abbrev pub IsStart : SlotCode → SlotStart → Type 0
IsStart c s = IsWide s × IsValueIn c s.value

abbrev pub IsObject : SlotCode → SlotObject → Type 0
IsObject c o = AllByRecursion (IsStart c) o.start × StartsLieIn 0 o.start o.size

-- the bytes of static objects and strings: each size rounded up to 4, and 4 more
abbrev room : ℕ → ℕ
room size = next_multiple_of size 4 + 4

abbrev pub static_bytes : SlotCode → ℕ
static_bytes c = sum (map (λ (o : SlotObject). room o.size) c.objects) + sum (map (λ (s : List ℕ). room (length s + 1)) c.strings)

-- the room that an operator takes in a text: a call takes one more for each argument
abbrev pub weight_of : SlotOp → ℕ
weight_of (Call d f n) = 1 + n
weight_of op = 1

abbrev pub weight : List SlotOp → ℕ
weight [] = 0
weight (op ∷ ops) = weight_of op + weight ops

-- that of a function, which begins and ends in the room of 16 operators
abbrev pub function_weight : SlotFunction → ℕ
function_weight f = 16 + weight f.code

-- and that of the code that copies a struct
abbrev pub struct_weight : SlotStruct → ℕ
struct_weight s = 2 + 3 * length s.members

abbrev pub weight_in : SlotCode → ℕ
weight_in c = sum (map function_weight c.functions) + sum (map struct_weight c.structs)

abbrev pub IsWellFormed : SlotCode → Type 0
IsWellFormed c =
    ParamsIn (slice_get c.functions c.main) × AllByRecursion (IsFunction c) c.functions × AllByRecursion (IsObject c) c.objects
    × AllByRecursion (IsStruct c) c.structs × ((s : ℕ) → NestsWithin c most_nested true (Struct s)) × (static_bytes c ≤ most_static_bytes) × (weight_in c ≤ most_operators)
