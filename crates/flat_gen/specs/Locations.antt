-- Where each object stands, and which words stand for a value.
use Rattle.std.specs.Prelude.{◌≡◌, ℕ, ◌+◌, List, length, Option, Some, None, slice_get, option_map, if◌then◌else◌}
use Rattle.c_store.specs.Store.{Value, Number, Null, At, Object, Origin, Static, Text, Auto}
use Rattle.slot_ir.specs.declared.code.SlotCode.{SlotCode}
use Rattle.slot_ir.specs.declared.code.SlotFunction.{SlotFunction}
use Rattle.slot_ir.specs.declared.code.SlotLocal.{SlotLocal}
use Rattle.slot_ir.specs.declared.code.Home.{Home}
use Rattle.slot_ir.specs.declared.code.Home.TheVariants.{Block, Register}
use Rattle.flat_gen.specs.Layout.{layout}
use Rattle.flat_gen.specs.Codes.{or_zero}
use Rattle.flat_gen.specs.Stack.{Activation, from_number, pointer_of}

-- bytes from an address on, or a register of an activation
pub data Location : Type 0 where
  InMemory : (address : ℕ) → Location
  InRegister : (activation register : ℕ) → Location

-- `addresses` are those of the static objects and then of the strings
module _ (linkage : ℕ) (addresses : List ℕ) (c : SlotCode) (ps : List Activation) where
  abbrev pub local_by : (activation : ℕ) → SlotFunction → (local : ℕ) → Home → Location
  local_by n f x Block = InMemory (pointer_of linkage c (from_number n ps) + or_zero (slice_get (layout linkage f).locals x))
  local_by n f x (Register r) = InRegister n r

  abbrev local_row : ℕ → SlotFunction → ℕ → Option SlotLocal → Option Location
  local_row n f x None = None
  local_row n f x (Some l) = Some (local_by n f x l.home)

  abbrev local_in : ℕ → ℕ → Option SlotFunction → Option Location
  local_in n x None = None
  local_in n x (Some f) = local_row n f x (slice_get f.locals x)

  abbrev pub location_from : Origin → Option Location
  location_from (Static o) = option_map InMemory (slice_get addresses o)
  location_from (Text k) = option_map InMemory (slice_get addresses (length c.objects + k))
  location_from (Auto f x n) = local_in n x (slice_get c.functions f)

  -- an object whose lifetime has ended has none
  unfoldable pub location_of : Object → Option Location
  location_of o = if o.live then location_from o.origin else None

  abbrev location_if : Option Object → Option Location
  location_if None = None
  location_if (Some o) = location_of o

  -- of the object of a number
  abbrev pub location_at : List Object → ℕ → Option Location
  location_at objects o = location_if (slice_get objects o)

-- the word of a pointer into an object: any word where its lifetime has ended, and none where it is in a register
abbrev pub Points : Option Location → (offset word : ℕ) → Type 0
Points None i w = Unit {0}
Points (Some (InMemory a)) i w = w ≡ a + i
Points (Some (InRegister n r)) i w = ⊥

-- a word stands for a value
abbrev pub StandsFor : (location : ℕ → Option Location) → Value → ℕ → Type 0
StandsFor location (Number n) w = w ≡ n
StandsFor location Null w = w ≡ 0
StandsFor location (At o i) w = Points (location o) i w
