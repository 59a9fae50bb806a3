-- When the bytes of a memory and the words of registers stand for the leaves of the store's objects.
use Rattle.std.specs.Prelude.{◌≡◌, ◌≢◌, ◌≤◌, ◌<◌, ◌⊎◌, ℕ, ◌+◌, ◌%◌, ◌^◌, List, Option, Some, None, slice_get}
use Rattle.ldb_words.specs.declared.kinds.Order.{Order}
use Rattle.ldb_words.specs.declared.kinds.Kind.{Kind}
use Rattle.ldb_words.specs.declared.kinds.Kind.TheVariants.{Byte, Word, Address}
use Rattle.c_store.specs.Store.{Value, Number, Null, At, Cell, Object}
use Rattle.flat_ir.specs.Memory.{Memory, number_at, width_of}
use Rattle.flat_gen.specs.Locations.{Location, InMemory, InRegister, StandsFor}

-- a byte stands for a number that it is the low 8 bits of
abbrev pub ByteStands : Value → ℕ → Type 0
ByteStands (Number n) b = b ≡ n % 256
ByteStands Null b = ⊥
ByteStands (At o i) b = ⊥

-- the null pointer or a pointer into an object
abbrev pub IsPointer : Value → Type 0
IsPointer (Number n) = ⊥
IsPointer Null = Unit {0}
IsPointer (At o i) = Unit {0}

-- a number of a leaf's width stands for its value
abbrev pub KindStands : (location : ℕ → Option Location) → Kind → Value → ℕ → Type 0
KindStands location Byte v b = ByteStands v b
KindStands location Word v w = StandsFor location v w
KindStands location Address v w = StandsFor location v w × IsPointer v

-- `registers` has what is known of the registers of each activation
module _ (order : Order) (location : ℕ → Option Location) (m : Memory) (registers : (activation register : ℕ) → Option ℕ) where
  -- a leaf of this kind and value stands from an address on
  abbrev pub StandsAt : Kind → Value → ℕ → Type 0
  StandsAt k v a = (w : ℕ) × (number_at order m a (width_of k) ≡ Some w) × KindStands location k v w

  -- in a register, whose low bits count
  abbrev pub StandsIn : Kind → Value → Option ℕ → Type 0
  StandsIn k v None = ⊥
  StandsIn k v (Some w) = (w < 2 ^ 32) × KindStands location k v (w % 256 ^ width_of k)

  abbrev pub LeafStands : Option Location → Cell → Type 0
  LeafStands None c = Unit {0}
  LeafStands (Some (InMemory a)) c = StandsAt c.kind c.value (a + c.at)
  LeafStands (Some (InRegister n r)) c = (c.at ≡ 0) × StandsIn c.kind c.value (registers n r)

-- an object's leaves are aligned, inside it, and one behind another
pub record IsFormed (ob : Object) : Type 0 where
  pub inside : (i : ℕ) (c : Cell) → slice_get ob.cells i ≡ Some c → c.at + width_of c.kind ≤ ob.size
  pub aligned : (i : ℕ) (c : Cell) → slice_get ob.cells i ≡ Some c → c.at % width_of c.kind ≡ 0
  pub apart : (i j : ℕ) (c d : Cell) → i < j → slice_get ob.cells i ≡ Some c → slice_get ob.cells j ≡ Some d → c.at + width_of c.kind ≤ d.at

-- a number of 32 bits, or a pointer into an object that was made
abbrev pub IsSane : List Object → Value → Type 0
IsSane objects (Number n) = n < 2 ^ 32
IsSane objects Null = Unit {0}
IsSane objects (At o i) = (ob : Object) × (slice_get objects o ≡ Some ob) × (i ≤ ob.size)

-- Objects in memory are aligned, and at least 4 bytes apart. Their leaves, and those in registers, stand for their values.
pub record Stands (order : Order) (location : ℕ → Option Location) (objects : List Object) (m : Memory) (registers : (activation register : ℕ) → Option ℕ) : Type 0 where
  pub formed : (o : ℕ) (ob : Object) → slice_get objects o ≡ Some ob → IsFormed ob
  pub sane : (o i : ℕ) (ob : Object) (c : Cell) → slice_get objects o ≡ Some ob → slice_get ob.cells i ≡ Some c → IsSane objects c.value
  pub leaves : (o i : ℕ) (ob : Object) (c : Cell) → slice_get objects o ≡ Some ob → slice_get ob.cells i ≡ Some c → LeafStands order location m registers (location o) c
  pub aligned : (o a : ℕ) → location o ≡ Some (InMemory a) → a % 4 ≡ 0
  pub apart : (o o' a a' : ℕ) (ob ob' : Object) → o ≢ o' → slice_get objects o ≡ Some ob → slice_get objects o' ≡ Some ob' → location o ≡ Some (InMemory a) → location o' ≡ Some (InMemory a')
      → (a + ob.size + 4 ≤ a') ⊎ (a' + ob'.size + 4 ≤ a)
  pub below : (o a : ℕ) (ob : Object) → slice_get objects o ≡ Some ob → location o ≡ Some (InMemory a) → (0 < a) × (a + ob.size < 2 ^ 32)
  pub registers_apart : (o o' n r : ℕ) → location o ≡ Some (InRegister n r) → location o' ≡ Some (InRegister n r) → o ≡ o'
