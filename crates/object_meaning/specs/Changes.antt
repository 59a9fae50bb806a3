-- Assignments at a stop, as a debugger makes them in the machine's memory.
use Rattle.std.specs.Prelude.{◌≡◌, ℕ, suc, ◌+◌, ◌*◌, ◌^◌, List, [], ◌∷◌, ◌++◌, Bool, true, false, ◌&&◌, nat_lt, nat_le, ◌==◌, is_ok, ℤ, Option, Some, None, slice_get, if◌then◌else◌}
use Rattle.ldb_words.specs.declared.kinds.Order.{Order}
use Rattle.ldb_words.specs.declared.kinds.Order.TheVariants.{Big}
use Rattle.ldb_words.specs.declared.kinds.Kind.{Kind}
use Rattle.ldb_words.specs.declared.kinds.Kind.TheVariants.{Byte, Word, Address}
use Rattle.machine_state.specs.State.{order_of_target}
use Rattle.machine_state.specs.declared.layout.TheConstants.{CONTEXT}
use Rattle.c_store.specs.Store.{Value, Number, Null, At, Object, store}
use Rattle.c_store.specs.Assigned.{Assignment}
use Rattle.slot_ir.specs.declared.code.SlotCode.{SlotCode}
use Rattle.slot_ir.specs.Slots.{SlotState}
use Rattle.machine_runs.specs.Watched.{Change}
use Rattle.flat_ir.specs.Memory.{width_of}
use Rattle.flat_gen.specs.Stack.{stack_of, pointer_of, from_number}
use Rattle.flat_gen.specs.Locations.{Location, InMemory, InRegister, location_at}

-- What a target settles: its target byte, which says what its machines do and their byte order; how many bytes of a frame are
-- its own; by the stack pointers of a frame and of the next inner one, where a register of the activation is kept; by the
-- stack pointer, and whether the frame is the innermost, where its base is kept, if it is, and where the return from it; by how
-- much a return word lies behind the caller's pc; the word of the context block that has the stack pointer; by the size of a
-- frame the registers that it saves, from its base; the no-op; and the word of a break.
pub record Target : Type 0 where
  pub number : ℕ
  pub linkage : ℕ
  pub register_at : (pointer inner register : ℕ) → ℕ
  pub base_at : (innermost : Bool) (pointer : ℕ) → Option ℕ
  pub return_at : (innermost : Bool) (pointer : ℕ) → ℕ
  pub return_behind : ℕ
  pub pointer_word : ℕ
  pub saved_by : (frame : ℕ) → List (ℕ × ℤ)
  pub no_op : ℕ
  pub break_word : ℕ

-- a leaf of a kind may hold this
abbrev pub fits_kind : Kind → Value → Bool
fits_kind Byte (Number n) = true
fits_kind Word (Number n) = true
fits_kind Address Null = true
fits_kind Address (At o i) = true
fits_kind _ _ = false

-- ---- which assignments there are

module _ (t : Target) (addresses : List ℕ) (c : SlotCode) (s : SlotState) where
  -- where the object of a number stands
  abbrev pub locations : ℕ → Option Location
  locations = location_at t.linkage addresses c (stack_of s) s.here.world.objects

  abbrev is_reached : Option Location → Bool
  is_reached None = false
  is_reached (Some (InMemory a)) = true
  is_reached (Some (InRegister n r)) = false

  abbrev size_in : Option Object → ℕ
  size_in None = 0
  size_in (Some o) = o.size

  -- a number of 32 bits, or a pointer into a live object that is not in a register
  abbrev is_sane : Value → Bool
  is_sane (Number n) = nat_lt n (2 ^ 32)
  is_sane Null = true
  is_sane (At o i) = is_reached (locations o) && nat_le i (size_in (slice_get s.here.world.objects o))

  -- and each of the leaf's kind
  abbrev pub AreSane : List Assignment → Type 0
  AreSane [] = Unit {0}
  AreSane (a ∷ rest) = (is_sane a.value ≡ true) × (fits_kind a.kind a.value ≡ true) × AreSane rest

  -- ---- as changes of memory, after the registers were saved

  abbrev word_at : Option Location → ℕ → ℕ
  word_at None i = 0
  word_at (Some (InMemory a)) i = a + i
  word_at (Some (InRegister n r)) i = 0

  abbrev pub word_for : Value → ℕ
  word_for (Number n) = n
  word_for Null = 0
  word_for (At o i) = word_at (locations o) i

  -- where in a word its low bytes lie
  abbrev lowest : Order → Kind → ℕ
  lowest Big Byte = 3
  lowest _ _ = 0

  -- where the register of an activation is kept: in the context block, or in a frame
  abbrev pub kept_at : (activation register : ℕ) → ℕ
  kept_at n r =
      if n == s.here.activation.number then CONTEXT + 4 * (16 + r) else
      t.register_at (pointer_of t.linkage c (from_number n (stack_of s))) (pointer_of t.linkage c (from_number (suc n) (stack_of s))) r

  abbrev change_at : Option Location → Kind → ℕ → ℕ → List Change
  change_at None k i w = []
  change_at (Some (InMemory a)) k i w = record { at = a + i; width = width_of k; value = w } ∷ []
  change_at (Some (InRegister n r)) k i w = record { at = kept_at n r + lowest (order_of_target t.number) k; width = width_of k; value = w } ∷ []

  abbrev change_by : Kind → Value → Value → List Change
  change_by k (Number n) v = []
  change_by k Null v = []
  change_by k (At o i) v = change_at (locations o) k i (word_for v)

  -- where there is no such leaf nothing changes
  unfoldable pub changes : List Assignment → List Change
  changes [] = []
  changes (a ∷ rest) =
      if is_ok (store s.here.world a.kind a.place a.value) then change_by a.kind a.place a.value ++ changes rest else changes rest
