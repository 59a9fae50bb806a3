-- What a machine shows of a state of slot code to a debugger that saves its registers and reads its memory.
use Rattle.std.specs.Prelude.{◌≡◌, ◌≤◌, ◌<◌, ◌↔◌, ℕ, ◌+◌, ◌*◌, ◌%◌, ◌^◌, List, [], ◌∷◌, Bool, true, false, ◌==◌, Option, Some, None, Ok, slice_get, if◌then◌else◌}
use Rattle.ldb_words.specs.Word.{difference_of}
use Rattle.machine_state.specs.declared.layout.TheConstants.{TEXT, CONTEXT}
use Rattle.machine_state.specs.Regions.{read_of}
use Rattle.machine_state.specs.State.{MachineState, Behaviour, order_of_target}
use Rattle.obj_file.specs.declared.object.Object.{Object}
use Rattle.obj_file.specs.declared.object.FunctionRow.{FunctionRow}
use Rattle.c_store.specs.Store.{Cell, Object as StoredObject}
use Rattle.slot_ir.specs.declared.code.SlotCode.{SlotCode}
use Rattle.slot_ir.specs.declared.code.SlotFunction.{SlotFunction}
use Rattle.slot_ir.specs.Slots.{SlotState, Frame}
use Rattle.targets.specs.Targets.{behaviour_of}
use Rattle.machine_runs.specs.Watched.{Watched}
use Rattle.flat_ir.specs.Memory.{width_of}
use Rattle.flat_gen.specs.Stack.{Activation, activation_of, outer_stack, stack_of, pointer_of}
use Rattle.flat_gen.specs.Locations.{Location, InMemory, InRegister}
use Rattle.flat_gen.specs.Stands.{KindStands}
use Rattle.object_meaning.specs.Changes.{Target, locations, kept_at}

-- ---- stopping points by address

abbrev points_in : List ℕ → List ℕ → ℕ → Option ℕ
points_in [] places pc = None
points_in (q ∷ qs) [] pc = None
points_in (q ∷ qs) (a ∷ rest) pc = if pc == TEXT + a then Some q else points_in qs rest pc

abbrev or_else : Option ℕ → Option ℕ → Option ℕ
or_else None o = o
or_else (Some x) o = Some x

-- the number of the stopping point at an address, by the rows of the functions
abbrev points_of : List SlotFunction → List FunctionRow → ℕ → Option ℕ
points_of [] rows pc = None
points_of (f ∷ fs) [] pc = None
points_of (f ∷ fs) (row ∷ rows) pc = or_else (points_in f.points row.points pc) (points_of fs rows pc)

unfoldable pub point_at : SlotCode → Object → ℕ → Option ℕ
point_at c o pc = points_of c.functions o.functions pc

-- ---- a machine that stands for a state of slot code

abbrev pub behaviour : Target → Behaviour
behaviour t = behaviour_of t.number

-- an address lies in the code of a row
abbrev pub LiesIn : FunctionRow → ℕ → Type 0
LiesIn row address = (TEXT + row.entry ≤ address) × (address < TEXT + row.end)

module _ (t : Target) (c : SlotCode) (o : Object) (addresses : List ℕ) where
  -- a number of so many bytes in the memory that the registers were saved in
  abbrev Reads : MachineState → ℕ → ℕ → ℕ → Type 0
  Reads m at width n = read_of (order_of_target t.number) m.memory at width ≡ Ok n

  module _ (s : SlotState) (m : MachineState) where
    abbrev pub LeafStands : Option Location → Cell → Type 0
    LeafStands None cell = Unit {0}
    LeafStands (Some (InMemory a)) cell = (w : ℕ) × Reads m (a + cell.at) (width_of cell.kind) w × KindStands (locations t addresses c s) cell.kind cell.value w
    LeafStands (Some (InRegister n r)) cell = (w : ℕ) × Reads m (kept_at t addresses c s n r) 4 w × KindStands (locations t addresses c s) cell.kind cell.value (w % 256 ^ width_of cell.kind)

  -- a pc lies in the function's code: behind exactly the points that stand before the place
  pub record IsAtPlace (f pc address : ℕ) : Type 0 where
    pub row : FunctionRow
    pub fn : SlotFunction
    pub is_row : slice_get o.functions f ≡ Some row
    pub is_fn : slice_get c.functions f ≡ Some fn
    pub inside : LiesIn row address
    pub points : (j place a : ℕ) → slice_get fn.places j ≡ Some place → slice_get row.points j ≡ Some a → (TEXT + a < address ↔ place < pc)

  abbrev IsInNoRow : ℕ → Type 0
  IsInNoRow address = (f : ℕ) (row : FunctionRow) → slice_get o.functions f ≡ Some row → LiesIn row address → ⊥

  -- the caller's pc by the return word: it lies behind the caller's points, or for `main` in no row, so that a walk ends there
  abbrev ReturnsTo : List Frame → ℕ → Type 0
  ReturnsTo [] pc = IsInNoRow pc
  ReturnsTo (f ∷ fs) pc = IsAtPlace f.activation.function f.pc pc

  -- where the base of a frame is kept it is the stack pointer of the next outer one
  abbrev IsBase : MachineState → Option ℕ → ℕ → Type 0
  IsBase m None base = Unit {0}
  IsBase m (Some at) base = Reads m at 4 base

  abbrev pub FrameStands : MachineState → Bool → Activation → List Activation → List Frame → Type 0
  FrameStands m first p ps fs =
      IsBase m (t.base_at first (pointer_of t.linkage c (p ∷ ps))) (pointer_of t.linkage c ps)
      × ((w : ℕ) × Reads m (t.return_at first (pointer_of t.linkage c (p ∷ ps))) 4 w × ReturnsTo fs (difference_of w t.return_behind))

  abbrev outer_frames : List Frame → List Frame
  outer_frames [] = []
  outer_frames (f ∷ fs) = fs

  abbrev OuterStand : MachineState → List Activation → List Frame → Type 0
  OuterStand m [] fs = Unit {0}
  OuterStand m (p ∷ ps) fs = FrameStands m false p ps fs × OuterStand m ps (outer_frames fs)

  -- What a debugger finds in the memory that the registers were saved in: each leaf, the stack pointer, and each frame's base and return.
  pub record Shows (s : SlotState) (m : MachineState) : Type 0 where
    pub leaves : (n i : ℕ) (ob : StoredObject) (cell : Cell) → slice_get s.here.world.objects n ≡ Some ob → slice_get ob.cells i ≡ Some cell
        → LeafStands s m (locations t addresses c s n) cell
    pub pointer : Reads m (CONTEXT + 4 * t.pointer_word) 4 (pointer_of t.linkage c (stack_of s))
    pub innermost : FrameStands m true (activation_of s.here.activation) (outer_stack s.outer) s.outer
    pub outer : OuterStand m (outer_stack s.outer) (outer_frames s.outer)

  abbrev pub CanSave : MachineState → Type 0
  CanSave m = ((behaviour t).saved m).0 ≡ true

  -- a machine that stands for a state of slot code
  pub record Represents (s : SlotState) (w : Watched) : Type 0 where
    pub output : w.output ≡ s.here.world.output
    pub input : w.machine.left ≡ s.here.world.input
    pub shows : Shows s ((behaviour t).saved w.machine).1
    pub pc : IsAtPlace s.here.activation.function s.pc w.machine.pc
