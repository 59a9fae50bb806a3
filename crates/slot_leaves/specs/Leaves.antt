-- What the leaves of objects hold in a run of slot code.
use Rattle.std.specs.Prelude.{◌≡◌, ℕ, true, List}
use Rattle.std.specs.List.{AllByRecursion}
use Rattle.runs.specs.Runs.{Moment, Reached, after}
use Rattle.c_store.specs.Store.{Cell, Object, World, may_hold}
use Rattle.c_store.specs.Assigned.{History}
use Rattle.slot_ir.specs.declared.code.SlotCode.{SlotCode}
use Rattle.slot_ir.specs.Slots.{SlotState, step}
use Rattle.slot_ir.specs.Begin.{begin, acted}

-- a leaf holds what its kind may hold
abbrev pub HoldsItsKind : Cell → Type 0
HoldsItsKind cell = may_hold cell.kind cell.value ≡ true

abbrev pub HaveKinds : List Object → Type 0
HaveKinds objects = AllByRecursion (λ (o : Object). AllByRecursion HoldsItsKind o.cells) objects

-- so does each, at each moment of each run
abbrev pub LeavesHoldTheirKind : SlotCode → Type 0
LeavesHoldTheirKind c = (input : List ℕ) (h : History) (n : ℕ) (k : Moment SlotState) → after SlotState (step c) (acted h) n 0 (begin c input) ≡ Reached k → HaveKinds k.state.here.world.objects
