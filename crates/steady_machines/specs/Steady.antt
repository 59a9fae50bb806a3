-- What machines keep.
use Rattle.std.specs.Prelude.{◌≡◌, ℕ}
use Rattle.machine_state.specs.State.{MachineState, Behaviour}
use Rattle.nub_wire.specs.Resumes.{run_from}
use Rattle.debug_side.specs.Told.{KeepsOrder}

-- a machine of the same target with the same text
pub record Steady (m n : MachineState) : Type 0 where
  pub target : n.target ≡ m.target
  pub text : n.memory.text_bytes ≡ m.memory.text_bytes

-- what a machine does keeps both: a step, the flush with the save, and the restore
pub record Steadies (b : Behaviour) : Type 0 where
  pub next : (m : MachineState) → Steady m (b.next m).1
  pub saved : (m : MachineState) → Steady m (b.saved m).1
  pub restored : (m : MachineState) → Steady m (b.restored m)

-- machines keep the order of their bytes, whatever is done to them
abbrev pub KeepsOrders : Behaviour → Type 0
KeepsOrders b = (m : MachineState) → KeepsOrder b m

-- the run of a resume leaves the target and the text
abbrev pub RunsAreSteady : Behaviour → Type 0
RunsAreSteady b = (turns : ℕ) (m : MachineState) → Steady m (run_from b turns m).machine
