-- Where the activations stand that wait for a call.
use Rattle.std.specs.Prelude.{◌≡◌, ℕ, suc, zero, List, [], ◌∷◌, Option, Some, None}
use Rattle.std.specs.List.{AllByRecursion}
use Rattle.runs.specs.Runs.{Moment, Reached}
use Rattle.c_store.specs.Assigned.{History}
use Rattle.slot_ir.specs.declared.code.SlotCode.{SlotCode}
use Rattle.slot_ir.specs.declared.code.SlotOp.{SlotOp}
use Rattle.slot_ir.specs.declared.code.SlotOp.TheVariants.{Stop}
use Rattle.slot_ir.specs.Slots.{SlotState, Frame, code_of}
use Rattle.slot_gen.specs.Correct.{slots_after}

abbrev pub point_or : Option ℕ → SlotOp → Option ℕ
point_or last (Stop q) = Some q
point_or last op = last

abbrev pub point_behind : Option ℕ → List SlotOp → (place : ℕ) → Option ℕ
point_behind last [] i = last
point_behind last (op ∷ ops) zero = last
point_behind last (op ∷ ops) (suc i) = point_behind (point_or last op) ops i

-- the point of the last stop before a place in a code
abbrev pub point_before : List SlotOp → (place : ℕ) → Option ℕ
point_before code i = point_behind None code i

-- an outer activation passed last the point whose stop stands last before the place where it goes on
abbrev pub StandsBehindItsPoint : SlotCode → Frame → Type 0
StandsBehindItsPoint c f = f.activation.point ≡ point_before (code_of c f.activation.function) f.pc

-- so do all, at each moment of each run
abbrev pub CallsStandBehindTheirPoints : SlotCode → Type 0
CallsStandBehindTheirPoints c =
    (input : List ℕ) (h : History) (n : ℕ) (k : Moment SlotState) → slots_after c h input n ≡ Reached k → AllByRecursion (StandsBehindItsPoint c) k.state.outer
