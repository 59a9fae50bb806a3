-- The stack: which frames lie on it, and where each begins.
use Rattle.std.specs.Prelude.{ℕ, ◌+◌, ◌-◌, Bool, ◌==◌, nat_le, List, [], ◌∷◌, Option, Some, None, slice_get, if◌then◌else◌}
use Rattle.machine_state.specs.declared.layout.TheConstants.{FIRST_STACK_POINTER}
use Rattle.c_store.specs.Frames.{ActivationRecord}
use Rattle.slot_ir.specs.Slots.{SlotState, Frame}
use Rattle.slot_ir.specs.declared.code.SlotCode.{SlotCode}
use Rattle.slot_ir.specs.declared.code.SlotFunction.{SlotFunction}
use Rattle.flat_ir.specs.Flat.{lowest_pointer}
use Rattle.flat_gen.specs.Layout.{layout}

-- an activation by its number and its function, on which its addresses depend alone
pub record Activation : Type 0 where
  pub number : ℕ
  pub function : ℕ

abbrev pub activation_of : ActivationRecord → Activation
activation_of r = record { number = r.number; function = r.function }

abbrev pub outer_stack : List Frame → List Activation
outer_stack [] = []
outer_stack (f ∷ rest) = activation_of f.activation ∷ outer_stack rest

-- the activations, the innermost first
abbrev pub stack_of : SlotState → List Activation
stack_of s = activation_of s.here.activation ∷ outer_stack s.outer

-- the activation of a number and those outside it
abbrev pub from_number : ℕ → List Activation → List Activation
from_number n [] = []
from_number n (p ∷ ps) = if p.number == n then p ∷ ps else from_number n ps

-- frames begin with so many bytes of the target's own
module _ (linkage : ℕ) (c : SlotCode) where
  abbrev frame_in : Option SlotFunction → ℕ
  frame_in None = 0
  frame_in (Some f) = (layout linkage f).frame

  abbrev pub frame_of : ℕ → ℕ
  frame_of f = frame_in (slice_get c.functions f)

  -- the bytes of the frames of some activations
  abbrev pub used : List Activation → ℕ
  used [] = 0
  used (p ∷ ps) = frame_of p.function + used ps

  -- the stack pointer of the first of some activations, the innermost first
  unfoldable pub pointer_of : List Activation → ℕ
  pointer_of ps = FIRST_STACK_POINTER - used ps

  -- there is room on the stack for the frames
  abbrev pub fits : SlotState → Bool
  fits s = nat_le (used (stack_of s)) (FIRST_STACK_POINTER - lowest_pointer)
