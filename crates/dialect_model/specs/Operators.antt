-- The dialect's operators by their names.
use Rattle.std.specs.Prelude.{ℕ, List, [], ◌∷◌, slice_get, codes, Option, Some, None, Ok, Err}
use Rattle.ps_step.specs.declared.fault.PsError.TheVariants.{Undefined}
use Rattle.ps_step.specs.declared.machine.PsCore.{PsCore}
use Rattle.ps_step.specs.State.{Made}
use Rattle.frame_bytes.specs.declared.frame.Space.TheVariants.{Memory, Registers}
use Rattle.ps_words.specs.declared.words.WordOperator.TheVariants.{SignedAdd, SignedSubtract, SignedMultiply, SignedDivide, SignedRemainder, Divide, Remainder, Add, Subtract, Multiply, ShiftLeft, SignedShiftRight, ShiftRight}
use Rattle.ps_words.specs.Operators.{on_two, negating, below}
use Rattle.ps_places.specs.Places.{placing_at}
use Rattle.dialect_model.specs.Dial.{Dial, Act, Raises}
use Rattle.dialect_model.specs.Acting.{with_state, anchoring, placing_local, placing_value, locating, fetching, storing, adding, subtracting, comparing, taking_leaf, giving_struct, putting, putting_char, putting_pointer, putting_chars, measuring_run}

-- a name, and what the operator makes of the dial and the state
pub record Operator : Type 0 where
  pub name : List ℕ
  pub act : Dial → PsCore → Act

abbrev named : List ℕ → (Dial → PsCore → Act) → Operator
named name act = record { name = name; act = act }

-- an operator that asks nothing but the state
abbrev alone : List ℕ → (PsCore → Made) → Operator
alone name f = named name (λ d c. with_state d (f c))

-- in the order of their numbers
abbrev pub operators : List Operator
operators =
    named (codes "Anchor") anchoring
    ∷ alone (codes "Absolute") (placing_at Memory)
    ∷ named (codes "Local") placing_local
    ∷ alone (codes "Register") (placing_at Registers)
    ∷ named (codes "Immediate") placing_value
    ∷ named (codes "Where") locating
    ∷ named (codes "fetch") fetching
    ∷ named (codes "store") storing
    ∷ alone (codes "iadd") (on_two SignedAdd)
    ∷ alone (codes "isub") (on_two SignedSubtract)
    ∷ alone (codes "imul") (on_two SignedMultiply)
    ∷ alone (codes "idivs") (on_two SignedDivide)
    ∷ alone (codes "irem") (on_two SignedRemainder)
    ∷ alone (codes "ineg") negating
    ∷ alone (codes "udivs") (on_two Divide)
    ∷ alone (codes "urem") (on_two Remainder)
    ∷ alone (codes "uadd") (on_two Add)
    ∷ alone (codes "usub") (on_two Subtract)
    ∷ alone (codes "umul") (on_two Multiply)
    ∷ alone (codes "ishl") (on_two ShiftLeft)
    ∷ alone (codes "ishr") (on_two SignedShiftRight)
    ∷ alone (codes "ushr") (on_two ShiftRight)
    ∷ alone (codes "ult") below
    ∷ named (codes "ptradd") adding
    ∷ named (codes "ptrsub") subtracting
    ∷ named (codes "ptrcmp") comparing
    ∷ named (codes "Leaf") taking_leaf
    ∷ named (codes "Struct") giving_struct
    ∷ named (codes "Put") putting
    ∷ named (codes "PutChar") putting_char
    ∷ named (codes "PutPointer") putting_pointer
    ∷ named (codes "PutChars") putting_chars
    ∷ named (codes "charrun") measuring_run
    ∷ []

abbrev pub act_of : Option Operator → Dial → PsCore → Act
act_of None d c = Err (Raises Undefined)
act_of (Some o) d c = o.act d c

-- what the operator with a number makes of the dial and the state
unfoldable pub act : (number : ℕ) → Dial → PsCore → Act
act op d c = act_of (slice_get operators op) d c
