-- Where slot code takes a value as a pointer. A number there is a null pointer constant, which is 0 (C90 6.2.2.3); a machine keeps the word of a number, so it can't tell another number from an address.
-- A leaf for an address never holds a number (`may_hold`), so what is loaded as a pointer is one.
use Rattle.std.specs.Prelude.{◌≡◌, ℕ, suc, ◌==◌, ◌&&◌, Bool, true, List, [], ◌∷◌, Option, Some, None, reverse, slice_get, if◌then◌else◌}
use Rattle.runs.specs.Runs.{Next, Undefined, IllTyped, Moment, Reached, after}
use Rattle.c_store.specs.Store.{Value, Number, Null, At}
use Rattle.c_store.specs.Assigned.{History}
use Rattle.slot_ir.specs.declared.code.Access.{Access}
use Rattle.slot_ir.specs.declared.code.Access.TheVariants.{Pointer}
use Rattle.slot_ir.specs.declared.code.PointerOp.TheVariants.{Equal, Unequal}
use Rattle.slot_ir.specs.declared.code.SlotCode.{SlotCode}
use Rattle.slot_ir.specs.declared.code.SlotLocal.{SlotLocal}
use Rattle.slot_ir.specs.declared.code.SlotOp.{SlotOp}
use Rattle.slot_ir.specs.declared.code.SlotOp.TheVariants.{Convert, Compare, Call}
use Rattle.slot_ir.specs.Slots.{SlotState, code_of, local_row, last_temps, step}
use Rattle.slot_ir.specs.Begin.{begin, acted}

-- a pointer, or the number 0
abbrev pub is_pointer : Value → Bool
is_pointer (Number n) = n == 0
is_pointer Null = true
is_pointer (At o i) = true

-- a value that is converted so: to a pointer it is one, or 0
abbrev pub serves : Access → Value → Bool
serves Pointer v = is_pointer v
serves a v = true

-- what a temporary holds
abbrev pub holds : (Value → Bool) → Option Value → Bool
holds f None = true
holds f (Some v) = f v

abbrev pub serves_in : Option SlotLocal → Value → Bool
serves_in None v = true
serves_in (Some l) v = serves l.access v

-- arguments for the parameters from number x on
abbrev pub serve_from : SlotCode → (function local : ℕ) → List Value → Bool
serve_from c f x [] = true
serve_from c f x (v ∷ vs) = serves_in (local_row c f x) v && serve_from c f (suc x) vs

abbrev pub serve : SlotCode → (function : ℕ) → Option (List Value) → Bool
serve c f None = true
serve c f (Some vs) = serve_from c f 0 (reverse vs)

module _ (c : SlotCode) (t : SlotState) where
  -- where an operator takes a value as a pointer it is one, or 0
  abbrev pub takes : SlotOp → Bool
  takes (Convert d a) = holds (serves a) (t.temps d)
  takes (Compare d i j Equal) = holds is_pointer (t.temps i) && holds is_pointer (t.temps j)
  takes (Compare d i j Unequal) = holds is_pointer (t.temps i) && holds is_pointer (t.temps j)
  takes (Call d g n) = serve c g (last_temps t.temps d n)
  takes op = true

  abbrev pub takes_at : Option SlotOp → Bool
  takes_at None = true
  takes_at (Some op) = takes op

-- the next step takes no number but 0 as a pointer
abbrev pub takes_pointers : SlotCode → SlotState → Bool
takes_pointers c t = takes_at c t (slice_get (code_of c t.here.activation.function) t.pc)

-- a step of slot code that takes no number but 0 as a pointer, or is undefined
abbrev pub strict_step : SlotCode → SlotState → Next SlotState
strict_step c t = if takes_pointers c t then step c t else Undefined IllTyped

-- no step of any run takes a number but 0 as a pointer
abbrev pub TakesPointers : SlotCode → Type 0
TakesPointers c = (input : List ℕ) (h : History) (n : ℕ) (k : Moment SlotState) → after SlotState (step c) (acted h) n 0 (begin c input) ≡ Reached k → takes_pointers c k.state ≡ true
