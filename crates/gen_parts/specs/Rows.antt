-- The row of a function: what a debugger has to know of it. Distances from the stack pointer become distances from the frame's base.
use Rattle.std.specs.Prelude.{ℕ, suc, ◌+◌, pos, ℤ, ◌-ℤ◌, List, [], ◌∷◌, map, Option, Some, None, slice_get}
use Rattle.slot_ir.specs.declared.code.SlotFunction.{SlotFunction}
use Rattle.slot_ir.specs.declared.code.SlotLocal.{SlotLocal}
use Rattle.slot_ir.specs.declared.code.Home.{Home}
use Rattle.slot_ir.specs.declared.code.Home.TheVariants.{Block, Register}
use Rattle.flat_ir.specs.declared.code.FlatFunction.{FlatFunction}
use Rattle.obj_file.specs.declared.object.LocalPlace.{LocalPlace}
use Rattle.obj_file.specs.declared.object.LocalPlace.TheVariants.{Slot, Reg}
use Rattle.obj_file.specs.declared.object.FunctionRow.{FunctionRow}
use Rattle.gen_parts.specs.Uses.{offset_of}

abbrev pub from_base : (frame at : ℕ) → ℤ
from_base frame at = pos at -ℤ pos frame

-- in a frame that is too great a local lies nowhere, and 0 stands for that
abbrev pub slot_by : (frame : ℕ) → Option ℕ → LocalPlace
slot_by frame None = Slot (pos 0)
slot_by frame (Some at) = Slot (from_base frame at)

abbrev pub place_by : (frame : ℕ) → Option ℕ → Home → LocalPlace
place_by frame at Block = slot_by frame at
place_by frame at (Register r) = Reg (16 + r)

-- where the locals from a number on lie
abbrev pub local_places : FlatFunction → ℕ → List SlotLocal → List LocalPlace
local_places f x [] = []
local_places f x (l ∷ ls) = place_by f.frame (slice_get f.locals x) l.home ∷ local_places f (suc x) ls

-- a register that is saved, with its distance from the frame's base
abbrev pub saved_place : (frame : ℕ) → ℕ × ℕ → ℕ × ℤ
saved_place frame s = (s.0, from_base frame s.1)

-- The row of a function whose code lies in the text from `entry` to `end`; `offsets` is where the code of each place begins.
abbrev pub row : SlotFunction → FlatFunction → (entry end : ℕ) → (offsets : List ℕ) → (saved : List (ℕ × ℕ)) → FunctionRow
row s f entry end offsets saved = record {
  name = s.name;
  entry = entry;
  end = end;
  frame = f.frame;
  saved = map (saved_place f.frame) saved;
  points = map (offset_of offsets) f.places;
  locals = local_places f 0 s.locals;
}
