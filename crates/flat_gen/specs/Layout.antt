-- Frames. From the stack pointer up: bytes of the target's own; the parameters; the temporaries; the other locals. Each local has 4 bytes more than its size rounded up to 4, and the whole is a multiple of 8.
use Rattle.std.specs.Prelude.{◌≡◌, ℕ, ◌+◌, ◌*◌, Bool, true, false, nat_le, List, [], ◌∷◌, ◌++◌, take, drop, if◌then◌else◌}
use Rattle.std.specs.Int.{next_multiple_of}
use Rattle.slot_ir.specs.declared.code.SlotFunction.{SlotFunction}
use Rattle.slot_ir.specs.declared.code.SlotLocal.{SlotLocal}
use Rattle.flat_gen.specs.declared.layout.Layout.{Layout}
use Rattle.flat_gen.specs.declared.layout.TheConstants.{GREATEST_FRAME}

abbrev pub room : ℕ → ℕ
room size = next_multiple_of size 4 + 4

abbrev pub rooms : List SlotLocal → ℕ
rooms [] = 0
rooms (l ∷ ls) = room l.size + rooms ls

-- where locals begin, the first at an offset, and where the last ends
abbrev pub places_from : ℕ → List SlotLocal → List ℕ
places_from at [] = []
places_from at (l ∷ ls) = at ∷ places_from (at + room l.size) ls

module _ (linkage : ℕ) (f : SlotFunction) where
  abbrev pub frame_size : ℕ
  frame_size = next_multiple_of (rooms f.locals + (4 * f.temporaries + linkage)) 8

  abbrev pub temps_at : ℕ
  temps_at = linkage + rooms (take f.params f.locals)

  abbrev pub local_places : List ℕ
  local_places = places_from linkage (take f.params f.locals) ++ places_from (temps_at + f.temporaries * 4) (drop f.params f.locals)

  abbrev pub fits : Bool
  fits = nat_le frame_size GREATEST_FRAME

  -- A frame that would be too great has the greatest size, for which no stack has room, and its locals lie nowhere.
  unfoldable pub layout : Layout
  layout =
      if fits
      then record { frame = frame_size; fits = true; temporaries = temps_at; locals = local_places }
      else record { frame = GREATEST_FRAME; fits = false; temporaries = 0; locals = [] }
