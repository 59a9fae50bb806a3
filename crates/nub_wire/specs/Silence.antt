-- Where a link has nothing for a debugger until something is sent.
use Rattle.std.specs.Prelude.{◌≡◌, ◌⊎◌, ℕ, suc, true, List, [], Option, None, Some}
use Rattle.nub_wire.specs.declared.link.Side.{Side}
use Rattle.nub_wire.specs.Delivery.{LinkSide, World, side_of, Conduct, Receives}

-- Nothing is on the way back, no resume is open, and the nub took all bytes sent or, after bytes that begin no frame,
-- takes none.
pub record IsQuietSide (s : LinkSide) : Type 0 where
  pub none_ready : s.ready ≡ []
  pub none_answered : s.answers ≡ []
  pub none_open : s.host.nub.left ≡ None
  pub none_to_take : (s.sent ≡ []) ⊎ (s.host.nub.blocked ≡ true)

abbrev pub QuietAt : Option LinkSide → Type 0
QuietAt None = ⊥
QuietAt (Some s) = IsQuietSide s

-- the side is quiet, whatever is left of the schedule
abbrev pub IsQuietOn : (side : Side) → World → Type 0
IsQuietOn side w = QuietAt (side_of side w)

-- A receive into a buffer that isn't empty gives nothing only where the side is quiet after it.
abbrev pub NothingSaysQuiet : Conduct → Type 0
NothingSaysQuiet c = (side : Side) (size : ℕ) (s : LinkSide) (w w' : World) → side_of side w ≡ Some s
    → Receives c side (suc size) [] w w' → IsQuietOn side w'

-- Where a side is quiet a receive gives nothing, and it stays quiet.
abbrev pub QuietGivesNothing : Conduct → Type 0
QuietGivesNothing c = (side : Side) (size : ℕ) (bytes : List ℕ) (w w' : World) → IsQuietOn side w
    → Receives c side (suc size) bytes w w' → (bytes ≡ []) × IsQuietOn side w'
