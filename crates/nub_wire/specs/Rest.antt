-- A side on which nothing is on the way and whose nub waits for a message.
use Rattle.std.specs.Prelude.{◌≡◌, false, [], None, Some}
use Rattle.nub_wire.specs.declared.link.Side.{Side}
use Rattle.nub_wire.specs.declared.link.Side.TheVariants.{First, Second}
use Rattle.machine_state.specs.State.{MachineState, Behaviour}
use Rattle.nub_wire.specs.Nub.{first_host}
use Rattle.nub_wire.specs.Delivery.{LinkSide, World, side_of, first_side}

-- Nothing is on the way to the nub or back, no resume is open, and no bytes came that begin no frame.
pub record IsIdle (s : LinkSide) : Type 0 where
  pub none_sent : s.sent ≡ []
  pub none_begun : s.feeding.held ≡ []
  pub good : s.feeding.is_bad ≡ false
  pub none_answered : s.answers ≡ []
  pub none_ready : s.ready ≡ []
  pub none_open : s.host.nub.left ≡ None
  pub takes : s.host.nub.blocked ≡ false

-- its nub wasn't killed either, and has no output that is still to be told
pub record IsAtRest (s : LinkSide) : Type 0 where
  pub idle : IsIdle s
  pub lives : s.host.nub.killed ≡ false
  pub none_gathered : s.host.nub.output ≡ []

-- the side is there, and at rest
abbrev pub IsAtRestOn : Side → World → Type 0
IsAtRestOn side w = (s : LinkSide) × (side_of side w ≡ Some s) × IsAtRest s

abbrev pub other : Side → Side
other First = Second
other Second = First

-- where the other side is idle it stays as it is
abbrev pub KeepsOther : Side → World → World → Type 0
KeepsOther side w w' = (o : LinkSide) → side_of (other side) w ≡ Some o → IsIdle o → side_of (other side) w' ≡ Some o

-- ---- fresh sides

-- The side of a machine to which no input was given, whose nub had no message.
pub record IsFresh (b : Behaviour) (m : MachineState) (s : LinkSide) : Type 0 where
  pub none_given : m.given ≡ 0
  pub side_is : s ≡ first_side (first_host b m)
