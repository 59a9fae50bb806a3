-- What a new near link has: sides at rest, whose nubs tell what fits their messages.
use Rattle.machine_state.specs.State.{MachineState}
use Rattle.obj_file.specs.Image.{ImageFields}
use Rattle.targets.specs.Targets.{machine_behaviour, IsSound}
use Rattle.nub_wire.specs.Delivery.{LinkSide}
use Rattle.nub_wire.specs.Rest.{IsAtRest}
use Rattle.nub_wire.specs.Fits.{AlwaysTellsWords, TellsFitting}
use Rattle.near_link.specs.Near.{BeginsSide}

-- a side that a debugger may send a message to, and that gives no bad reply to it
pub record IsReady (s : LinkSide) : Type 0 where
  pub rests : IsAtRest s
  pub fitting : TellsFitting machine_behaviour s.host

-- sound machines tell words, whatever is done to them
abbrev pub SoundMachinesTellWords : Type 0
SoundMachinesTellWords = (m : MachineState) → IsSound m → AlwaysTellsWords machine_behaviour m

-- a side of a new link is ready
abbrev pub FreshSidesAreReady : Type 0
FreshSidesAreReady = (i : ImageFields) (s : LinkSide) → BeginsSide i s → IsReady s
