-- A side of a link on which a message may begin.
use Rattle.std.specs.Prelude.{◌≡◌, Option, Some}
use Rattle.machine_state.specs.State.{Behaviour}
use Rattle.nub_wire.specs.declared.link.Side.{Side}
use Rattle.nub_wire.specs.Nub.{Host}
use Rattle.nub_wire.specs.Delivery.{Conduct, nubs_over, LinkSide, World, side_of}
use Rattle.nub_wire.specs.Rest.{IsAtRest, other}
use Rattle.nub_wire.specs.Fits.{TellsFitting}
use Rattle.abs_mem.specs.WireMeaning.{IsBeside}

-- A link tells its machines, whose nubs meet their definition. One side is at rest with this nub and machine, and what they
-- tell fits messages. The other side is idle with the nub and machine that are named, if any are.
pub record Stands (b : Behaviour) (c : Conduct) (side : Side) (o : Option World) (h : Host) (beside : Option Host) : Type 0 where
  pub conduct : c ≡ nubs_over b
  pub world : World
  pub told : o ≡ Some world
  pub now : LinkSide
  pub there : side_of side world ≡ Some now
  pub rest : IsAtRest now
  pub host_is : now.host ≡ h
  pub fits : TellsFitting b h
  pub beside_is : IsBeside (side_of (other side) world) beside
