use Rattle.slot_leaves.proofs.Holding.{leaves_hold}
use Rattle.slot_leaves.proofs.laws.leaves_hold_their_kind.Goals as goal

pub returns : goal.returns
returns c = λ code formed. leaves_hold code formed.2
