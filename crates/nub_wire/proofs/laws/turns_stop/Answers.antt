use Rattle.nub_wire.proofs.Turns.{turn_of-more}
use Rattle.nub_wire.proofs.laws.turns_stop.Goals as goal

pub returns : goal.returns
returns c = turn_of-more
