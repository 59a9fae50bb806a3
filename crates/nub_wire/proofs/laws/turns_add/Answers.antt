use Rattle.nub_wire.proofs.Turns.{turn_of-add}
use Rattle.nub_wire.proofs.laws.turns_add.Goals as goal

pub returns : goal.returns
returns c = turn_of-add
