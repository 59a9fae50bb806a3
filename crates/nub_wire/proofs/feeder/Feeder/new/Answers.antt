use Rattle.std.proofs.Common.{refl, false}
use Rattle.nub_wire.proofs.Quiet.{empty_feeding}
use Rattle.nub_wire.proofs.feeder.Feeder.new.Goals as goal

pub invariant_of-result : goal.invariant_of-result
invariant_of-result c = empty_feeding c.new.result.items 1 false c.new.ensures refl refl
