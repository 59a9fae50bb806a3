use Rattle.table_types.specs.Offsets.{checked}
use Rattle.table_types.proofs.depth.check_type.Goals as goal

pub returns : goal.returns
unfolding checked
returns c = c.check_within.ensures
