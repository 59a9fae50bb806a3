use Rattle.ps_tables.proofs.Going.{taken}
use Rattle.ps_tables.proofs.laws.steps_are_taken.Goals as goal

pub returns : goal.returns
returns g c = taken g.D.Dialect.operates
