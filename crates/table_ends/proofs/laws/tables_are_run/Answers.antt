use Rattle.table_ends.proofs.Joining.{tables_run}
use Rattle.table_ends.proofs.laws.tables_are_run.Goals as goal

pub returns : goal.returns
returns c = tables_run
