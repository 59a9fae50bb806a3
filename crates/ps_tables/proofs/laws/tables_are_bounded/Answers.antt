use Rattle.ps_tables.proofs.Bounded.{table_takes, table_makes}
use Rattle.ps_tables.proofs.laws.tables_are_bounded.Goals as goal

pub returns : goal.returns
returns c = record { steps = table_takes; made = table_makes }
