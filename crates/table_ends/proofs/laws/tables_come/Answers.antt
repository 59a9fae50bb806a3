use Rattle.table_ends.proofs.Coming.{comes, there}
use Rattle.table_ends.proofs.laws.tables_come.Goals as goal

pub returns : goal.returns
returns c = record { comes = comes; there = there }
