use Rattle.table_ends.proofs.Coming.{counted_come}
use Rattle.table_ends.proofs.laws.counted_tables_come.Goals as goal

pub returns : goal.returns
returns c = counted_come
