use Rattle.ps_tables.proofs.TextShort.{text_short}
use Rattle.ps_tables.proofs.laws.tables_are_short.Goals as goal

pub returns : goal.returns
returns c = text_short
