use Rattle.unit_tables.proofs.Units.{unit_leaves}
use Rattle.unit_tables.proofs.laws.units_are_run.Goals as goal

pub returns : goal.returns
returns c = λ p fs u s ds t runs followed few furnished room text. unit_leaves p fs runs ds t u s followed few furnished room text
