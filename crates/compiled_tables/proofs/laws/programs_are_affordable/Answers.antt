use Rattle.compiled_tables.proofs.Affordable.{affordable}
use Rattle.compiled_tables.proofs.laws.programs_are_affordable.Goals as goal

pub returns : goal.returns
returns c = affordable
