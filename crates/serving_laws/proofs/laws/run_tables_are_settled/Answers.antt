use Rattle.serving_laws.proofs.Settled.{run_settled}
use Rattle.serving_laws.proofs.laws.run_tables_are_settled.Goals as goal

pub returns : goal.returns
returns c = λ sc s run. run_settled sc s run
