use Rattle.ps_run.proofs.Apart.{apart}
use Rattle.ps_run.proofs.laws.runs_are_taken_apart.Goals as goal

pub returns : goal.returns
returns g c = apart g.D.Dialect.operates
