use Rattle.ps_run.proofs.Apart.{finished}
use Rattle.ps_run.proofs.laws.runs_end.Goals as goal

pub returns : goal.returns
returns g c = finished g.D.Dialect.operates
