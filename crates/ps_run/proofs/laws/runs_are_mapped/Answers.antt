use Rattle.ps_run.proofs.Apart.{shown}
use Rattle.ps_run.proofs.laws.runs_are_mapped.Goals as goal

pub returns : goal.returns
returns g c = λ f over. shown g.D.Dialect.operates g.E.Dialect.operates f over
