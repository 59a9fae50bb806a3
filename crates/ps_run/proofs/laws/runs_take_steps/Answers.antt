use Rattle.ps_run.proofs.Apart.{fewer, some_steps}
use Rattle.ps_run.proofs.laws.runs_take_steps.Goals as goal

pub returns : goal.returns
returns g c = record {
  fewer = fewer g.D.Dialect.operates;
  some = some_steps g.D.Dialect.operates;
}
