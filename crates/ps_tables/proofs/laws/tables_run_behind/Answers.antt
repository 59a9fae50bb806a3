use Rattle.ps_tables.proofs.Behind.{no_marks, prelude_known}
use Rattle.ps_tables.proofs.BehindRun.{behind_runs, behind_there}
use Rattle.ps_tables.proofs.laws.tables_run_behind.Goals as goal

pub returns : goal.returns
returns g c₀ = record {
  begins = (no_marks, prelude_known);
  runs = λ p at t s left m d d' c' r run short room made runs. behind_runs g.D.Dialect.operates p at t s left m d d' c' r run short room made runs;
  there = λ p at t s left d run short room made. behind_there g.D.Dialect.operates p at t s left d run short room made;
}
