use Rattle.ps_tables.specs.Tabled.{table_made, table_steps}
use Rattle.ps_tables.proofs.TableRun.{text_leaves, runs_to_top}
use Rattle.ps_tables.proofs.laws.tables_run.Goals as goal

pub returns : goal.returns
returns g c₀ = λ p at printers s index n left m ds t d d' c' r run marks knowing few is units runs.
    runs_to_top index ds t printers g.D.Dialect.operates (table_steps p at) (table_made p at) at.target left s d d' m c' r (text_leaves index ds t printers p at n s run marks knowing few units is) runs
