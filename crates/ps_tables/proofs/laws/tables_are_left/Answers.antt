use Rattle.ps_tables.proofs.TableRun.{text_leaves, text_leaves_table}
use Rattle.ps_tables.proofs.laws.tables_are_left.Goals as goal

pub returns : goal.returns
returns c = record {
  top = λ p at printers s index n ds t run marks knowing few is units. text_leaves index ds t printers p at n s run marks knowing few units is;
  table = λ p at printers s index n ds t run marks knowing few is units. text_leaves_table index ds t printers p at n s run marks knowing few units is;
}
