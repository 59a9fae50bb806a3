use Rattle.ps_tables.proofs.Within.{runnable, text_within, few_in_texts, few_units, few_steps}
use Rattle.ps_tables.proofs.laws.counted_tables_run.Goals as goal

pub returns : goal.returns
returns c = record {
  runs = λ p at rows parted types within. runnable p at rows parted within types;
  bytes = text_within;
  units = few_units;
  texts = few_in_texts;
  steps = few_steps;
}
