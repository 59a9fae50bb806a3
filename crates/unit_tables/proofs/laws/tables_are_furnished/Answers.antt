use Rattle.unit_tables.proofs.Furnishing.{furnished_left, deferred_left}
use Rattle.unit_tables.proofs.laws.tables_are_furnished.Goals as goal

pub returns : goal.returns
returns c = record {
  furnished = λ p at printers s index n from ds t closed base top l small few few_dicts before within bases. furnished_left p at printers s index n from ds t closed base top l small few few_dicts before within bases;
  deferred = λ p at printers s index n from ds t closed base top l. deferred_left p at printers s index n from ds t closed base top l;
}
