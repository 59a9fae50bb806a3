use Rattle.unit_tables.proofs.Forced.{furnished_stays, deferred_stays}
use Rattle.unit_tables.proofs.laws.units_follow.Goals as goal

pub returns : goal.returns
returns c₀ = record {
  furnished = λ p fs u c c' index x t has unit f. furnished_stays p fs u c c' index x t has unit f;
  deferred = λ p fs u v c c' index other x t text has unit apart d. deferred_stays p fs u c c' index x t has unit v other text apart d;
}
