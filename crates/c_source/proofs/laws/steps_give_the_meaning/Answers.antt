use Rattle.c_source.proofs.Evaluates.{eval_leads, locate_leads}
use Rattle.c_source.proofs.laws.steps_give_the_meaning.Goals as goal

pub returns : goal.returns
returns c = record {
  value = λ p h outer e vs k q. eval_leads p h outer e q vs k;
  place = λ p h outer e vs k q. locate_leads p h outer e q vs k;
}
