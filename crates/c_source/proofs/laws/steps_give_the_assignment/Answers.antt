use Rattle.c_source.proofs.Evaluates.{assign_leads}
use Rattle.c_source.proofs.laws.steps_give_the_assignment.Goals as goal

pub returns : goal.returns
returns c = λ p h outer e vs k q. assign_leads p h outer e vs k q
