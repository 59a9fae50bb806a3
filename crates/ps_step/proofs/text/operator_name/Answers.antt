use Rattle.ps_step.specs.Text.{operator_name}
use Rattle.ps_step.proofs.text.operator_name.Goals as goal

pub returns : goal.returns
unfolding operator_name
returns c = c.name_in.ensures
