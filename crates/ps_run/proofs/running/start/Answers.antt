use Rattle.ps_run.specs.Reaching.{here, in_step}
use Rattle.ps_run.proofs.running.start.Goals as goal

pub returns-in_err-push-clause-short : goal.returns-in_err-push-clause-short
returns-in_err-push-clause-short g c = λ _. in_step here
