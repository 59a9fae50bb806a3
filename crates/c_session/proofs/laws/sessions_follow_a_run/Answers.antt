use Rattle.c_session.proofs.Histories.{sessions_follow}
use Rattle.c_session.proofs.laws.sessions_follow_a_run.Goals as goal

pub returns : goal.returns
returns c = λ p sides input cs st g. sessions_follow p input sides cs st g
