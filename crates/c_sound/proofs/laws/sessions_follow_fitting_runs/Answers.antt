use Rattle.c_sound.proofs.Sessions.{sessions_fit}
use Rattle.c_sound.proofs.laws.sessions_follow_fitting_runs.Goals as goal

pub returns : goal.returns
returns g = λ p sides input cs st y a. sessions_fit p y sides input cs st a
