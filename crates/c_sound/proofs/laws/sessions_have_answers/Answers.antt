use Rattle.c_sound.proofs.Sessions.{sessions_answer}
use Rattle.c_sound.proofs.laws.sessions_have_answers.Goals as goal

pub returns : goal.returns
returns g = λ p sides input cs st x c y a k. sessions_answer p y sides input cs st x c a k
