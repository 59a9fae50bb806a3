use Rattle.c_session.proofs.Refusals.{ended_answer}
use Rattle.c_session.proofs.laws.ended_sessions_refuse.Goals as goal

pub returns : goal.returns
returns c = λ p sides session x c e n. ended_answer p sides session x c e n
