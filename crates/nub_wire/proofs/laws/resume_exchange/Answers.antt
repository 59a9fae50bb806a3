use Rattle.nub_wire.proofs.ResumeExchange.{resume_law}
use Rattle.nub_wire.proofs.laws.resume_exchange.Goals as goal

pub returns : goal.returns
returns c = resume_law
