use Rattle.runs.proofs.Once.{until_once}
use Rattle.c_source.specs.Source.{step}
use Rattle.c_session.proofs.laws.resumes_have_one_event.Goals as goal

pub returns : goal.returns
returns c = record {
  count = λ p stops s c d e f r q. (until_once (step p) stops r.0 q.0 s c d e f r.1 q.1).count;
  event = λ p stops s c d e f r q. (until_once (step p) stops r.0 q.0 s c d e f r.1 q.1).event;
}
