use Rattle.runs.proofs.Once.{until_once}
use Rattle.runs.proofs.laws.one_event.Goals as goal

pub returns : goal.returns
returns g c = record {
  count = λ step stops s c d e f r q. (until_once step stops r.0 q.0 s c d e f r.1 q.1).count;
  event = λ step stops s c d e f r q. (until_once step stops r.0 q.0 s c d e f r.1 q.1).event;
}
