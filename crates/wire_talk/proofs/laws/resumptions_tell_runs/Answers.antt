use Rattle.wire_talk.proofs.RunsCome.{resumption_law}
use Rattle.wire_talk.proofs.laws.resumptions_tell_runs.Goals as goal

pub returns : goal.returns
returns c = resumption_law
