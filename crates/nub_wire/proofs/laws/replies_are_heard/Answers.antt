use Rattle.nub_wire.proofs.Outputs.{turn_heard}
use Rattle.nub_wire.proofs.Replies.{handle_answered}
use Rattle.nub_wire.proofs.laws.replies_are_heard.Goals as goal

pub returns-clause-at_once : goal.returns-clause-at_once
returns-clause-at_once c = handle_answered

pub returns-clause-later : goal.returns-clause-later
returns-clause-later c = turn_heard
