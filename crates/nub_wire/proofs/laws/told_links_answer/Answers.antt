use Rattle.nub_wire.proofs.Told.{no_bad_reply}
use Rattle.nub_wire.proofs.NoBadReplies.{nubs_give_none, nubs_stay}
use Rattle.nub_wire.proofs.laws.told_links_answer.Goals as goal

pub returns-clause-at_once : goal.returns-clause-at_once
returns-clause-at_once c = no_bad_reply

pub returns-clause-all : goal.returns-clause-all
returns-clause-all c = nubs_give_none

pub returns-clause-stays : goal.returns-clause-stays
returns-clause-stays c = nubs_stay
