use Rattle.near_link.proofs.FittingNubs.{sound_tells_words, fresh_ready}
use Rattle.near_link.proofs.laws.near_nubs_fit.Goals as goal

pub returns-clause-machines : goal.returns-clause-machines
returns-clause-machines c = sound_tells_words

pub returns-clause-sides : goal.returns-clause-sides
returns-clause-sides c = fresh_ready
