use Rattle.nub_wire.proofs.Silence.{nothing_says_quiet, quiet_gives_nothing}
use Rattle.nub_wire.proofs.laws.quiet_until_sent.Goals as goal

pub returns-clause-only : goal.returns-clause-only
returns-clause-only c = nothing_says_quiet

pub returns-clause-stays : goal.returns-clause-stays
returns-clause-stays c = quiet_gives_nothing
