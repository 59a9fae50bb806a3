use Rattle.asking.specs.Breaks as asked_breaks
use Rattle.claims.specs.Side.{memory_of}
use Rattle.claims.specs.Breaks as side_breaks
use Rattle.asking_meaning.specs.Meant.{Stores}
use Rattle.asking_meaning.proofs.Commands.{breaking_covers, clearing_covers}
use Rattle.asking_meaning.proofs.Wholes.{meant}
use Rattle.asking_meaning.proofs.laws.breakpoints_are_meant.Goals as goal

pub returns-clause-set : goal.returns-clause-set
returns-clause-set c = λ a spot. meant (Stores a) (asked_breaks.breaking a.machine.target a.breaks (memory_of a) spot) (side_breaks.breaking a spot) a (breaking_covers a spot)

pub returns-clause-cleared : goal.returns-clause-cleared
returns-clause-cleared c = λ a spot. meant (Stores a) (asked_breaks.clearing a.machine.target a.breaks (memory_of a) spot) (side_breaks.clearing a spot) a (clearing_covers a spot)
