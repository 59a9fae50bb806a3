use Rattle.asking.specs.Breaks as asked_breaks
use Rattle.claims.specs.Breaks as side_breaks
use Rattle.asking_meaning.proofs.Commands.{breaking_covers, clearing_covers}
use Rattle.asking_meaning.proofs.Telling.{stores_meant}
use Rattle.asking_meaning.proofs.laws.breakpoints_are_told.Goals as goal

pub returns-clause-set : goal.returns-clause-set
returns-clause-set g c = λ m m' a spot. stores_meant (g.M.AbsMem.seen m) (g.M.AbsMem.seen m') (λ b. asked_breaks.breaking a.machine.target a.breaks b spot) (side_breaks.breaking a spot) a (breaking_covers a spot)

pub returns-clause-cleared : goal.returns-clause-cleared
returns-clause-cleared g c = λ m m' a spot. stores_meant (g.M.AbsMem.seen m) (g.M.AbsMem.seen m') (λ b. asked_breaks.clearing a.machine.target a.breaks b spot) (side_breaks.clearing a spot) a (clearing_covers a spot)
