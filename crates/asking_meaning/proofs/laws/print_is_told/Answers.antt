use Rattle.asking.specs.Printing as asked_printing
use Rattle.claims.specs.Printing as side_printing
use Rattle.asking_meaning.proofs.Prints.{printing_covers}
use Rattle.asking_meaning.proofs.Printings.{runs_meant}
use Rattle.asking_meaning.proofs.laws.print_is_told.Goals as goal

pub returns : goal.returns
returns g c = λ m m' a name. runs_meant (g.M.AbsMem.seen m) (g.M.AbsMem.seen m') (asked_printing.printing a.frame name) (side_printing.printing a name) a (printing_covers a name)
