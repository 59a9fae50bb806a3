use Rattle.c_initial.proofs.Filling.{fills}
use Rattle.c_initial.proofs.filled.initializers_fill_objects.Goals as goal

pub returns : goal.returns
returns c = λ v whole k t i l. fills v whole i l k t
