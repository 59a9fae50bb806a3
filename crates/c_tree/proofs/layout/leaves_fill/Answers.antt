use Rattle.c_tree.proofs.Aligned.{fills}
use Rattle.c_tree.proofs.layout.leaves_fill.Goals as goal

pub returns : goal.returns
returns c = λ defs t all w. fills defs all 64 t w
