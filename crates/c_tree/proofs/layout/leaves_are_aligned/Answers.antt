use Rattle.c_tree.proofs.Aligned.{aligned}
use Rattle.c_tree.proofs.layout.leaves_are_aligned.Goals as goal

pub returns : goal.returns
returns c = λ defs t all. aligned defs all t
