use Rattle.c_tree.proofs.Ordered.{lie}
use Rattle.c_tree.proofs.layout.leaves_ascend.Goals as goal

pub returns : goal.returns
returns c = λ defs t all. lie defs all 64 t
