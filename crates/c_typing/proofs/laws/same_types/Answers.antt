use Rattle.c_typing.proofs.Same.{only_same, all_same}
use Rattle.c_typing.proofs.laws.same_types.Goals as goal

pub returns : goal.returns
returns c = record { only = λ s t h. only_same s t h; all = λ t. all_same t }
