use Rattle.c_typing.proofs.Complete.{is_so, is_asked}
use Rattle.c_typing.proofs.laws.complete_types.Goals as goal

pub returns : goal.returns
returns c = record { only = λ defs t h. is_so defs t h; all = λ defs t h. is_asked defs t h }
