use Rattle.c_sound.proofs.Typed.{typed_keeps}
use Rattle.c_sound.proofs.laws.typed_expressions_keep_rules.Goals as goal

pub returns : goal.returns
returns g = λ s e q. typed_keeps s e q
