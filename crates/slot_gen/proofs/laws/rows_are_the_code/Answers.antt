use Rattle.slot_gen.proofs.Codes.{code_made}
use Rattle.slot_gen.proofs.Starting.{same_world}
use Rattle.slot_gen.proofs.laws.rows_are_the_code.Goals as goal

pub returns : goal.returns
returns c = λ p code rows fitting. code_made p code rows (same_world p code rows fitting)
