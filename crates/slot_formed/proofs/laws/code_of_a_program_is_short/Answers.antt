use Rattle.slot_formed.proofs.Short.{program_few}
use Rattle.slot_formed.proofs.laws.code_of_a_program_is_short.Goals as goal

pub returns : goal.returns
returns c = λ p code is. program_few c.code_of_an_expression_is_short.ensures p code is
