use Rattle.slot_gen.proofs.Lengths.{expr_few}
use Rattle.slot_gen.proofs.laws.code_of_an_expression_is_short.Goals as goal

pub returns : goal.returns
returns c = λ p f at d e. expr_few p f e at d
