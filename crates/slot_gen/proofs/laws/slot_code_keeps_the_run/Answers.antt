use Rattle.slot_gen.proofs.Whole.{lowers}
use Rattle.slot_gen.proofs.laws.slot_code_keeps_the_run.Goals as goal

pub returns : goal.returns
returns c = λ p s is main. lowers p s is main
