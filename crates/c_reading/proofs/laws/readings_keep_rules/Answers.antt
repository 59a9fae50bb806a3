use Rattle.c_reading.proofs.Rules.{reads_typed}
use Rattle.c_reading.proofs.laws.readings_keep_rules.Goals as goal

pub returns : goal.returns
returns c = λ p u point text x k. reads_typed p u point text x k
