use Rattle.c_reading.proofs.Readings.{agree}
use Rattle.c_reading.proofs.laws.readings_agree.Goals as goal

pub returns : goal.returns
returns c = λ p u point text x y a b. agree p u point text x y a b
