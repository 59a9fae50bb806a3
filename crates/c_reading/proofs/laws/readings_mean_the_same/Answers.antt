use Rattle.c_reading.proofs.Readings.{one_meaning, one_type_read}
use Rattle.c_reading.proofs.Meanings.{same_values}
use Rattle.c_reading.proofs.laws.readings_mean_the_same.Goals as goal

pub returns : goal.returns
returns c = record {
  type_is = λ p u point text x y a b. one_type_read p u point text x y a b;
  values = λ p u point text x y h a b. same_values p h x y (one_meaning p u point text h x y a b);
  assignment = λ p u point text x y h a b. (one_meaning p u point text h x y a b).assigns;
}
