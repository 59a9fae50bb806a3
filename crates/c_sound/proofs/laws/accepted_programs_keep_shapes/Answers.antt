use Rattle.c_sound.proofs.Accepted.{accepted_keeps, course_keeps}
use Rattle.c_sound.proofs.laws.accepted_programs_keep_shapes.Goals as goal

pub returns : goal.returns
returns c = record {
  whole = λ p input h n a f. accepted_keeps p a input h n f;
  resumed = λ p input h m stops k z. course_keeps p z.0 input h z.1 z.2.0 m z.2.1 z.3 stops k;
}
