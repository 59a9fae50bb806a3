use Rattle.c_sound.proofs.Accepted.{values_keep, assignment_has_meaning, assigned_fits}
use Rattle.c_sound.proofs.laws.evaluations_keep_shapes.Goals as goal

pub returns : goal.returns
returns c = record {
  value = λ p input h m a v y e z l t i. values_keep p z.0 input h z.1 z.2.0 m z.2.1 z.3 a v y l e t i;
  assignment = λ p input h m a v y e z l t i. assignment_has_meaning p z.0 input h z.1 z.2.0 m z.2.1 z.3 a v y l e t i;
  leaves = λ p input h m a v y e g z l t i k. assigned_fits p z.0 input h z.1 z.2.0 m z.2.1 z.3 a v y l e t g k i;
}
