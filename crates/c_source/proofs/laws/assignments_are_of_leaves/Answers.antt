use Rattle.c_source.proofs.Assignments.{assigned_follows}
use Rattle.c_source.proofs.laws.assignments_are_of_leaves.Goals as goal

pub returns : goal.returns
returns c = λ p h e g s. assigned_follows p h e g s
