use Rattle.c_declaration.proofs.InitialComplete.{initial_ends}
use Rattle.c_declaration.proofs.InitialSound.{initial_is}
use Rattle.c_declaration.proofs.laws.initials_are_read.Goals as goal

pub returns-clause-ends : goal.returns-clause-ends
returns-clause-ends c = initial_ends

pub returns-clause-is : goal.returns-clause-is
returns-clause-is c = initial_is
