use Rattle.c_declaration.proofs.DeclaratorComplete.{declarator_ends}
use Rattle.c_declaration.proofs.DeclaratorSound.{declarator_is}
use Rattle.c_declaration.proofs.laws.declarators_are_read.Goals as goal

pub returns-clause-ends : goal.returns-clause-ends
returns-clause-ends c = declarator_ends

pub returns-clause-is : goal.returns-clause-is
returns-clause-is c = declarator_is
