use Rattle.c_declaration.proofs.Locals.{local_ends, local_is}
use Rattle.c_declaration.proofs.laws.locals_are_read.Goals as goal

pub returns-clause-ends : goal.returns-clause-ends
returns-clause-ends c = local_ends

pub returns-clause-is : goal.returns-clause-is
returns-clause-is c = local_is
