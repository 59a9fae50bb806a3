use Rattle.c_declaration.proofs.Locals.{local_ends, local_is}
use Rattle.c_statement.proofs.Reach.{body_runs}
use Rattle.c_statement.proofs.Sound.{body_sound}
use Rattle.c_statement.proofs.laws.blocks_are_read.Goals as goal

pub returns-clause-ends : goal.returns-clause-ends
returns-clause-ends c = λ b h ts d. body_runs local_ends d

pub returns-clause-is : goal.returns-clause-is
returns-clause-is c = body_sound local_is
