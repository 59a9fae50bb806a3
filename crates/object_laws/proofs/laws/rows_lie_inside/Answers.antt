use Rattle.object_laws.proofs.StopsOfTargets.{mips_inside, sparc_inside}
use Rattle.object_laws.proofs.laws.rows_lie_inside.Goals as goal

pub returns-clause-mips : goal.returns-clause-mips
returns-clause-mips c = mips_inside

pub returns-clause-sparc : goal.returns-clause-sparc
returns-clause-sparc c = sparc_inside
