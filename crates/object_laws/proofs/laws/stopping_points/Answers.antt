use Rattle.object_laws.proofs.StopsOfTargets.{mips_stops, sparc_stops}
use Rattle.object_laws.proofs.laws.stopping_points.Goals as goal

pub returns-clause-mips : goal.returns-clause-mips
returns-clause-mips c = mips_stops

pub returns-clause-sparc : goal.returns-clause-sparc
returns-clause-sparc c = sparc_stops
