use Rattle.mips_gen.specs.Coding.{mips}
use Rattle.sparc_gen.specs.Coding.{sparc}
use Rattle.object_laws.proofs.Fit.{statics_fit}
use Rattle.object_laws.proofs.laws.static_objects_fit.Goals as goal

pub returns-clause-mips : goal.returns-clause-mips
returns-clause-mips c = statics_fit mips 100

pub returns-clause-sparc : goal.returns-clause-sparc
returns-clause-sparc c = statics_fit sparc 132
