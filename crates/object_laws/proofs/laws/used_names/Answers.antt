use Rattle.mips_gen.specs.Coding.{mips}
use Rattle.sparc_gen.specs.Coding.{sparc}
use Rattle.object_laws.proofs.UsedNames.{used_names_given}
use Rattle.object_laws.proofs.laws.used_names.Goals as goal

pub returns-clause-mips : goal.returns-clause-mips
returns-clause-mips c = used_names_given mips 100

pub returns-clause-sparc : goal.returns-clause-sparc
returns-clause-sparc c = used_names_given sparc 132
