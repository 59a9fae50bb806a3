use Rattle.mips_gen.specs.Coding.{mips}
use Rattle.sparc_gen.specs.Coding.{sparc}
use Rattle.object_laws.proofs.StaticUses.{static_uses_found}
use Rattle.object_laws.proofs.laws.uses_in_static_objects.Goals as goal

pub returns-clause-mips : goal.returns-clause-mips
returns-clause-mips c = static_uses_found mips 100

pub returns-clause-sparc : goal.returns-clause-sparc
returns-clause-sparc c = static_uses_found sparc 132
