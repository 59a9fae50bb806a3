use Rattle.mips_gen.specs.Coding.{mips}
use Rattle.sparc_gen.specs.Coding.{sparc}
use Rattle.object_laws.proofs.StaticUses.{static_uses_found}
use Rattle.object_laws.proofs.UsesInside.{uses_inside}
use Rattle.object_laws.proofs.laws.uses_lie_inside.Goals as goal

pub returns-clause-mips : goal.returns-clause-mips
returns-clause-mips c = λ code o h made order. uses_inside o order (static_uses_found mips 100 code o h made)

pub returns-clause-sparc : goal.returns-clause-sparc
returns-clause-sparc c = λ code o h made order. uses_inside o order (static_uses_found sparc 132 code o h made)
