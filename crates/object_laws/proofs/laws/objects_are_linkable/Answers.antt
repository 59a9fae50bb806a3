use Rattle.std.proofs.Common.{ap, ◌∙◌}
use Rattle.mips_gen.specs.Coding.{mips}
use Rattle.sparc_gen.specs.Coding.{sparc}
use Rattle.flat_gen.specs.Codes.{flat_code}
use Rattle.link_image.specs.Conditions.{is_known}
use Rattle.object_laws.proofs.Fit.{statics_fit}
use Rattle.object_laws.proofs.Linkable.{linkable}
use Rattle.object_laws.proofs.StaticUses.{static_uses_found}
use Rattle.object_laws.proofs.StopsOfTargets.{mips_inside, mips_least, sparc_inside, sparc_least}
use Rattle.object_laws.proofs.UsedNames.{used_names_given}
use Rattle.object_laws.proofs.UsesInside.{uses_inside}
use Rattle.object_laws.proofs.laws.objects_are_linkable.Goals as goal

pub returns-clause-mips : goal.returns-clause-mips
returns-clause-mips c = λ code o h made order once most.
    linkable o (ap is_known made.target) order (mips_least code (flat_code 100 code) o made) most (statics_fit mips 100 code o h made) (mips_inside code o h made order)
    (uses_inside o order (static_uses_found mips 100 code o h made)) once (used_names_given mips 100 code o h made)

pub returns-clause-sparc : goal.returns-clause-sparc
returns-clause-sparc c = λ code o h made order once most.
    linkable o (ap is_known made.target) order (sparc_least code (flat_code 132 code) o made) most (statics_fit sparc 132 code o h made) (sparc_inside code o h made order)
    (uses_inside o order (static_uses_found sparc 132 code o h made)) once (used_names_given sparc 132 code o h made)
