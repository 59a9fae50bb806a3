use Rattle.std.proofs.Common.{List, None, refl, subst}
use Rattle.c_struct.specs.declared.members.WrittenMember.{WrittenMember}
use Rattle.c_struct.specs.Laying.{open_of, AreLaidOrLarge}
use Rattle.c_struct.proofs.Laid.{large_row}
use Rattle.c_struct.proofs.laying.row.Goals as goal

pub returns-in-None : goal.returns-in-None
returns-in-None c =
    let h : AreLaidOrLarge c.args.defs.now c.deref.result.now None = subst (λ r. AreLaidOrLarge c.args.defs.now c.deref.result.now r) c.in-None.is c.in_ok-lay.ensures in
    large_row c.args.defs.now (open_of c.args.o.now) c.args.o.now.members.items refl (subst (λ (ms : List WrittenMember). AreLaidOrLarge c.args.defs.now ms None) c.deref.ensures.value h)
