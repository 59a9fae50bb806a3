use Rattle.slot_gen.proofs.Emitted.{on_ok, name_none, name_some}
use Rattle.slot_gen.proofs.operands.put_name.Goals as goal

pub returns-in-None : goal.returns-in-None
returns-in-None c = name_none _ c.args.within.now.program.now c.args.within.now.number _ _ c.in-None.ensures

pub returns-in-Some : goal.returns-in-Some
returns-in-Some c = on_ok c.put_referent.result _ _ (λ h. name_some _ _ c.args.within.now.program.now c.args.within.now.number _ _ _ c.in-Some.ensures h) c.put_referent.ensures
