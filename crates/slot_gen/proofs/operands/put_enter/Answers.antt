use Rattle.slot_gen.proofs.Emitted.{on_ok, enter_none, enter_some}
use Rattle.slot_gen.proofs.operands.put_enter.Goals as goal

pub returns-in-None : goal.returns-in-None
returns-in-None c = enter_none _ _ _ _ c.in-None.ensures

pub returns-in-Some : goal.returns-in-Some
returns-in-Some c = on_ok c.put_call.result _ _ (λ h. enter_some _ _ _ _ _ _ c.in-Some.ensures h) c.put_call.ensures
