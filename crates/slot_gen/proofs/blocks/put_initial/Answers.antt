use Rattle.slot_gen.proofs.Emitted.{on_ok}
use Rattle.slot_gen.proofs.Stops.{initial_none, initial_some}
use Rattle.slot_gen.proofs.blocks.put_initial.Goals as goal

pub returns-in-None : goal.returns-in-None
returns-in-None c = on_ok c.put_write.result _ _ (λ q. initial_none c.args.within.now.program.now c.args.within.now.number _ _ _ _ c.in-None.ensures q) (c.put_write.ensures c.args.within.now.program.now c.args.within.now.number)

pub returns-in-Some : goal.returns-in-Some
returns-in-Some c = on_ok c.put_write-in-Some.result _ _ (λ q. initial_some c.args.within.now.program.now c.args.within.now.number _ _ _ _ _ c.in-Some.ensures q) (c.put_write-in-Some.ensures c.args.within.now.program.now c.args.within.now.number)
