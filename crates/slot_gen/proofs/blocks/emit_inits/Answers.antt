use Rattle.slot_gen.proofs.Stops.{inits_more}
use Rattle.slot_gen.proofs.blocks.emit_inits.Goals as goal

pub loop-declared-preserved : goal.loop-declared-preserved
loop-declared-preserved c =
    inits_more c.args.within.now.program.now c.args.within.now.number _ _ _ _ _ _ c.loop-declared-test.true c.declared-item.is c.loop-declared.invariant c.in_ok-emit_declared.ensures
