use Rattle.slot_run.proofs.Steps.{one_laid, all_laid}
use Rattle.slot_run.proofs.lowerable.are_laid_out.Goals as goal

pub loop-def-preserved : goal.loop-def-preserved
loop-def-preserved c =
    one_laid c.args.defs.now c.loop-def.def-index c.def-item.result c.loop-def-test.true c.def-item.is (c.is_laid_out.ensures c.if-not-is_laid_out.false) c.loop-def.invariant

pub returns : goal.returns
returns c = λ _. all_laid c.args.defs.now c.loop-def.def-index c.loop-def-test.false c.loop-def.invariant
