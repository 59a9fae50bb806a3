use Rattle.std.proofs.Common.{◌∙◌}
use Rattle.slot_gen.proofs.Begun.{main_found, main_more}
use Rattle.slot_gen.proofs.lowering.main_number.Goals as goal

pub loop-function-preserved : goal.loop-function-preserved
loop-function-preserved c = main_more _ _ _ c.args.functions.now _ _ _ c.loop-function-test.true c.function-item.is c.is_main.ensures c.if-is_main.false c.in_ok-number.ensures c.loop-function.invariant
