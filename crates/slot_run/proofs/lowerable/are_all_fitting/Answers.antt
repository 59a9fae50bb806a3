use Rattle.std.proofs.Common.{◌≡◌, true, arith}
use Rattle.std.proofs.lemmas.Grind.{common_steps}
use Rattle.slot_run.proofs.Steps.{fitting_more}
use Rattle.slot_run.proofs.lowerable.are_all_fitting.Goals as goal

pub loop-row-preserved : goal.loop-row-preserved
loop-row-preserved c = λ rest.
    let fits : c.in_ok-is_fitting.field-0 ≡ true = grind (arith, common_steps) in
    c.loop-row.invariant (fitting_more c.args.program.now c.loop-row.row-index c.args.objects.now c.row-item.result c.loop-row-test.true c.row-item.is (c.in_ok-is_fitting.ensures fits) rest)
