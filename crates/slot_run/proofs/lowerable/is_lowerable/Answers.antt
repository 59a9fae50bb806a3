use Rattle.slot_run.proofs.Steps.{lowerable}
use Rattle.slot_run.proofs.lowerable.is_lowerable.Goals as goal

pub returns : goal.returns
returns c =
    lowerable c.args.program.now c.are_all_fitting.result c.as_slice.result.now c.as_slice-3.result.now c.as_slice-2.result.now c.as_slice.ensures c.as_slice-3.ensures c.as_slice-2.ensures
    (c.are_laid_out.ensures c.if-not-are_laid_out.false) (c.has_main.ensures c.if-not-has_main.false) c.are_all_fitting.ensures
