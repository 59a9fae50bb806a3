use Rattle.slot_run.proofs.Steps.{row_fits}
use Rattle.slot_run.proofs.lowerable.is_fitting.Goals as goal

pub returns-in-Ok : goal.returns-in-Ok
returns-in-Ok c = λ fit.
    row_fits c.args.program.now.defs c.as_slice.result.now c.args.row.now.ctype c.in-Ok.all.items c.deref.result.now c.args.row.now.start c.as_slice-in-Ok.result.now
    c.as_slice.ensures (c.leaves_ascend.ensures c.args.program.now.defs c.args.row.now.ctype c.requires) c.in-Ok.ensures.0 c.in-Ok.ensures.1 c.deref.ensures.value c.as_slice-in-Ok.ensures (c.are_fitting.ensures fit)
