use Rattle.std.proofs.Common.{sym}
use Rattle.slot_gen.proofs.operands.updating.Goals as goal

pub returns : goal.returns
returns c = c.combine_op.ensures c.args.within.now.program.now (sym c.as_slice.ensures)
