use Rattle.slot_gen.proofs.Emitted.{on_ok}
use Rattle.slot_gen.proofs.Stops.{pointed_done}
use Rattle.slot_gen.proofs.blocks.emit_pointed.Goals as goal

pub returns : goal.returns
returns c = on_ok c.emit_expr.result _ _ (λ e. pointed_done c.args.within.now.program.now c.args.within.now.number _ _ _ c.args.q.now c.in_ok-put.ensures e) c.emit_expr.ensures
