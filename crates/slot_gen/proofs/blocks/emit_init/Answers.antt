use Rattle.slot_gen.proofs.Emitted.{on_ok}
use Rattle.slot_gen.proofs.Stops.{init_done}
use Rattle.slot_gen.proofs.blocks.emit_init.Goals as goal

pub returns : goal.returns
returns c =
    on_ok c.put_initial.result _ _
    (λ e. init_done c.args.within.now.program.now c.args.within.now.number _ _ _ _ _ _ c.args.q.now _ _ c.args.within.now.in_registers c.in_register-register.ensures c.in_ok-put.ensures c.in_ok-put_home.ensures c.in_ok-emit_expr.ensures e)
    c.put_initial.ensures
