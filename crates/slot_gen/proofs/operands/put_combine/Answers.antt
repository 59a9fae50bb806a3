use Rattle.std.proofs.Common.{sym}
use Rattle.slot_gen.proofs.Emitted.{on_ok, combine_done}
use Rattle.slot_gen.proofs.operands.put_combine.Goals as goal

pub returns : goal.returns
returns c =
    let p = c.args.within.now.program.now in
    on_ok c.put.result _ _ (λ h. combine_done p _ _ _ _ _ _ _ _ c.in_ok-next.ensures (c.in_ok-combine_op.ensures p (sym c.as_slice.ensures)) h) c.put.ensures
