use Rattle.std.proofs.Common.{length, ap, ◌∙◌}
use Rattle.slot_gen.proofs.Turns.{loop_done}
use Rattle.slot_gen.proofs.loops.end_loop.Goals as goal

pub returns : goal.returns
returns c = λ p f t q before body is at et ei has.
    loop_done p f _ _ _ _ _ before body _ _ t q _ _ _ _ _ _ _ c.in_ok-leave.ensures c.in_ok-again.ensures c.entry.ensures c.in_ok-put.ensures (c.in_ok-end.ensures ∙ ap length c.deref.ensures.value) c.patch.ensures.there c.patch-2.ensures.there c.put_exit.ensures.none c.put_exit.ensures.some is at et ei has
