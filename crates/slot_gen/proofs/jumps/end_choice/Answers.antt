use Rattle.std.proofs.Common.{length, ap, ◌∙◌}
use Rattle.slot_gen.proofs.Emitted.{choice_done}
use Rattle.slot_gen.proofs.jumps.end_choice.Goals as goal

pub returns : goal.returns
returns c = λ before a b x y is at there.
    choice_done _ _ _ before a b x y _ _ _ _ _ c.patch.ensures.there c.patch-2.ensures.there c.in_ok-target.ensures (c.in_ok-end.ensures ∙ ap length c.deref.ensures.value) is at there
