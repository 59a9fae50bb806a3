use Rattle.std.proofs.Common.{length, ap, ◌∙◌}
use Rattle.slot_gen.proofs.Turns.{switch_done}
use Rattle.slot_gen.proofs.loops.end_switch.Goals as goal

pub returns : goal.returns
returns c = λ before body targets places is at ls first.
    switch_done _ _ _ _ _ _ _ before body _ targets places _ _ _ _ _ _ c.in_ok-over.ensures.there c.in_ok-seek.ensures c.in_ok-leave.ensures c.in_ok-over.ensures.one c.in_ok-extend_from_slice.ensures.items c.in_ok-put.ensures (c.in_ok-end.ensures ∙ ap length c.deref.ensures.value) c.patch.ensures.there c.patch-2.ensures.there c.patch-3.ensures.there (c.default_place-rest.ensures places first) is at ls
