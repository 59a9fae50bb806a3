use Rattle.slot_gen.proofs.Emitted.{on_ok, update_done}
use Rattle.slot_gen.proofs.operands.put_update_place.Goals as goal

pub returns : goal.returns
returns c =
    let p = c.args.within.now.program.now in
    on_ok c.put-4.result _ _ (λ h. update_done p c.args.within.now.number _ _ _ _ _ _ _ _ _ _ _ _ _ _ _ _ _ c.kind_of-kind.ensures c.access_of-access.ensures c.in_ok-value.ensures c.in_ok-old.ensures c.given-from.ensures c.in_ok-updating.ensures c.in_ok-put.ensures c.in_ok-put-2.ensures c.in_ok-put_cast.ensures c.in_ok-put-3.ensures h) c.put-4.ensures
