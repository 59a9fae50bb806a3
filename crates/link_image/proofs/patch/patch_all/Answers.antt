use Rattle.std.proofs.Common.{length}
use Rattle.link_image.specs.Tables.{entry_in}
use Rattle.link_image.proofs.Uses.{read_fault, sized_fault}
use Rattle.link_image.proofs.patch.patch_all.Goals as goal

pub returns-in-Err-clause-fault : goal.returns-in-Err-clause-fault
returns-in-Err-clause-fault c =
    read_fault (entry_in c.args.addresses.now) c.args.in_text (length c.args.bytes.now) c.place-item.result c.args.object.now c.as_slice-place-items.result.now c.loop-place.place-index c.in-Err.fault c.as_slice-place-items.ensures c.loop-place-test.true c.place-item.is
    (sized_fault (entry_in c.args.addresses.now) c.args.in_text (length c.args.bytes.now) c.place-item.result _ c.in-Err.fault c.loop-place.invariant.size c.in-Err.ensures.fault)
