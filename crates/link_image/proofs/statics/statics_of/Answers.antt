use Rattle.std.proofs.Common.{◌+◌, drop, ◌++◌, ◌∙◌, sym, ap, length}
use Rattle.obj_placed.specs.Placed.{all_statics, placed_statics}
use Rattle.link_image.specs.Tables.{HasStatics, address_in, entry_in}
use Rattle.link_image.specs.Linked.{addresses_from, data_from}
use Rattle.link_image.proofs.Lists.{data_step, item_of, all_from, all_left}
use Rattle.link_image.proofs.Uses.{statics_are_fault}
use Rattle.link_image.proofs.statics.statics_of.Goals as goal

pub loop-object-preserved : goal.loop-object-preserved
loop-object-preserved c = record {
  bytes = data_step (address_in c.args.addresses.now) c.loop-object.statics.items c.add_statics.new.statics.items c.loop-object.at c.in_ok-at.at c.object-item.result _ _ (drop (c.loop-object.object-index + 1) c.args.objects.now) c.as_slice.ensures (c.deref.ensures.value ∙ c.in-Ok.ensures.bytes) c.in_ok-at.ensures.bytes c.in_ok-at.ensures.next
      ∙ (ap (λ os. c.loop-object.statics.items ++ data_from (length c.loop-object.statics.items) (addresses_from c.loop-object.at (all_statics os)) (placed_statics (address_in c.args.addresses.now) os)) (sym (item_of c.args.objects.now c.loop-object.object-index _ c.loop-object-test.true c.object-item.is)) ∙ c.loop-object.invariant.bytes);
  taken = λ all. c.loop-object.invariant.taken (all_from (HasStatics (entry_in c.args.addresses.now)) c.args.objects.now c.loop-object.object-index _ c.loop-object-test.true c.object-item.is c.in-Ok.ensures.taken all);
}

pub returns-clause-taken : goal.returns-clause-taken
returns-clause-taken c = c.loop-object.invariant.taken (all_left (HasStatics (entry_in c.args.addresses.now)) c.args.objects.now c.loop-object.object-index c.loop-object-test.false)

pub returns-in-Err-clause-fault : goal.returns-in-Err-clause-fault
returns-in-Err-clause-fault c = statics_are_fault (entry_in c.args.addresses.now) c.args.objects.now c.requires c.loop-object.object-index c.object-item.result c.in-Err.fault c.loop-object-test.true c.object-item.is c.in-Err.ensures.fault
