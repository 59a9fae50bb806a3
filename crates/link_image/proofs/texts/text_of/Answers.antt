use Rattle.std.proofs.Common.{◌+◌, ◌++◌, ◌∙◌, sym, ap, drop}
use Rattle.obj_placed.specs.Placed.{placed_texts}
use Rattle.link_image.specs.Tables.{HasText, address_in, entry_in}
use Rattle.link_image.proofs.Lists.{text_step, item_of, all_from, all_left}
use Rattle.link_image.proofs.Uses.{text_is_fault}
use Rattle.link_image.proofs.texts.text_of.Goals as goal

pub loop-object-preserved : goal.loop-object-preserved
loop-object-preserved c = record {
  text = text_step (address_in c.args.addresses.now) c.loop-object.text.items _ _ _ _ _ c.object-item.result _ (drop (c.loop-object.object-index + 1) c.args.objects.now) c.as_bytes.ensures (c.in_ok-extend_from_slice.ensures.items ∙ ap (λ l. c.loop-object.text.items ++ l) c.deref.ensures.value) c.in-Ok.ensures.text c.in_ok-size_of.ensures c.in_ok-base.ensures
      ∙ (ap (λ os. c.loop-object.text.items ++ placed_texts (address_in c.args.addresses.now) c.loop-object.base os) (sym (item_of c.args.objects.now c.loop-object.object-index _ c.loop-object-test.true c.object-item.is)) ∙ c.loop-object.invariant.text);
  taken = λ all. c.loop-object.invariant.taken (all_from (HasText (entry_in c.args.addresses.now)) c.args.objects.now c.loop-object.object-index _ c.loop-object-test.true c.object-item.is c.in-Ok.ensures.taken all);
}

pub returns-clause-taken : goal.returns-clause-taken
returns-clause-taken c = c.loop-object.invariant.taken (all_left (HasText (entry_in c.args.addresses.now)) c.args.objects.now c.loop-object.object-index c.loop-object-test.false)

pub returns-in-Err-clause-fault : goal.returns-in-Err-clause-fault
returns-in-Err-clause-fault c = text_is_fault (entry_in c.args.addresses.now) c.args.objects.now c.requires c.loop-object.object-index c.object-item.result c.in-Err.fault c.loop-object-test.true c.object-item.is c.in-Err.ensures.fault
