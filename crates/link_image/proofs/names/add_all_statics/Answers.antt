use Rattle.std.proofs.Common.{◌+◌, drop, ◌∙◌, sym, ap}
use Rattle.obj_placed.specs.Placed.{all_statics}
use Rattle.link_image.specs.Tables.{entry_in, seen}
use Rattle.link_image.specs.Linked.{anchors_from}
use Rattle.link_image.proofs.Lists.{item_of}
use Rattle.link_image.proofs.Named.{statics_step}
use Rattle.link_image.proofs.names.add_all_statics.Goals as goal

pub loop-object-preserved : goal.loop-object-preserved
loop-object-preserved c = λ t.
    statics_step (entry_in c.loop-object.addresses t) (entry_in c.add_statics.new.addresses t) _ _ c.object-item.result _ (drop (c.loop-object.object-index + 1) c.args.objects.now) t c.as_slice.ensures (c.in_ok-at.ensures.addresses t) c.in_ok-at.ensures.next
    ∙ (ap (λ os. seen (entry_in c.loop-object.addresses t) (anchors_from c.loop-object.at (all_statics os)) t) (sym (item_of c.args.objects.now c.loop-object.object-index _ c.loop-object-test.true c.object-item.is)) ∙ c.loop-object.invariant t)
