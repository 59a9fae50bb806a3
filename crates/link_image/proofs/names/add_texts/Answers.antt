use Rattle.std.proofs.Common.{◌+◌, drop, ◌∙◌, sym, ap}
use Rattle.obj_placed.specs.Placed.{text_names}
use Rattle.link_image.specs.Tables.{entry_in, seen}
use Rattle.link_image.proofs.Lists.{item_of}
use Rattle.link_image.proofs.Named.{texts_step}
use Rattle.link_image.proofs.names.add_texts.Goals as goal

pub loop-object-preserved : goal.loop-object-preserved
loop-object-preserved c = λ t.
    texts_step (entry_in c.loop-object.addresses t) (entry_in c.add_names.new.addresses t) _ _ _ c.object-item.result _ _ (drop (c.loop-object.object-index + 1) c.args.objects.now) t c.as_slice.ensures c.as_bytes.ensures (c.in_ok-add_names.ensures t) c.in_ok-size_of.ensures c.in_ok-base.ensures
    ∙ (ap (λ os. seen (entry_in c.loop-object.addresses t) (text_names c.loop-object.base os) t) (sym (item_of c.args.objects.now c.loop-object.object-index _ c.loop-object-test.true c.object-item.is)) ∙ c.loop-object.invariant t)
