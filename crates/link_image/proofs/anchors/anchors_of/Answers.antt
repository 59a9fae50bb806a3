use Rattle.std.proofs.Common.{◌+◌, drop, ◌++◌, ◌∙◌, sym, ap}
use Rattle.machine_state.specs.declared.layout.TheConstants.{DATA}
use Rattle.obj_placed.specs.Placed.{all_statics}
use Rattle.link_image.specs.Linked.{anchors_from}
use Rattle.link_image.specs.Conditions.{are_fitting}
use Rattle.link_image.proofs.Lists.{anchors_step, item_of}
use Rattle.link_image.proofs.Placing.{fit_step, unfit_step}
use Rattle.link_image.proofs.anchors.anchors_of.Goals as goal

pub returns-in-Err-clause-fault : goal.returns-in-Err-clause-fault
returns-in-Err-clause-fault c =
    unfit_step DATA c.loop-object.at c.args.objects.now c.object-item.result c.as_slice.result.now (drop (c.loop-object.object-index + 1) c.args.objects.now) (drop c.loop-object.object-index c.args.objects.now) c.in-Err.fault c.as_slice.ensures
    (item_of c.args.objects.now c.loop-object.object-index _ c.loop-object-test.true c.object-item.is) c.loop-object.invariant.fit c.in-Err.ensures.fault

pub loop-object-preserved : goal.loop-object-preserved
loop-object-preserved c =
    let rest = sym (item_of c.args.objects.now c.loop-object.object-index _ c.loop-object-test.true c.object-item.is) in
    record {
      anchors =
          anchors_step _ _ _ _ c.object-item.result _ (drop (c.loop-object.object-index + 1) c.args.objects.now) c.as_slice.ensures c.in-Ok.ensures.anchors c.in-Ok.ensures.next
          ∙ (ap (λ os. c.loop-object.anchors.items ++ anchors_from c.loop-object.at (all_statics os)) rest ∙ c.loop-object.invariant.anchors);
      fit =
          fit_step c.loop-object.at _ c.object-item.result c.as_slice.result.now (drop (c.loop-object.object-index + 1) c.args.objects.now) c.as_slice.ensures c.in-Ok.ensures.fit c.in-Ok.ensures.next
          ∙ (ap (λ os. are_fitting c.loop-object.at (all_statics os)) rest ∙ c.loop-object.invariant.fit);
    }
