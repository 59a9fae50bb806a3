use Rattle.std.proofs.Common.{◌≡◌, ◌++◌, drop}
use Rattle.machine_state.specs.declared.layout.TheConstants.{DATA}
use Rattle.obj_placed.specs.Placed.{all_statics}
use Rattle.link_image.specs.Linked.{anchors_from}
use Rattle.link_image.specs.Conditions.{are_fitting}
use Rattle.link_image.proofs.anchors.anchors_of.Given as goal

abbrev pub invariant-loop-object : goal.invariant-loop-object
invariant-loop-object l = record {
  anchors : l.anchors.items ++ anchors_from l.at (all_statics (drop l.object-index l.objects)) ≡ anchors_from DATA (all_statics l.objects);
  fit : are_fitting l.at (all_statics (drop l.object-index l.objects)) ≡ are_fitting DATA (all_statics l.objects);
}
