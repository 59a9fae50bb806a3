use Rattle.std.proofs.Common.{◌≡◌, List, ℕ, drop}
use Rattle.machine_state.specs.declared.layout.TheConstants.{DATA}
use Rattle.obj_placed.specs.Placed.{all_statics}
use Rattle.link_image.specs.Tables.{entry_in, seen}
use Rattle.link_image.specs.Linked.{anchors_from}
use Rattle.link_image.proofs.names.add_all_statics.Given as goal

abbrev pub invariant-loop-object : goal.invariant-loop-object
invariant-loop-object l = (t : List ℕ) → seen (entry_in l.addresses t) (anchors_from l.at (all_statics (drop l.object-index l.objects))) t ≡ seen (entry_in l.fn.addresses t) (anchors_from DATA (all_statics l.objects)) t
