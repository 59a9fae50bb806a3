use Rattle.std.proofs.Common.{◌≡◌, ◌++◌, length, drop}
use Rattle.machine_state.specs.declared.layout.TheConstants.{DATA}
use Rattle.obj_placed.specs.Placed.{all_statics, placed_statics}
use Rattle.link_image.specs.Tables.{HasStatics, address_in, entry_in}
use Rattle.std.specs.List.{AllByRecursion}
use Rattle.link_image.specs.Linked.{addresses_from, data_from}
use Rattle.link_image.proofs.statics.statics_of.Given as goal

abbrev pub invariant-loop-object : goal.invariant-loop-object
invariant-loop-object l = record {
  bytes : l.statics.items ++ data_from (length l.statics.items) (addresses_from l.at (all_statics (drop l.object-index l.objects))) (placed_statics (address_in l.addresses) (drop l.object-index l.objects))
      ≡ data_from 0 (addresses_from DATA (all_statics l.objects)) (placed_statics (address_in l.addresses) l.objects);
  taken : AllByRecursion (HasStatics (entry_in l.addresses)) (drop l.object-index l.objects) → AllByRecursion (HasStatics (entry_in l.addresses)) l.objects;
}
