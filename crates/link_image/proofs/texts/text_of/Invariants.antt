use Rattle.std.proofs.Common.{◌≡◌, ◌++◌, drop}
use Rattle.machine_state.specs.declared.layout.TheConstants.{TEXT}
use Rattle.obj_placed.specs.Placed.{placed_texts}
use Rattle.link_image.specs.Tables.{HasText, address_in, entry_in}
use Rattle.std.specs.List.{AllByRecursion}
use Rattle.link_image.proofs.texts.text_of.Given as goal

abbrev pub invariant-loop-object : goal.invariant-loop-object
invariant-loop-object l = record {
  text : l.text.items ++ placed_texts (address_in l.addresses) l.base (drop l.object-index l.objects) ≡ placed_texts (address_in l.addresses) TEXT l.objects;
  taken : AllByRecursion (HasText (entry_in l.addresses)) (drop l.object-index l.objects) → AllByRecursion (HasText (entry_in l.addresses)) l.objects;
}
