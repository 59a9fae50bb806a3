use Rattle.std.proofs.Common.{◌≡◌, List, ℕ, drop}
use Rattle.machine_state.specs.declared.layout.TheConstants.{TEXT}
use Rattle.obj_placed.specs.Placed.{text_names}
use Rattle.link_image.specs.Tables.{entry_in, seen}
use Rattle.link_image.proofs.names.add_texts.Given as goal

abbrev pub invariant-loop-object : goal.invariant-loop-object
invariant-loop-object l = (t : List ℕ) → seen (entry_in l.addresses t) (text_names l.base (drop l.object-index l.objects)) t ≡ seen (entry_in l.fn.addresses t) (text_names TEXT l.objects) t
