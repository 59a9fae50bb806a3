use Rattle.std.proofs.Common.{◌≡◌, ◌++◌, drop}
use Rattle.machine_state.specs.declared.layout.TheConstants.{TEXT}
use Rattle.obj_placed.specs.Placed.{placed_rows}
use Rattle.link_image.proofs.rows.rows_of.Given as goal

abbrev pub invariant-loop-object : goal.invariant-loop-object
invariant-loop-object l = l.rows.items ++ placed_rows l.base (drop l.object-index l.objects) ≡ placed_rows TEXT l.objects
