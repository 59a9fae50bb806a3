use Rattle.std.proofs.Common.{◌≡◌, ◌++◌, drop, map}
use Rattle.obj_placed.specs.Placed.{moved_row}
use Rattle.link_image.proofs.rows.add_rows.Given as goal

abbrev pub invariant-loop-row : goal.invariant-loop-row
invariant-loop-row l = l.rows.items ++ map (moved_row l.base) (drop l.row-index l.functions) ≡ l.fn.rows.items ++ map (moved_row l.base) l.functions
