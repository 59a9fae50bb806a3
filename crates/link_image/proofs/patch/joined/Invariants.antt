use Rattle.std.proofs.Common.{◌≡◌, ◌++◌, drop}
use Rattle.obj_placed.specs.Placed.{joined}
use Rattle.link_image.proofs.patch.joined.Given as goal

abbrev pub invariant-loop-row : goal.invariant-loop-row
invariant-loop-row l = l.bytes.items ++ joined (drop l.row-index l.statics) ≡ joined l.statics
