use Rattle.std.proofs.Common.{◌≡◌, ◌++◌, drop, map}
use Rattle.obj_placed.specs.Placed.{moved_point}
use Rattle.link_image.proofs.rows.moved.Given as goal

abbrev pub invariant-loop-offset : goal.invariant-loop-offset
invariant-loop-offset l = l.addresses.items ++ map (moved_point l.base) (drop l.offset-index l.offsets) ≡ map (moved_point l.base) l.offsets
