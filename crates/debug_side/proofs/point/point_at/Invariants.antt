use Rattle.std.proofs.Common.{◌≡◌, drop}
use Rattle.debug_side.specs.Meant.{point_at}
use Rattle.debug_side.proofs.point.point_at.Given as goal

abbrev pub invariant-loop-point : goal.invariant-loop-point
invariant-loop-point l = point_at (drop l.point-index l.points) l.at ≡ point_at l.points l.at
