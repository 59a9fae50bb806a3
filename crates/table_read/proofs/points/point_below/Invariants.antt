use Rattle.std.proofs.Common.{◌≡◌, drop, None}
use Rattle.table_model.specs.Rows.{point_below_from}
use Rattle.table_read.proofs.points.point_below.Given as goal

-- what is left and the best one so far decide
abbrev pub invariant-loop-point : goal.invariant-loop-point
invariant-loop-point l = point_below_from l.store l.pc l.best (drop l.point-index l.points) ≡ point_below_from l.store l.pc None l.points
