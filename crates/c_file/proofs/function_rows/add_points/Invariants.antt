use Rattle.std.proofs.Common.{◌≡◌, ◌++◌, drop, map}
use Rattle.c_file.specs.Progress.{points_of}
use Rattle.c_body.specs.Walking.{stop_of}
use Rattle.c_file.proofs.function_rows.add_points.Given as goal

abbrev pub invariant-loop-s : goal.invariant-loop-s
invariant-loop-s l = (l.points.items ++ points_of l.function (map stop_of (drop l.s-index l.stops))) ≡ (l.initial.points.items ++ points_of l.function (map stop_of l.stops))
