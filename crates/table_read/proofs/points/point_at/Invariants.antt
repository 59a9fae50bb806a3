use Rattle.std.proofs.Common.{◌≡◌, drop}
use Rattle.table_model.specs.Reading.{first_from}
use Rattle.table_model.specs.Rows.{standing_at}
use Rattle.table_read.proofs.points.point_at.Given as goal

-- what is left decides
abbrev pub invariant-loop-point : goal.invariant-loop-point
invariant-loop-point l = first_from (λ n x. standing_at l.store l.pc x) l.point-index (drop l.point-index l.points) ≡ first_from (λ n x. standing_at l.store l.pc x) 0 l.points
