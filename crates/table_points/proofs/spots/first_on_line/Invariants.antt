use Rattle.std.proofs.Common.{◌≡◌, drop}
use Rattle.ps_store.specs.Store.{bytes_of}
use Rattle.table_model.specs.Reading.{first_from}
use Rattle.table_model.specs.Places.{on_line}
use Rattle.table_points.proofs.spots.first_on_line.Given as goal

-- what is left decides
abbrev pub invariant-loop-point : goal.invariant-loop-point
invariant-loop-point l = first_from (λ n x. on_line l.store (bytes_of l.store l.file) l.line l.column l.function x) l.point-index (drop l.point-index l.points) ≡ first_from (λ n x. on_line l.store (bytes_of l.store l.file) l.line l.column l.function x) 0 l.points
