use Rattle.std.proofs.Common.{◌≡◌, drop}
use Rattle.table_model.specs.Reading.{first_from}
use Rattle.table_model.specs.Places.{in_unit}
use Rattle.table_points.proofs.spots.spot_point.Given as goal

-- what is left decides
abbrev pub invariant-loop-number : goal.invariant-loop-number
invariant-loop-number l = first_from (in_unit l.store l.file l.line l.column) l.number (drop l.number l.units) ≡ first_from (in_unit l.store l.file l.line l.column) 0 l.units
