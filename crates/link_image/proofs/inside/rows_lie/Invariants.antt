use Rattle.std.proofs.Common.{◌≡◌, drop}
use Rattle.std.specs.List.{list_all}
use Rattle.link_image.specs.Conditions.{row_lies}
use Rattle.link_image.proofs.inside.rows_lie.Given as goal

abbrev pub invariant-loop-row : goal.invariant-loop-row
invariant-loop-row l = list_all (row_lies l.size) (drop l.row-index l.rows) ≡ list_all (row_lies l.size) l.rows
