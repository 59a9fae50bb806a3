-- Points as they are kept, by the table's own strings.
use Rattle.std.specs.Prelude.{ℕ, Bool, List, Some, codes, Ok}
use Rattle.ps_store.specs.StoreState.{StoreState}
use Rattle.ps_store.specs.Store.{bytes_of}
use Rattle.ps_step.specs.Results.{◌>>=◌}
use Rattle.table_model.specs.Reading.{Walked, number_at}
use Rattle.table_model.specs.Rows.{PointRow, point_address}
use Rattle.table_model.specs.Frames.{point_of_row}
use Rattle.table_model.specs.declared.row.FunctionRow.{FunctionRow}
use Rattle.table_points.specs.declared.row.Point.{Point}

abbrev pub row_in : StoreState → Point → PointRow
row_in s p = record { file = bytes_of s p.file; function = bytes_of s p.function; line = p.line; column = p.column; at = p.at }

-- what a frame line tells of a function whose names are read
abbrev pub told_at : StoreState → (is_inner : Bool) → (pc : ℕ) → FunctionRow → (file function : List ℕ) → Walked PointRow
told_at s is_inner pc row file function = do
  p ← point_of_row s is_inner pc (Some row)
  line ← number_at s p (codes "line")
  column ← number_at s p (codes "column")
  at ← point_address s p
  Ok (record { file = file; function = function; line = line; column = column; at = at })
