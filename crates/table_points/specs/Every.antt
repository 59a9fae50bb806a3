-- Every point of a table.
use Rattle.std.specs.Prelude.{◌≡◌, List, ◌++◌, map, Result, Ok, Err}
use Rattle.ps_store.specs.StoreState.{StoreState}
use Rattle.table_model.specs.Reading.{Walked}
use Rattle.table_model.specs.Rows.{PointRow}
use Rattle.table_read.specs.Reads.{in_ok}
use Rattle.table_points.specs.declared.row.Point.{Point}
use Rattle.table_points.specs.declared.every.PointsFault.{PointsFault}
use Rattle.table_points.specs.declared.every.PointsFault.TheVariants.{Lacks, NoMemory}
use Rattle.table_points.specs.Rows.{row_in}

-- rows and those behind them
abbrev pub joined : List PointRow → List PointRow → List PointRow
joined before rows = before ++ rows

abbrev pub rows_in_store : StoreState → List Point → List PointRow
rows_in_store s ps = map (row_in s) ps

-- The rows that a reading comes to were added as points behind those that were there. Where memory was wanting nothing is said.
abbrev pub Adds : StoreState → Walked (List PointRow) → List Point → Result (Unit {0}) PointsFault → List Point → Type 0
Adds s w before (Ok x) after = in_ok (joined (rows_in_store s before)) w ≡ Ok (rows_in_store s after)
Adds s w before (Err (Lacks l)) after = w ≡ Err l
Adds s w before (Err NoMemory) after = Unit {0}

-- the rows that a reading comes to are told, unless memory is wanting
abbrev pub Tells : Walked (List PointRow) → Result (List PointRow) PointsFault → Type 0
Tells w (Ok rows) = w ≡ Ok rows
Tells w (Err (Lacks l)) = w ≡ Err l
Tells w (Err NoMemory) = Unit {0}
