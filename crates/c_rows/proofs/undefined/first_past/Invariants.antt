use Rattle.std.proofs.Common.{◌≡◌, drop}
use Rattle.std.specs.List.{find}
use Rattle.c_rows.specs.Behind.{is_row_past}
use Rattle.c_rows.proofs.undefined.first_past.Given as goal

abbrev pub invariant-loop-place : goal.invariant-loop-place
invariant-loop-place l = find (is_row_past l.names) (drop l.place-index l.late) ≡ find (is_row_past l.names) l.late
