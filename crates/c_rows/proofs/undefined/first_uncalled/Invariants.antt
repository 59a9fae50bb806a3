use Rattle.std.proofs.Common.{◌≡◌, drop}
use Rattle.std.specs.List.{find}
use Rattle.c_rows.specs.Behind.{is_row_uncalled}
use Rattle.c_rows.proofs.undefined.first_uncalled.Given as goal

abbrev pub invariant-loop-c : goal.invariant-loop-c
invariant-loop-c l = find (is_row_uncalled l.defined l.names) (drop l.c-index l.calls) ≡ find (is_row_uncalled l.defined l.names) l.calls
