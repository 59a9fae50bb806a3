use Rattle.std.proofs.Common.{◌≡◌, ◌++◌, map, drop}
use Rattle.c_initial.specs.Starts.{begins_in}
use Rattle.c_rows.specs.Placed.{start_by}
use Rattle.c_rows.proofs.starts.given.Given as goal

abbrev pub invariant-loop-begin : goal.invariant-loop-begin
invariant-loop-begin l = (l.starts.items ++ map (start_by l.places l.unit) (begins_in (drop l.begin-index l.begins))) ≡ map (start_by l.places l.unit) (begins_in l.begins)
