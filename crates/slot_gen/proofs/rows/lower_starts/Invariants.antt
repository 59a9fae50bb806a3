use Rattle.std.proofs.Common.{◌≡◌, ◌++◌, drop}
use Rattle.slot_gen.specs.Rows.{starts_of}
use Rattle.slot_gen.proofs.rows.lower_starts.Given as goal

abbrev pub invariant-loop-i : goal.invariant-loop-i
invariant-loop-i l = l.rows.items ++ starts_of (drop l.i l.leaves) (drop l.i l.starts) ≡ starts_of l.leaves l.starts
