use Rattle.std.proofs.Common.{◌≤◌}
use Rattle.ldb_top.proofs.generated.counts_of.Given as goal

abbrev pub invariant-loop-i : goal.invariant-loop-i
invariant-loop-i l = l.start ≤ l.i
