use Rattle.std.proofs.Common.{◌≡◌, replicate, None}
use Rattle.c_defs.proofs.structs.none_kept.Given as goal

abbrev pub invariant-loop : goal.invariant-loop
invariant-loop l = l.rows.items ≡ replicate l.counter None
