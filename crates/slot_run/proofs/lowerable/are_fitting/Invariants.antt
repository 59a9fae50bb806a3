use Rattle.std.proofs.Common.{drop}
use Rattle.slot_gen.specs.Rows.{AreFitting}
use Rattle.slot_run.proofs.lowerable.are_fitting.Given as goal

-- where what is left fits, all does
abbrev pub invariant-loop-i : goal.invariant-loop-i
invariant-loop-i l = AreFitting (drop l.i l.leaves) (drop l.i l.starts) → AreFitting l.leaves l.starts
