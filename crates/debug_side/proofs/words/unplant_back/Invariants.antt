use Rattle.std.proofs.Common.{◌≤◌, None, length}
use Rattle.break_plant.specs.Planted.{noop_of}
use Rattle.debug_side.specs.Wrote.{Wrote}
use Rattle.debug_side.proofs.Putting.{BackDone}
use Rattle.debug_side.proofs.words.unplant_back.Given as goal

abbrev pub invariant-loop-left : goal.invariant-loop-left
invariant-loop-left g l = record {
  within : l.left ≤ length l.points;
  wrote : Wrote (g.M.AbsMem.seen l.fn.m) (g.M.AbsMem.seen l.m) (BackDone (noop_of l.target) l.points l.left);
  calls : g.M.AbsMem.leads l.fn.m None l.m;
}

abbrev pub decreases-loop-left : goal.decreases-loop-left
decreases-loop-left g l = l.left
