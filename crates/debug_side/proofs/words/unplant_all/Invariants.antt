use Rattle.std.proofs.Common.{None}
use Rattle.break_plant.specs.Planted.{noop_of}
use Rattle.debug_side.specs.Wrote.{Wrote}
use Rattle.debug_side.proofs.Putting.{FrontLeft}
use Rattle.debug_side.proofs.words.unplant_all.Given as goal

abbrev pub invariant-loop-point : goal.invariant-loop-point
invariant-loop-point g l = record {
  wrote : Wrote (g.M.AbsMem.seen l.fn.m) (g.M.AbsMem.seen l.m) (FrontLeft (noop_of l.target) l.points l.point-index);
  calls : g.M.AbsMem.leads l.fn.m None l.m;
}
