use Rattle.std.proofs.Common.{◌-◌, ◌<◌, None}
use Rattle.asking.specs.Frames.{listed_outward}
use Rattle.asking.proofs.Listed.{SoFar, from_frame}
use Rattle.asking.proofs.frames.list_outward.Given as goal

abbrev pub invariant-loop-number : goal.invariant-loop-number
invariant-loop-number g l = record {
  far : SoFar (g.M.AbsMem.seen l.initial.m) (g.M.AbsMem.seen l.m) (λ b. listed_outward l.row l.table b l.fn.innermost) (λ b. from_frame l.row l.table b (19999 - l.number) l.number l.lines l.frame);
  led : g.M.AbsMem.leads l.initial.m None l.m;
  more : l.number < 20000;
}
