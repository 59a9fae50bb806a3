use Rattle.std.proofs.Common.{◌-◌, None}
use Rattle.locate.specs.Counting.{outward_count}
use Rattle.locate.proofs.Far.{SoFar}
use Rattle.locate.proofs.Counts.{count_after}
use Rattle.locate.proofs.locator.outward_count.Given as goal

-- so many frames, and what is left
abbrev pub invariant-loop-count : goal.invariant-loop-count
invariant-loop-count g l = record {
  far : SoFar (g.M.AbsMem.seen l.initial.m) (g.M.AbsMem.seen l.m) (λ b. outward_count l.row l.table b l.most l.fn.frame) (λ b. count_after l.count (outward_count l.row l.table b (l.most - l.count) l.inner));
  led : g.M.AbsMem.leads l.initial.m None l.m;
}
