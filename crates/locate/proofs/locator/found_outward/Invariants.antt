use Rattle.std.proofs.Common.{◌-◌, ◌<◌, None}
use Rattle.table_model.specs.Objects.{found_outward}
use Rattle.locate.proofs.Far.{SoFar}
use Rattle.locate.proofs.locator.found_outward.Given as goal

abbrev pub invariant-loop-number : goal.invariant-loop-number
invariant-loop-number g l = record {
  far : SoFar (g.M.AbsMem.seen l.initial.m) (g.M.AbsMem.seen l.m) (λ b. found_outward l.row l.table b l.address 19999 0 l.fn.innermost) (λ b. found_outward l.row l.table b l.address (19999 - l.number) l.number l.frame);
  led : g.M.AbsMem.leads l.initial.m None l.m;
  more : l.number < 20000;
}
