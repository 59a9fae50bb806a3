use Rattle.std.proofs.Common.{◌≡◌, ◌-◌, ◌≤◌, None, length, take, drop}
use Rattle.debug_side.proofs.Stepped.{Stepped}
use Rattle.debug_side.proofs.planting.plant_for_step.Given as goal

abbrev pub invariant-loop-at : goal.invariant-loop-at
invariant-loop-at g l = record {
  kept_in : l.kept ≤ l.at;
  at_in : l.at ≤ length l.points.items;
  rest : drop l.at l.points.items ≡ drop l.at l.fn.points.items;
  same_length : length l.points.items ≡ length l.fn.points.items;
  stepped : Stepped l.fn.target l.fn.points.items l.at (take l.kept l.points.items) (g.M.AbsMem.seen l.fn.m) (g.M.AbsMem.seen l.m);
  calls : g.M.AbsMem.leads l.fn.m None l.m;
}

abbrev pub decreases-loop-at : goal.decreases-loop-at
decreases-loop-at g l = length l.points.items - l.at
