use Rattle.std.proofs.Common.{◌≡◌, ◌+◌, ◌-◌}
use Rattle.table_types.specs.Offsets.{run_from, MOST_RUN}
use Rattle.table_types.proofs.live.run_from.Given as goal

-- what is left decides
abbrev pub invariant-loop-count : goal.invariant-loop-count
invariant-loop-count l = run_from l.store l.found (MOST_RUN - l.count) l.count (l.at + l.count) ≡ run_from l.store l.found MOST_RUN 0 l.at
