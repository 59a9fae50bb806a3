use Rattle.std.proofs.Common.{◌≡◌, drop}
use Rattle.ps_store.specs.Store.{closed_part, entries_of}
use Rattle.ps_step.specs.Composites.{putting_pairs}
use Rattle.ps_step.proofs.composites.put_pairs.Given as goal

-- what is left decides, and the pairs that are copied are as they were
abbrev pub invariant-loop-at : goal.invariant-loop-at
invariant-loop-at l = record {
  closed : closed_part l.store ≡ closed_part l.fn.store;
  same : entries_of l.store l.from ≡ entries_of l.fn.store l.from;
  rest : putting_pairs l.store l.to (drop l.at (entries_of l.fn.store l.from)) ≡ putting_pairs l.fn.store l.to (entries_of l.fn.store l.from);
}
