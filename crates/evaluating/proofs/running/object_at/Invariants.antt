use Rattle.std.proofs.Common.{◌≡◌, ◌≤◌, ◌-◌}
use Rattle.abs_mem.specs.Meaning.{Same}
use Rattle.ps_store.specs.Store.{closed_part}
use Rattle.table_asks.specs.Closing.{Settles}
use Rattle.evaluating.proofs.running.object_at.Given as goal

-- units were run so far
abbrev pub invariant-again : goal.invariant-again
invariant-again g l = record {
  limit : l.inquiry.steps.limit ≡ l.initial.inquiry.steps.limit;
  within : l.inquiry.steps.taken ≤ l.inquiry.steps.limit;
  same : Same (g.W.AbsMem.seen l.initial.m) (g.W.AbsMem.seen l.m);
  closed : Settles (closed_part l.initial.inquiry.core.store) (closed_part l.inquiry.core.store);
}

abbrev pub decreases-again : goal.decreases-again
decreases-again g l = l.inquiry.steps.limit - l.inquiry.steps.taken
