use Rattle.std.proofs.Common.{◌≡◌, ◌≤◌, ◌-◌}
use Rattle.ps_store.specs.Store.{closed_part}
use Rattle.table_model.specs.Places.{all_points}
use Rattle.table_asks.specs.Closing.{Settles}
use Rattle.table_asks.proofs.Looking.{Onward}
use Rattle.table_asks.proofs.every.every_point.Given as goal

-- units were run so far
abbrev pub invariant-again : goal.invariant-again
invariant-again l = record {
  limit : l.inquiry.steps.limit ≡ l.initial.inquiry.steps.limit;
  within : l.inquiry.steps.taken ≤ l.inquiry.steps.limit;
  more : l.initial.inquiry.steps.taken ≤ l.inquiry.steps.taken;
  closed : Settles (closed_part l.initial.inquiry.core.store) (closed_part l.inquiry.core.store);
  far : Onward (λ s. all_points s) l.initial.inquiry l.inquiry;
}

abbrev pub decreases-again : goal.decreases-again
decreases-again l = l.inquiry.steps.limit - l.inquiry.steps.taken
