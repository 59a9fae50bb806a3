use Rattle.std.proofs.Common.{◌≡◌, ◌≤◌, ◌-◌, None}
use Rattle.ps_store.specs.Store.{closed_part}
use Rattle.table_read.specs.Reads.{in_ok}
use Rattle.table_model.specs.Frames.{told_frames}
use Rattle.table_asks.specs.Closing.{Settles}
use Rattle.table_asks.proofs.Looking.{Far}
use Rattle.asking.specs.Frames.{listed}
use Rattle.asking.proofs.frames.listing.Given as goal

-- units were run so far
abbrev pub invariant-again : goal.invariant-again
invariant-again g l = record {
  limit : l.inquiry.steps.limit ≡ l.initial.inquiry.steps.limit;
  within : l.inquiry.steps.taken ≤ l.inquiry.steps.limit;
  more : l.initial.inquiry.steps.taken ≤ l.inquiry.steps.taken;
  closed : Settles (closed_part l.initial.inquiry.core.store) (closed_part l.inquiry.core.store);
  far : Far (λ b s. in_ok listed (told_frames l.row s b l.context)) (g.W.AbsMem.seen l.initial.m) (g.W.AbsMem.seen l.m) l.initial.inquiry l.inquiry;
  led : g.W.AbsMem.leads l.initial.m None l.m;
}

abbrev pub decreases-again : goal.decreases-again
decreases-again g l = l.inquiry.steps.limit - l.inquiry.steps.taken
