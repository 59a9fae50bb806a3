use Rattle.std.proofs.Common.{◌≡◌}
use Rattle.ps_store.specs.Store.{closed_part}
use Rattle.evaluating.proofs.reading.serve.Given as goal

abbrev pub invariant-loop : goal.invariant-loop
invariant-loop l = record {
  steps : l.inquiry.steps ≡ l.initial.inquiry.steps;
  closed : closed_part l.inquiry.core.store ≡ closed_part l.initial.inquiry.core.store;
}
