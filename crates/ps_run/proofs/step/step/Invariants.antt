use Rattle.std.proofs.Common.{◌≡◌, length}
use Rattle.ps_store.specs.Store.{closed_part}
use Rattle.ps_run.specs.Step.{step}
use Rattle.ps_run.proofs.step.step.Given as goal

-- what is left decides
abbrev pub invariant-loop-item : goal.invariant-loop-item
invariant-loop-item l = record {
  closed : closed_part l.core.store ≡ closed_part l.fn.core.store;
  rest : step l.core ≡ step l.fn.core;
}

abbrev pub decreases-loop-item : goal.decreases-loop-item
decreases-loop-item l = length l.core.execution
