use Rattle.std.proofs.Common.{◌≡◌, ◌≤◌, ◌-◌, ℕ}
use Rattle.ps_store.specs.Store.{closed_part}
use Rattle.ps_step.specs.declared.machine.PsCore.{PsCore}
use Rattle.ps_run.specs.Runs.{Answer, Runs}
use Rattle.ps_run.specs.Reaching.{Reaches}
use Rattle.ps_run.proofs.running.go.Given as goal

-- it came from the beginning to here, and what is left of the run is the end of the whole
abbrev pub invariant-loop-steps : goal.invariant-loop-steps
invariant-loop-steps g l = record {
  limit : l.steps.limit ≡ l.fn.steps.limit;
  closed : g.D.Dialect.remains (closed_part l.fn.core.store) (closed_part l.core.store);
  within : l.steps.taken ≤ l.steps.limit;
  more : l.fn.steps.taken ≤ l.steps.taken;
  reached : Reaches g.D.Dialect.operates (l.fn.steps.limit - l.fn.steps.taken) l.fn.dialect l.fn.core (l.steps.limit - l.steps.taken) l.dialect l.core;
  rest : (r : Answer) (m : ℕ) (d : g.row.D.Denot) (c : PsCore) →
      Runs g.D.Dialect.operates (l.steps.limit - l.steps.taken) l.dialect l.core r m d c →
      Runs g.D.Dialect.operates (l.fn.steps.limit - l.fn.steps.taken) l.fn.dialect l.fn.core r m d c;
}

abbrev pub decreases-loop-steps : goal.decreases-loop-steps
decreases-loop-steps g l = l.steps.limit - l.steps.taken
