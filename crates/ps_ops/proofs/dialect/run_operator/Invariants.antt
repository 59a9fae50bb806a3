use Rattle.std.proofs.Common.{◌≡◌, ◌≤◌, ◌-◌, None}
use Rattle.ps_store.specs.Store.{closed_part}
use Rattle.ps_store.specs.Settled.{Settled}
use Rattle.ps_ops.specs.Desk.{desk_of}
use Rattle.ps_ops.proofs.Retries.{SoFar}
use Rattle.ps_ops.proofs.dialect.run_operator.Given as goal

abbrev pub invariant-again : goal.invariant-again
invariant-again g l = record {
  far : SoFar l.op (desk_of l.view l.initial.memory.below.below.order l.initial.memory.below.cell l.initial.out) (g.W.AbsMem.seen l.initial.memory.below.below.below) l.initial.core
      (l.initial.steps.limit - l.initial.steps.taken)
      (desk_of l.view l.memory.below.below.order l.memory.below.cell l.out) (g.W.AbsMem.seen l.memory.below.below.below) l.core (l.steps.limit - l.steps.taken);
  led : g.W.AbsMem.leads l.initial.memory.below.below.below None l.memory.below.below.below;
  limit : l.steps.limit ≡ l.initial.steps.limit;
  within : l.steps.taken ≤ l.steps.limit;
  more : l.initial.steps.taken ≤ l.steps.taken;
  closed : Settled (closed_part l.initial.core.store) (closed_part l.core.store);
}

abbrev pub decreases-again : goal.decreases-again
decreases-again g l = l.steps.limit - l.steps.taken
