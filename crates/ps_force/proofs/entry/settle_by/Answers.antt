use Rattle.std.proofs.Common.{sym, subst}
use Rattle.ps_store.specs.Store.{closed_part}
use Rattle.ps_store.specs.Settled.{Settled}
use Rattle.ps_store.proofs.Settling.{settled_same}
use Rattle.ps_force.proofs.entry.settle_by.Goals as goal

pub returns-in-Err-clause-closed : goal.returns-in-Err-clause-closed
returns-in-Err-clause-closed c =
    subst (λ p. Settled (closed_part c.args.core.now.store) p) (sym c.cut_back.ensures.closed) (settled_same (closed_part c.args.core.now.store))

pub returns-in-Err-left_on-clause-closed : goal.returns-in-Err-left_on-clause-closed
returns-in-Err-left_on-clause-closed c =
    subst (λ p. Settled (closed_part c.args.core.now.store) p) (sym c.cut_back-in-Err-left_on.ensures.closed) (settled_same (closed_part c.args.core.now.store))
