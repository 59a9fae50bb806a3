use Rattle.std.proofs.Common.{sym, subst}
use Rattle.ps_store.specs.Store.{closed_part}
use Rattle.ps_store.specs.Settled.{Settled}
use Rattle.ps_store.proofs.Settling.{settled_same, settled_on}
use Rattle.ps_force.proofs.entry.place.Goals as goal

pub returns-in-Some-Str-default-true-clause-closed : goal.returns-in-Some-Str-default-true-clause-closed
returns-in-Some-Str-default-true-clause-closed c = settled_on _ _ _ c.settle.ensures.settled c.close_all.ensures.settled

pub returns-in-None-clause-closed : goal.returns-in-None-clause-closed
returns-in-None-clause-closed c =
    subst (λ p. Settled (closed_part c.args.core.now.store) p) (sym c.cut_back.ensures.closed) (settled_same (closed_part c.args.core.now.store))
