use Rattle.ps_store.specs.Store.{closed_part}
use Rattle.ps_store.proofs.Settling.{settled_same}
use Rattle.ps_force.proofs.entry.force.Goals as goal

pub returns-in-None-clause-closed : goal.returns-in-None-clause-closed
returns-in-None-clause-closed g c = settled_same (closed_part c.args.core.now.store)

pub returns-in-Some-clause-closed : goal.returns-in-Some-clause-closed
returns-in-Some-clause-closed g c = settled_same (closed_part c.args.core.now.store)
