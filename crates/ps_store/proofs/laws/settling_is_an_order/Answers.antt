use Rattle.ps_store.proofs.Settling.{settled_same, settled_on}
use Rattle.ps_store.proofs.laws.settling_is_an_order.Goals as goal

pub returns : goal.returns
returns c = record { same = settled_same; on = settled_on }
