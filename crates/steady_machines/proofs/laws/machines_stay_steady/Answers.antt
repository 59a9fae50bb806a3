use Rattle.steady_machines.proofs.Runs.{order_kept, runs_steady}
use Rattle.steady_machines.proofs.laws.machines_stay_steady.Goals as goal

pub returns-clause-order : goal.returns-clause-order
returns-clause-order c = order_kept

pub returns-clause-runs : goal.returns-clause-runs
returns-clause-runs c = runs_steady
