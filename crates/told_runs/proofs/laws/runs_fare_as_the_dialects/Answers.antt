use Rattle.ps_ops.specs.Desk.{dial_of}
use Rattle.told_runs.specs.Told.{desk}
use Rattle.told_runs.proofs.Told.{told}
use Rattle.told_runs.proofs.laws.runs_fare_as_the_dialects.Goals as goal

pub returns : goal.returns
returns g c = λ needs first steps left left' o o' core core' ds dial operands items answer regions rest l w run t comes.
    (let is = told g.W.AbsMem.seen g.W.AbsMem.leads rest regions steps o core answer left' o' core' l w run t in
    record { regions' = is.regions'; tells = is.tells; fares = comes answer left' (dial_of (desk o') is.regions') core' w is.runs })
