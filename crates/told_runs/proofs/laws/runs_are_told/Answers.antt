use Rattle.std.proofs.Common.{refl, Err}
use Rattle.ps_step.specs.declared.fault.PsFault.TheVariants.{Link}
use Rattle.told_runs.proofs.Told.{told, never}
use Rattle.told_runs.proofs.laws.runs_are_told.Goals as goal

pub returns : goal.returns
returns g c = record {
  told = λ left left' o o' core core' answer regions rest l w run t. told g.W.AbsMem.seen g.W.AbsMem.leads rest regions left o core answer left' o' core' l w run t;
  never = λ left left' o o' core core' regions rest run t. never g.W.AbsMem.seen g.W.AbsMem.leads rest regions left o core (Err Link) left' o' core' refl run t;
}
