use Rattle.told_runs.proofs.Short.{short_told, short_quiet}
use Rattle.told_runs.proofs.laws.short_runs_are_told.Goals as goal

pub returns : goal.returns
returns g c = record {
  told = λ left o o' core regions rest h t. short_told g.W.AbsMem.seen g.W.AbsMem.leads rest regions left o core t o' h;
  faults = λ left o o' core h. (let quiet = short_quiet g.W.AbsMem.seen g.W.AbsMem.leads g.met.W.AbsMem.stays g.met.W.AbsMem.goes_on left o core o' h in quiet.0);
  calls = λ left o o' core h. (let quiet = short_quiet g.W.AbsMem.seen g.W.AbsMem.leads g.met.W.AbsMem.stays g.met.W.AbsMem.goes_on left o core o' h in quiet.1);
}
