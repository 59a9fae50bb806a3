use Rattle.ps_force.proofs.Forcing.{forced_value, forced_plain}
use Rattle.ps_force.proofs.laws.forced_entries_stay.Goals as goal

pub returns : goal.returns
returns g c = record {
  value = forced_value g.D.Dialect.operates;
  plain = forced_plain g.D.Dialect.operates;
}
