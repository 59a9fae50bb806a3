use Rattle.unit_tables.proofs.Bounded.{all_steps, all_made}
use Rattle.unit_tables.proofs.laws.units_are_bounded.Goals as goal

pub returns : goal.returns
returns c = record { steps = all_steps; made = all_made }
