use Rattle.ps_print.proofs.Printed.{printed, printed_by, printed_at_once}
use Rattle.ps_print.proofs.Steps.{print_at_most, print_within}
use Rattle.ps_terms.proofs.Kept.{looked_settled, closed_stays}
use Rattle.ps_print.proofs.laws.values_are_printed.Goals as goal

pub returns : goal.returns
returns g c = record {
  run = printed g.D.Dialect.operates;
  printer = printed_by g.D.Dialect.operates;
  at_once = printed_at_once g.D.Dialect.operates;
  steps = print_at_most g.D.Dialect.operates;
  deep = print_within g.D.Dialect.operates;
  settles = λ prints first now j looked. looked_settled g.D.Dialect.operates prints.needs first now j looked;
  stays = closed_stays g.D.Dialect.operates;
}
