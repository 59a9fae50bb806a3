use Rattle.c_session.proofs.Refusals.{refused_next}
use Rattle.c_session.proofs.laws.refused_commands_change_nothing.Goals as goal

pub returns : goal.returns
returns c = record {
  refused = λ p sides st next x c u h. refused_next p sides st next x c u h;
  no_memory = λ st next c reply h. h.2;
}
