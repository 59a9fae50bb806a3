use Rattle.printing_laws.proofs.Printed.{printed_so, printed_by_one, steps_so}
use Rattle.printing_laws.proofs.laws.values_are_printed.Goals as goal

pub returns-clause-run : goal.returns-clause-run
returns-clause-run c = printed_so

pub returns-clause-printer : goal.returns-clause-printer
returns-clause-printer c = printed_by_one

pub returns-clause-steps : goal.returns-clause-steps
returns-clause-steps c = steps_so
