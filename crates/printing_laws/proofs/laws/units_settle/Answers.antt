use Rattle.printing_laws.proofs.Printed.{settles, looked, closed_remains, own_remains}
use Rattle.printing_laws.proofs.laws.units_settle.Goals as goal

pub returns-clause-settles : goal.returns-clause-settles
returns-clause-settles c = settles

pub returns-clause-looked : goal.returns-clause-looked
returns-clause-looked c = looked

pub returns-clause-closed : goal.returns-clause-closed
returns-clause-closed c = closed_remains

pub returns-clause-own : goal.returns-clause-own
returns-clause-own c = own_remains
