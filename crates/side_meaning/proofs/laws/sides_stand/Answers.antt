use Rattle.side_meaning.proofs.Starting.{begin, settle, asks_stand, limit}
use Rattle.side_meaning.proofs.laws.sides_stand.Goals as goal

pub returns-clause-begin : goal.returns-clause-begin
returns-clause-begin c = begin

pub returns-clause-settle : goal.returns-clause-settle
returns-clause-settle c = settle

pub returns-clause-asks : goal.returns-clause-asks
returns-clause-asks c = asks_stand

pub returns-clause-limit : goal.returns-clause-limit
returns-clause-limit c = limit
