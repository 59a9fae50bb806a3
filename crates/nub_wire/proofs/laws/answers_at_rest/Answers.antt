use Rattle.nub_wire.proofs.AtOnce.{fetch_law, store_law, short_laws}
use Rattle.nub_wire.proofs.laws.answers_at_rest.Goals as goal

pub returns-clause-fetch : goal.returns-clause-fetch
returns-clause-fetch c = fetch_law

pub returns-clause-store : goal.returns-clause-store
returns-clause-store c = store_law

pub returns-clause-short : goal.returns-clause-short
returns-clause-short c = short_laws
