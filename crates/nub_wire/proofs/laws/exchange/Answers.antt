use Rattle.nub_wire.proofs.Worlds.{exchange_law}
use Rattle.nub_wire.proofs.laws.exchange.Goals as goal

pub returns : goal.returns
returns c = exchange_law
