-- What may become of what is closed while a command asks a table.
use Rattle.ps_store.specs.StoreState.{Closed}
use Rattle.ps_store.specs.Settled.{Settled}

-- It is settled at most, also since any time before: deferred entries are settled, and more is closed.
abbrev pub Settles : (old new : Closed) → Type 0
Settles old new = (p : Closed) → Settled p old → Settled p new
