-- Locals on a chain, one after another. No public contract cites it.
use Rattle.std.specs.Prelude.{ℕ, true, false, codes, Option, Some, None, Ok}
use Rattle.ps_store.specs.declared.object.DictId.{DictId}
use Rattle.ps_store.specs.StoreState.{StoreState}
use Rattle.ps_step.specs.Results.{◌>>=◌}
use Rattle.table_model.specs.declared.found.Found.{Found}
use Rattle.table_model.specs.Reading.{Walked, procedure_at}
use Rattle.table_model.specs.Symbols.{is_local}
use Rattle.table_model.specs.Objects.{found_symbol}

-- what a symbol of a chain says: nothing where it is no local, with which the chain's locals end; else its object, if it
-- has the address
abbrev pub local_one : StoreState → (base address : ℕ) → DictId → Walked (Option (Option Found))
local_one s base address x =
    procedure_at s x (codes "where") >>= λ where_is.
    elim (is_local s where_is) [ false ↦ Ok None | true ↦ found_symbol s (Some base) address x where_is >>= λ found. Ok (Some found) ]
