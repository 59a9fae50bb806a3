-- What is known of a store and stays so, whichever functions of units are run.
use Rattle.std.specs.Prelude.{◌≡◌, List, []}
use Rattle.ps_store.specs.declared.object.DictId.{DictId}
use Rattle.ps_store.specs.StoreState.{StoreState}
use Rattle.ps_store.specs.Cut.{mark_of}
use Rattle.ps_store.specs.Store.{IsAbove, entries_of}
use Rattle.ps_terms.specs.Stands.{Keeps}
use Rattle.printing_laws.specs.Lookups.{Reached}

-- no less is there than is closed, as in each store
abbrev pub Above : StoreState → Type 0
Above s = IsAbove s.closed (mark_of s.table)

-- each store that is reached from the one holds what is known of the other
abbrev pub Remains : StoreState → List DictId → StoreState → Type 0
Remains s ds first = (now : StoreState) → Reached first now → Keeps s ds now

-- a dictionary has no entries in each store that is reached
abbrev pub StaysEmpty : StoreState → DictId → Type 0
StaysEmpty first d = (now : StoreState) → Reached first now → entries_of now d ≡ []
