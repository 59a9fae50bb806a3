-- What a call did to a store, or to the state of a run.
use Rattle.std.specs.Prelude.{◌≡◌, ℕ, Option, Result, Ok, Err}
use Rattle.ps_store.specs.declared.object.PsObj.{PsObj}
use Rattle.ps_store.specs.StoreState.{StoreState}
use Rattle.ps_step.specs.declared.fault.PsError.{PsError}
use Rattle.ps_step.specs.declared.fault.PsFault.{PsFault}
use Rattle.ps_step.specs.declared.fault.PsFault.TheVariants.{Error, Spent, Link, NoMemory}
use Rattle.ps_step.specs.declared.machine.PsCore.{PsCore}
use Rattle.ps_step.specs.State.{Made}
use Rattle.ps_step.specs.CopyOperators.{MadeOrLeft}
use Rattle.ps_step.specs.Executing.{Turn}

-- The call made the store that the definition makes. An error leaves it as it was. Where memory ran out nothing is said.
abbrev pub Stores : Result (Unit {0}) PsFault → StoreState → StoreState → Result StoreState PsError → Type 0
Stores (Ok x) old new made = made ≡ Ok new
Stores (Err (Error e)) old new made = (made ≡ Err e) × (new ≡ old)
Stores (Err NoMemory) old new made = Unit {0}
Stores (Err Spent) old new made = ⊥
Stores (Err Link) old new made = ⊥

-- The same where an error may come after something was put: then the definition says which store stands there.
abbrev pub StoresPart : Result (Unit {0}) PsFault → StoreState → Result StoreState (PsError × StoreState) → Type 0
StoresPart (Ok x) new made = made ≡ Ok new
StoresPart (Err (Error e)) new made = made ≡ Err (e, new)
StoresPart (Err NoMemory) new made = Unit {0}
StoresPart (Err Spent) new made = ⊥
StoresPart (Err Link) new made = ⊥

-- An error is the one that the definition makes.
abbrev pub StopsAt : Result (Unit {0}) PsFault → StoreState → Result StoreState (PsError × StoreState) → Type 0
StopsAt (Ok x) new made = Unit {0}
StopsAt (Err (Error e)) new made = made ≡ Err (e, new)
StopsAt (Err NoMemory) new made = Unit {0}
StopsAt (Err Spent) new made = ⊥
StopsAt (Err Link) new made = ⊥

abbrev pub MakesPart : Result PsObj PsFault → StoreState → Result (PsObj × StoreState) (PsError × StoreState) → Type 0
MakesPart (Ok x) new made = made ≡ Ok (x, new)
MakesPart (Err (Error e)) new made = made ≡ Err (e, new)
MakesPart (Err NoMemory) new made = Unit {0}
MakesPart (Err Spent) new made = ⊥
MakesPart (Err Link) new made = ⊥

-- The call did what the definition makes. An error leaves the state as it was. Where memory ran out nothing is said.
abbrev pub Does : Result (Unit {0}) PsFault → PsCore → PsCore → Made → Type 0
Does (Ok x) old new made = made ≡ Ok new
Does (Err (Error e)) old new made = (made ≡ Err e) × (new ≡ old)
Does (Err NoMemory) old new made = Unit {0}
Does (Err Spent) old new made = ⊥
Does (Err Link) old new made = ⊥

-- The same where the definition says which state an error leaves.
abbrev pub DoesOrLeaves : Result (Unit {0}) PsFault → PsCore → MadeOrLeft → Type 0
DoesOrLeaves (Ok x) new made = made ≡ Ok new
DoesOrLeaves (Err (Error e)) new made = made ≡ Err (e, new)
DoesOrLeaves (Err NoMemory) new made = Unit {0}
DoesOrLeaves (Err Spent) new made = ⊥
DoesOrLeaves (Err Link) new made = ⊥

-- The call made the turn that the definition makes.
abbrev pub Acts : Result (Option ℕ) PsFault → PsCore → Turn → Type 0
Acts (Ok asked) new turn = turn ≡ Ok (new, asked)
Acts (Err (Error e)) new turn = turn ≡ Err (e, new)
Acts (Err NoMemory) new turn = Unit {0}
Acts (Err Spent) new turn = ⊥
Acts (Err Link) new turn = ⊥
