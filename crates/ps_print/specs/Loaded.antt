-- The state behind the prelude, by computing.
use Rattle.std.specs.Prelude.{◌≡◌, ℕ, zero, suc, true, Option, Some, None, Result, Ok, Err, [], ◌∷◌, ◌++◌, codes}
use Rattle.ps_store.specs.declared.object.ArrayId.{ArrayId}
use Rattle.ps_store.specs.declared.object.DictId.{DictId}
use Rattle.ps_store.specs.declared.object.PsObj.TheVariants.{Str}
use Rattle.ps_store.specs.declared.object.Part.TheVariants.{Table}
use Rattle.ps_store.specs.declared.object.StringId.{StringId}
use Rattle.ps_store.specs.declared.fault.StoreFault.{StoreFault}
use Rattle.ps_store.specs.declared.fault.StoreFault.TheVariants.{NoMemory as OutOfMemory}
use Rattle.ps_store.specs.Cut.{mark_of}
use Rattle.ps_store.specs.StoreState.{StoreState}
use Rattle.ps_store.specs.Store.{Given, new_store, making_name, making_string, making_dict}
use Rattle.ps_step.specs.declared.fault.PsFault.{PsFault}
use Rattle.ps_step.specs.declared.fault.PsFault.TheVariants.{NoMemory}
use Rattle.ps_step.specs.declared.item.Item.TheVariants.{Object}
use Rattle.ps_step.specs.declared.machine.PsCore.{PsCore}
use Rattle.ps_run.specs.Step.{Outcome, Ended, Next, Asks, Failed, step}
use Rattle.ps_text.specs.Code.{render}
use Rattle.ps_print.specs.Prelude.{prelude}

-- a new state: a new store, whose base dictionaries are the ones in which names are looked up
abbrev pub new_core : PsCore
new_core = record { store = new_store; operands = []; dictionaries = new_store.base; execution = [] }

-- The names of the spaces are made first, so that each has a known id, and then the prelude's text.
abbrev pub behind : Given StringId → (StoreState → Given StringId) → Given StringId
behind (Ok given) f = f given.1
behind (Err e) f = Err e

abbrev pub prepared : StoreState → Given StringId
prepared s =
    behind (making_name s (codes "d")) (λ s₁. behind (making_name s₁ (codes "r")) (λ s₂. behind (making_name s₂ (codes "i")) (λ s₃.
    making_string s₃ (render prelude))))

abbrev pub Prepares : Result StringId StoreFault → StoreState → StoreState → Type 0
Prepares (Ok t) old new = prepared old ≡ Ok (t, new)
Prepares (Err OutOfMemory) old new = Unit {0}
Prepares (Err f) old new = prepared old ≡ Err f

-- the state in which the text is executed
abbrev pub executing : StringId → StoreState → PsCore
executing t s = record { store = s; operands = []; dictionaries = new_store.base; execution = Object (Str t true) ∷ [] }

abbrev pub started_with : Given StringId → Option PsCore
started_with (Ok given) = Some (executing given.0 given.1)
started_with (Err e) = None

abbrev pub started : Option PsCore
started = started_with (prepared new_store)

-- so many steps that ask nothing of a dialect
abbrev pub after : ℕ → PsCore → Option PsCore
after zero c = Some c
after (suc n) c = elim (step c) [ Next c' ↦ after n c' | Ended c' ↦ None | Asks op c' ↦ None | Failed e c' ↦ None ]

-- the end that comes next
abbrev pub end_in : Outcome → Option PsCore
end_in (Ended c) = Some c
end_in other = None

abbrev pub or_new : Option PsCore → PsCore
or_new (Some c) = c
or_new None = record { store = new_store; operands = []; dictionaries = []; execution = [] }

-- the state before the prelude's text is executed, and behind it
abbrev pub start : PsCore
start = or_new started

abbrev pub executed : PsCore
executed = or_new (after 75 start)

abbrev pub ended : PsCore
ended = or_new (end_in (step executed))

-- what was made is closed, and an empty base dictionary comes on top
abbrev pub topped : PsCore → Given DictId → Option PsCore
topped c (Ok given) = Some (record c { store = record given.1 { base = given.1.base ++ given.0 ∷ [] }; dictionaries = given.0 ∷ c.dictionaries })
topped c (Err e) = None

abbrev pub finished : PsCore → Option PsCore
finished c = topped c (making_dict (record c.store { closed = mark_of c.store.table }))

abbrev pub loaded : PsCore
loaded = or_new (finished (record ended { execution = [] }))

abbrev pub digits_id : ArrayId
digits_id = record { part = Table; index = 0 }

-- what loading answers and leaves on a new state: no error, and the steps are not spent
abbrev pub Loads : Result (Unit {0}) PsFault → PsCore → Type 0
Loads (Ok x) c = c ≡ loaded
Loads (Err NoMemory) c = Unit {0}
Loads (Err f) c = ⊥

-- the same of running the prelude's text alone
abbrev pub Ran : Result (Unit {0}) PsFault → PsCore → Type 0
Ran (Ok x) c = c ≡ record ended { execution = [] }
Ran (Err NoMemory) c = Unit {0}
Ran (Err f) c = ⊥
