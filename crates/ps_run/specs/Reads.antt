-- What a call did that reads from a text.
use Rattle.std.specs.Prelude.{◌≡◌, ℕ, List, [], ◌∷◌, Option, Some, None, Result, Ok, Err}
use Rattle.ps_store.specs.declared.object.PsObj.{PsObj}
use Rattle.ps_store.specs.StoreState.{StoreState}
use Rattle.ps_step.specs.declared.fault.PsError.{PsError}
use Rattle.ps_step.specs.declared.fault.PsFault.{PsFault}
use Rattle.ps_step.specs.declared.fault.PsFault.TheVariants.{Error, Spent, Link, NoMemory}
use Rattle.ps_run.specs.declared.scan.Progress.{Progress}
use Rattle.ps_run.specs.declared.scan.Progress.TheVariants.{More as OneMore, Whole as AllOf, Nothing as AtEnd}
use Rattle.ps_run.specs.Scan.{Read, More, Whole, Nothing, Bad}

-- The call made the object that the definition makes, unless memory ran out. An error leaves the store as it was.
abbrev pub Makes : Result PsObj PsFault → StoreState → StoreState → Result (PsObj × StoreState) PsError → Type 0
Makes (Ok x) old new made = made ≡ Ok (x, new)
Makes (Err (Error e)) old new made = (made ≡ Err e) × (new ≡ old)
Makes (Err NoMemory) old new made = Unit {0}
Makes (Err Spent) old new made = ⊥
Makes (Err Link) old new made = ⊥

-- One token was read as the definition says.
abbrev pub ReadsToken : Result Progress PsFault → StoreState → List PsObj → ℕ → Read → Type 0
ReadsToken (Ok OneMore) s xs at read = read ≡ More s xs at
ReadsToken (Ok (AllOf x)) s xs at read = read ≡ Whole x s at
ReadsToken (Ok AtEnd) s xs at read = read ≡ Nothing s
ReadsToken (Err (Error e)) s xs at read = read ≡ Bad e s
ReadsToken (Err NoMemory) s xs at read = Unit {0}
ReadsToken (Err Spent) s xs at read = ⊥
ReadsToken (Err Link) s xs at read = ⊥

-- An object was read as the definition says.
abbrev pub Reads : Result (Option (PsObj × ℕ)) PsFault → StoreState → Read → Type 0
Reads (Ok (Some p)) s read = read ≡ Whole p.0 s p.1
Reads (Ok None) s read = read ≡ Nothing s
Reads (Err (Error e)) s read = read ≡ Bad e s
Reads (Err NoMemory) s read = Unit {0}
Reads (Err Spent) s read = ⊥
Reads (Err Link) s read = ⊥

-- An object was put among those of the innermost open procedure, or is whole outside of procedures.
abbrev pub Places : Progress → PsObj → List PsObj → List PsObj → Type 0
Places (AllOf y) x old new = (y ≡ x) × (old ≡ []) × (new ≡ [])
Places OneMore x [] new = ⊥
Places OneMore x (y ∷ ys) new = new ≡ x ∷ y ∷ ys
Places AtEnd x old new = ⊥
