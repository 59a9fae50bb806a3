-- How a run fares whose operators may run functions of units.
use Rattle.std.specs.Prelude.{◌≡◌, ◌≢◌, ℕ, ◌+◌, ◌<◌, ◌≤◌, true, Bool, Err, List, [], ◌∷◌}
use Rattle.ps_store.specs.declared.object.PsObj.{PsObj}
use Rattle.ps_store.specs.declared.object.DictId.{DictId}
use Rattle.ps_store.specs.StoreState.{StoreState}
use Rattle.ps_store.specs.Cut.{cut}
use Rattle.ps_store.specs.Extends.{HoldsDict}
use Rattle.ps_step.specs.declared.fault.PsFault.{PsFault}
use Rattle.ps_step.specs.declared.fault.PsFault.TheVariants.{NoMemory, Spent}
use Rattle.ps_step.specs.declared.item.Item.{Item}
use Rattle.ps_step.specs.declared.machine.PsCore.{PsCore}
use Rattle.ps_run.specs.Runs.{Answer, Operates, Runs}
use Rattle.ps_run.specs.Passes.{Met}
use Rattle.ps_terms.specs.Stands.{Keeps, core}
use Rattle.ps_terms.specs.Printing.{Printing, Looked}

-- what is closed of a store, as a store
abbrev pub shut : StoreState → StoreState
shut s = record s { table = cut s.table s.closed; command = record { arrays = []; dicts = []; strings = []; units = 0 } }

-- a store holds these dictionaries
abbrev pub HoldsDicts : StoreState → List DictId → Type 0
HoldsDicts s [] = Unit {0}
HoldsDicts s (d ∷ ds) = HoldsDict s d × HoldsDicts s ds

-- whatever look-ups make of a store, it holds what is known
abbrev pub Stays : {D : Type 0} (Op : Operates D) → Printing Op → StoreState → List DictId → StoreState → Type 0
Stays Op prints s ds first = (now : StoreState) (j : ℕ) → Looked Op prints.needs first now j → Keeps s ds now

-- where a run is followed to: the steps that are left there, the dialect, the operands and the execution stack
pub record Aim {D : Type 0} (Op : Operates D) (prints : Printing Op) (s : StoreState) (ds : List DictId) : Type 0 where
  pub first : StoreState
  pub stays : Stays Op prints s ds first
  pub left : ℕ
  pub dialect : D
  pub operands : List PsObj
  pub items : List Item

module _ {D : Type 0} (Op : Operates D) (needs : D → PsCore → ℕ → Bool) (first : StoreState) where
  -- A run goes on as one from there, where look-ups made something of the store and took steps; or a look-up failed that needed functions of units, with
  -- as many steps as were to be left but for those that look-ups took, and the rest of the run followed; or the steps were spent, where look-ups took more
  -- than were to be left.
  pub data Fares (ds : List DictId) (left : ℕ) (dialect : D) (operands : List PsObj) (items : List Item) : Answer → ℕ → D → PsCore → Type 0 where
    arrives : (r : Answer) (m : ℕ) (d : D) (c : PsCore) (now : StoreState) (n j : ℕ) → Looked Op needs first now j → n + j ≡ left
        → Runs Op n dialect (core now ds operands items) r m d c → Fares ds left dialect operands items r m d c
    fails : (r : Answer) (m : ℕ) (d : D) (c : PsCore) (d₁ : D) (c₁ : PsCore) (op n j : ℕ) (f : PsFault) → Looked Op needs first c₁.store j → left ≤ n + j → needs d₁ c₁ op ≡ true
        → (met : Met Op d₁ c₁ op n r m d c) → met.asked.given ≡ Err f → Fares ds left dialect operands items r m d c
    starves : (m : ℕ) (d : D) (c : PsCore) (now : StoreState) (j : ℕ) → Looked Op needs first now j → left < j → Fares ds left dialect operands items (Err Spent) m d c

  -- each run from here, of which memory does not run out, fares so
  abbrev pub Comes : ℕ → D → PsCore → List DictId → ℕ → D → List PsObj → List Item → Type 0
  Comes n d c ds left dialect operands items =
      (r : Answer) (m : ℕ) (d₁ : D) (c₁ : PsCore) → r ≢ Err NoMemory → Runs Op n d c r m d₁ c₁ → Fares ds left dialect operands items r m d₁ c₁
