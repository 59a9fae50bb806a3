-- What a run of PostScript leaves of the memory of its target.
use Rattle.std.specs.Prelude.{◌≡◌, ℕ, Option, Some, None, Ok}
use Rattle.ldb_words.specs.declared.kinds.Order.{Order}
use Rattle.machine_state.specs.Regions.{Regions, write_of}
use Rattle.machine_state.specs.Sound.{IsWidth}
use Rattle.machine_state.specs.State.{MachineState, Behaviour, order_of}
use Rattle.nub_wire.specs.Fits.{Reached}
use Rattle.ps_step.specs.declared.machine.PsCore.{PsCore}
use Rattle.ps_run.specs.Runs.{Answer, Runs}
use Rattle.ps_run.specs.Reaching.{Reaches}
use Rattle.dialect_model.specs.Dial.{Dial, Target}
use Rattle.dialect_model.specs.Operating.{Operates}

-- numbers were stored, one after another
pub data StoresNumbers (o : Order) : Regions → Regions → Type 0 where
  none_stored : {r : Regions} → StoresNumbers o r r
  stores : {r s t : Regions} (at width value : ℕ) → IsWidth width → StoresNumbers o r s → write_of o s at width value ≡ Ok t → StoresNumbers o r t

-- the same target, but for numbers that were stored
pub record SameTarget (t t' : Target) : Type 0 where
  pub row : t'.row ≡ t.row
  pub context : t'.context ≡ t.context
  pub order : t'.order ≡ t.order
  pub stores : StoresNumbers t.order t.regions t'.regions

abbrev pub KeepsTarget : (old new : Option Target) → Type 0
KeepsTarget None None = Unit {0}
KeepsTarget (Some t) (Some t') = SameTarget t t'
KeepsTarget None (Some t) = ⊥
KeepsTarget (Some t) None = ⊥

-- Whatever is run, it stores numbers to its target, and changes nothing else of that.
abbrev pub RunsStoreNumbers : Type 0
RunsStoreNumbers = (left left' : ℕ) (d d' : Dial) (c c' : PsCore) (answer : Answer) → Runs Operates left d c answer left' d' c' → KeepsTarget d.target d'.target

-- So does what was run of one by a time.
abbrev pub ReachesStoreNumbers : Type 0
ReachesStoreNumbers = (left left' : ℕ) (d d' : Dial) (c c' : PsCore) → Reaches Operates left d c left' d' c' → KeepsTarget d.target d'.target

-- So a machine with what it leaves is one that can be reached.
abbrev pub NumbersAreReached : Type 0
NumbersAreReached = (b : Behaviour) (m : MachineState) (r : Regions) → StoresNumbers (order_of m) m.memory r → Reached b m (record m { memory = r })
