-- What a run of PostScript leaves of the memory of its target, and what it is by the bytes that are told.
use Rattle.std.specs.Prelude.{◌≡◌, ℕ, List, [], ◌∷◌, Option, Some, None, Result, Ok, Err}
use Rattle.ldb_edge.specs.Count.{Rose}
use Rattle.machine_state.specs.Regions.{Regions}
use Rattle.ps_store.specs.declared.object.DictId.{DictId}
use Rattle.ps_store.specs.declared.object.PsObj.{PsObj}
use Rattle.ps_store.specs.declared.fault.StoreFault.{StoreFault}
use Rattle.ps_store.specs.Store.{making_dict}
use Rattle.ps_step.specs.declared.fault.PsError.TheVariants.{LimitCheck}
use Rattle.ps_step.specs.declared.fault.PsFault.TheVariants.{Error, Spent as OutOfSteps}
use Rattle.ps_step.specs.declared.item.Item.{Item}
use Rattle.ps_step.specs.declared.item.Item.TheVariants.{Object}
use Rattle.ps_step.specs.State.{with_execution}
use Rattle.ps_run.specs.Runs.{Answer}
use Rattle.dialect_model.specs.Running.{core_in}
use Rattle.abs_mem.specs.Meaning.{Seen}
use Rattle.abs_mem.specs.declared.memory.MemFault.TheVariants.{Outside, LinkFault, BadReply}
use Rattle.ps_ops.specs.declared.dialect.Operators.{Operators}
use Rattle.told_runs.specs.Told.{Tells, IsTold, ReachesTold}
use Rattle.table_asks.specs.declared.fault.AskFault.{AskFault}
use Rattle.table_asks.specs.declared.fault.AskFault.TheVariants.{Refused, Raised, Spent, NoMemory, Broken}
use Rattle.table_asks.specs.declared.inquiry.Inquiry.{Inquiry}
use Rattle.table_asks.specs.Asking.{left_of}

module _ {W R : Type 0} (seen : W → Seen R) (leads : W → Option (List ℕ) → W → Type 0) where
  -- no fault came, and its calls led from one memory to another; the last may have brought a bad reply
  abbrev pub IsLed : W → Option (List ℕ) → W → Type 0
  IsLed a o b = ((seen b).faults ≡ (seen a).faults) × leads a o b

  -- Where its link failed this is counted. A bad reply was brought by the last of its calls.
  abbrev pub RanOver : {A : Type 0} → W → Result A AskFault → W → Type 0
  RanOver a (Ok x) b = IsLed a None b
  RanOver a (Err (Refused cause)) b = IsLed a None b
  RanOver a (Err (Raised e)) b = IsLed a None b
  RanOver a (Err Spent) b = IsLed a None b
  RanOver a (Err NoMemory) b = IsLed a None b
  RanOver a (Err (Broken LinkFault)) b = Rose (seen a).faults (seen b).faults
  RanOver a (Err (Broken (BadReply frame))) b = IsLed a (Some frame.items) b
  RanOver a (Err (Broken (Outside p))) b = ⊥

-- A command's own dictionary was made, and stands on the base ones. Where memory ran out nothing is said of the interpreter.
abbrev pub Begins : Inquiry → Result (Unit {0}) AskFault → Inquiry → Type 0
Begins i (Ok x) i' = (own : DictId) × (making_dict i.core.store ≡ Ok (own, i'.core.store)) × (i'.core ≡ core_in i'.core.store own)
Begins i (Err (Raised e)) i' = (e ≡ LimitCheck) × (i'.core.store ≡ i.core.store) × (fault : StoreFault) × (making_dict i.core.store ≡ Err fault)
Begins i (Err NoMemory) i' = Unit {0}
Begins i (Err Spent) i' = ⊥
Begins i (Err (Refused cause)) i' = ⊥
Begins i (Err (Broken f)) i' = ⊥

module _ {W R : Type 0} (seen : W → Seen R) where
  -- Over the bytes that are told it is a run of the dialect, and the memory tells the bytes that this one leaves.
  abbrev RunsAs : PsObj → Inquiry → Operators W → Answer → Inquiry → Operators W → Type 0
  RunsAs what i o answer i' o' =
      (regions : Regions) (rest : R) → Tells seen o regions rest
      → (execution : List Item) × IsTold seen rest regions (left_of i) o (with_execution i.core (Object what ∷ [])) answer (left_of i') o' (with_execution i'.core execution)

  -- Over the bytes that are told a run of the dialect goes so far, and the memory tells the bytes that it has there.
  abbrev pub RunsSoFar : PsObj → Inquiry → Operators W → Operators W → Type 0
  RunsSoFar what i o o' = (regions : Regions) (rest : R) → Tells seen o regions rest → ReachesTold seen rest regions (left_of i) o (with_execution i.core (Object what ∷ [])) o'

  -- An object was run. Where memory ran out the run went so far. Where the memory of the target gave no answer nothing is said of the run; a bad reply came only where no bytes were told.
  abbrev pub RunsOver : PsObj → Inquiry → Operators W → Result (Unit {0}) AskFault → Inquiry → Operators W → Type 0
  RunsOver what i o (Ok x) i' o' = RunsAs what i o (Ok tt) i' o'
  RunsOver what i o (Err (Raised e)) i' o' = RunsAs what i o (Err (Error e)) i' o'
  RunsOver what i o (Err Spent) i' o' = RunsAs what i o (Err OutOfSteps) i' o'
  RunsOver what i o (Err NoMemory) i' o' = RunsSoFar what i o o'
  RunsOver what i o (Err (Broken (BadReply frame))) i' o' = (regions : Regions) (rest : R) → Tells seen o regions rest → ⊥
  RunsOver what i o (Err (Broken f)) i' o' = Unit {0}
  RunsOver what i o (Err (Refused cause)) i' o' = ⊥
