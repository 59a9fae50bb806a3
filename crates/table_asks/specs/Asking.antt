-- What a command learns of a table: by the model's part of a command, what is answered and how the interpreter, the steps and the memory of the target stand after it.
use Rattle.std.specs.Prelude.{◌≡◌, ℕ, ◌-◌, Bool, true, false, List, Option, Some, None, Result, Ok, Err}
use Rattle.ldb_edge.specs.Count.{Rose}
use Rattle.ps_store.specs.StoreState.{StoreState}
use Rattle.ps_store.specs.Store.{closed_part}
use Rattle.ps_step.specs.declared.fault.PsError.{PsError}
use Rattle.ps_step.specs.declared.fault.PsError.TheVariants.{Undefined, TypeCheck, RangeCheck}
use Rattle.ps_step.specs.declared.fault.PsFault.TheVariants.{Error, Spent as OutOfSteps}
use Rattle.frame_bytes.specs.Bytes.{Bytes}
use Rattle.abs_mem.specs.Meaning.{Seen, Same, OnTold, Untold}
use Rattle.abs_mem.specs.declared.memory.MemFault.TheVariants.{Outside, LinkFault, BadReply}
use Rattle.abs_mem.specs.declared.walk.WalkFault.{WalkFault}
use Rattle.abs_mem.specs.declared.walk.WalkFault.TheVariants as walk
use Rattle.table_model.specs.declared.lack.Lack.{Lack}
use Rattle.table_model.specs.declared.lack.Lack.TheVariants as lack
use Rattle.ps_places.specs.Lacks.{error_of}
use Rattle.ps_bare.specs.Deferred.{IsDeferred}
use Rattle.dialect_model.specs.Forcing.{ForcesUnit, idle}
use Rattle.dialect_model.specs.TableUse.{TableUse, with_store, Trouble, Kind, Wanting, Eval}
use Rattle.dialect_model.specs.TableUse.{Refused as RefusedFor, Spent as StepsSpent}
use Rattle.table_asks.specs.declared.fault.Cause.{Cause}
use Rattle.table_asks.specs.declared.fault.AskFault.{AskFault}
use Rattle.table_asks.specs.declared.fault.AskFault.TheVariants.{Refused, Raised, Spent, NoMemory, Broken}
use Rattle.table_asks.specs.declared.inquiry.Inquiry.{Inquiry}

-- ---- uses of the table

abbrev pub left_of : Inquiry → ℕ
left_of i = i.steps.limit - i.steps.taken

-- a use of the table, where the interpreter and the steps of the command stand so
abbrev pub used_by : Inquiry → TableUse → TableUse
used_by i t = with_store t i.core.store (left_of i)

-- Where memory was wanting, what is closed is that of the use after it.
pub record WantedMemory {A : Type 0} (m : Eval Cause A) (t : TableUse) (new : Inquiry) : Type 0 where
  pub use_after : TableUse
  pub comes : m t (Err Wanting) use_after
  pub closed : closed_part use_after.store ≡ closed_part new.core.store

-- ---- what a part of a command comes to

module _ {A : Type 0} (m : Eval Cause A) (old : Inquiry) where
  -- from this use on
  abbrev pub ComesFrom : Result A AskFault → (new : Inquiry) → TableUse → Type 0
  ComesFrom (Ok x) new t = m (used_by old t) (Ok x) (used_by new t)
  ComesFrom (Err (Refused cause)) new t = m (used_by old t) (Err (RefusedFor cause)) (used_by new t)
  ComesFrom (Err (Raised e)) new t = m (used_by old t) (Err (Kind e)) (used_by new t)
  ComesFrom (Err Spent) new t = m (used_by old t) (Err StepsSpent) (used_by new t)
  ComesFrom (Err NoMemory) new t = WantedMemory m (used_by old t) new
  ComesFrom (Err (Broken f)) new t = ⊥

  -- The part asks the table alone. It asks nothing of the immediate cell and the command's own dictionary.
  abbrev pub Comes : Result A AskFault → (new : Inquiry) → Type 0
  Comes result new = (t : TableUse) → ComesFrom result new t

module _ {R A : Type 0} (m : Bytes → Eval Cause A) (old : Inquiry) (s : Seen R) where
  abbrev ComesOnTold : Result A AskFault → Inquiry → Seen R → Type 0
  ComesOnTold result new s' = Same s s' × OnTold s (λ b. Comes (m b) old result new)

  -- The part asks the memory of the target too, and changes nothing there: it comes to what is said of the bytes that are told. A link that
  -- failed has counted it, and one that brought a bad reply tells no bytes.
  abbrev pub ComesOver : Result A AskFault → Inquiry → Seen R → Type 0
  ComesOver (Err (Broken LinkFault)) new s' = Rose s.faults s'.faults
  ComesOver (Err (Broken (BadReply frame))) new s' = Untold s s'
  ComesOver (Err (Broken (Outside p))) new s' = ⊥
  ComesOver (Ok x) new s' = ComesOnTold (Ok x) new s'
  ComesOver (Err (Refused cause)) new s' = ComesOnTold (Err (Refused cause)) new s'
  ComesOver (Err (Raised e)) new s' = ComesOnTold (Err (Raised e)) new s'
  ComesOver (Err Spent) new s' = ComesOnTold (Err Spent) new s'
  ComesOver (Err NoMemory) new s' = ComesOnTold (Err NoMemory) new s'

-- the part's calls of a memory led from it to another; where a bad reply ended it, the last of them brought that
abbrev pub LedAsk : {M A : Type 0} → (M → Option (List ℕ) → M → Type 0) → M → Result A AskFault → M → Type 0
LedAsk leads a (Err (Broken (BadReply frame))) b = leads a (Some frame.items) b
LedAsk leads a (Err (Broken LinkFault)) b = Unit {0}
LedAsk leads a (Err (Broken (Outside p))) b = leads a None b
LedAsk leads a (Err (Refused cause)) b = leads a None b
LedAsk leads a (Err (Raised e)) b = leads a None b
LedAsk leads a (Err Spent) b = leads a None b
LedAsk leads a (Err NoMemory) b = leads a None b
LedAsk leads a (Ok x) b = leads a None b

-- ---- what a query lacks

-- The functions of a unit were run. Where they are no executable string nothing is said, and where memory was wanting what is closed is as it was.
abbrev pub RunsUnit : (unit : ℕ) → Inquiry → Result (Unit {0}) AskFault → Inquiry → Type 0
RunsUnit u old (Ok x) new = IsDeferred old.core.store u → ForcesUnit u (idle old.core.store) (left_of old) (Ok tt) (left_of new) (idle new.core.store)
RunsUnit u old (Err (Raised e)) new = IsDeferred old.core.store u → ForcesUnit u (idle old.core.store) (left_of old) (Err (Error e)) (left_of new) (idle new.core.store)
RunsUnit u old (Err Spent) new = IsDeferred old.core.store u → ForcesUnit u (idle old.core.store) (left_of old) (Err OutOfSteps) (left_of new) (idle new.core.store)
RunsUnit u old (Err NoMemory) new = closed_part new.core.store ≡ closed_part old.core.store
RunsUnit u old (Err (Refused cause)) new = ⊥
RunsUnit u old (Err (Broken f)) new = ⊥

-- nothing is run, and this is answered
abbrev pub Answers : AskFault → Inquiry → Result (Unit {0}) AskFault → Inquiry → Type 0
Answers fault old result new = (result ≡ Err fault) × (new ≡ old)

-- The unit is run that a query met; what else is lacking is an error.
abbrev pub SettlesLack : Lack → Inquiry → Result (Unit {0}) AskFault → Inquiry → Type 0
SettlesLack (lack.Unforced u) old result new = RunsUnit u old result new
SettlesLack lack.Missing old result new = Answers (Raised Undefined) old result new
SettlesLack lack.NoPoint old result new = Answers (Raised Undefined) old result new
SettlesLack lack.WrongType old result new = Answers (Raised TypeCheck) old result new
SettlesLack lack.TooDeep old result new = Answers (Raised (error_of lack.TooDeep)) old result new
SettlesLack lack.Outside old result new = Answers (Raised RangeCheck) old result new

-- a key that is missing, or another type
abbrev pub shape_error : (is_missing : Bool) → PsError
shape_error true = Undefined
shape_error false = TypeCheck

-- the same where a walk met it
abbrev pub SettlesWalk : WalkFault → Inquiry → Result (Unit {0}) AskFault → Inquiry → Type 0
SettlesWalk (walk.Unforced u) old result new = RunsUnit u old result new
SettlesWalk (walk.Shape missing) old result new = Answers (Raised (shape_error missing)) old result new
SettlesWalk (walk.Memory (Outside p)) old result new = Answers (Raised RangeCheck) old result new
SettlesWalk (walk.Memory LinkFault) old result new = Answers (Broken LinkFault) old result new
SettlesWalk (walk.Memory (BadReply frame)) old result new = Answers (Broken (BadReply frame)) old result new
