-- Why an operator has no result, by what a walk, a leaf operator or a memory answered.
use Rattle.std.specs.Prelude.{ℕ, true, false, List, Option, None, Result, Ok, Err}
use Rattle.ps_step.specs.declared.fault.PsError.TheVariants.{Undefined, TypeCheck, RangeCheck}
use Rattle.ps_step.specs.declared.fault.PsFault.TheVariants.{Error, Spent, Link, NoMemory}
use Rattle.ps_run.specs.Runs.{Answer}
use Rattle.abs_mem.specs.declared.memory.MemFault.TheVariants.{Outside, LinkFault, BadReply}
use Rattle.abs_mem.specs.Meaning.{Led}
use Rattle.abs_mem.specs.declared.walk.WalkFault.{WalkFault}
use Rattle.abs_mem.specs.declared.walk.WalkFault.TheVariants as fault
use Rattle.ps_places.specs.declared.access.Trouble.{Trouble}
use Rattle.ps_places.specs.declared.access.Trouble.TheVariants as trouble
use Rattle.ps_ops.specs.declared.halt.Halt.{Halt}
use Rattle.ps_ops.specs.declared.halt.Halt.TheVariants.{Raised, Wanting, Broken, Needs}

abbrev pub halted : WalkFault → Halt
halted (fault.Memory (Outside p)) = Raised RangeCheck
halted (fault.Memory LinkFault) = Broken LinkFault
halted (fault.Memory (BadReply frame)) = Broken (BadReply frame)
halted (fault.Shape true) = Raised Undefined
halted (fault.Shape false) = Raised TypeCheck
halted (fault.Unforced unit) = Needs unit

-- how a walk is told
abbrev pub halted_of : {A : Type 0} → Result A WalkFault → Result A Halt
halted_of (Ok x) = Ok x
halted_of (Err f) = Err (halted f)

abbrev pub left : Answer → Result (Unit {0}) Halt
left (Ok x) = Ok x
left (Err (Error e)) = Err (Raised e)
left (Err Spent) = Err Wanting
left (Err Link) = Err Wanting
left (Err NoMemory) = Err Wanting

abbrev pub left_over : Result (Unit {0}) Trouble → Result (Unit {0}) Halt
left_over (Ok x) = Ok x
left_over (Err (trouble.Ps f)) = left (Err f)
left_over (Err (trouble.Broken f)) = Err (Broken f)

-- ---- calls of a memory

-- Calls led from a memory to another, where an operator has no result. Where a bad reply is told, the last of them brought it.
abbrev pub LedStop : {M : Type 0} → (M → Option (List ℕ) → M → Type 0) → M → Halt → M → Type 0
LedStop leads m (Broken f) m' = Led {A = Unit {0}} leads m (Err f) m'
LedStop leads m (Raised e) m' = leads m None m'
LedStop leads m Wanting m' = leads m None m'
LedStop leads m (Needs u) m' = leads m None m'

abbrev pub LedHalt : {M A : Type 0} → (M → Option (List ℕ) → M → Type 0) → M → Result A Halt → M → Type 0
LedHalt leads m (Ok x) m' = leads m None m'
LedHalt leads m (Err h) m' = LedStop leads m h m'
