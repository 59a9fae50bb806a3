-- Why parts of commands have no result.
use Rattle.std.specs.Prelude.{Option, Some, None}
use Rattle.ps_step.specs.declared.fault.PsFault.{PsFault}
use Rattle.ps_step.specs.declared.fault.PsFault.TheVariants as ps
use Rattle.ps_step.specs.declared.fault.PsError.TheVariants.{RangeCheck}
use Rattle.table_model.specs.declared.lack.Lack.{Lack}
use Rattle.abs_mem.specs.declared.memory.MemFault.{MemFault}
use Rattle.abs_mem.specs.declared.memory.MemFault.TheVariants.{Outside, LinkFault}
use Rattle.ps_places.specs.Lacks.{error_of}
use Rattle.table_asks.specs.declared.fault.AskFault.{AskFault}
use Rattle.table_asks.specs.declared.fault.AskFault.TheVariants.{Refused, Raised, Spent, NoMemory, Broken}

abbrev pub raised : Lack → AskFault
raised l = Raised (error_of l)

-- the fault of the memory by which a run ended
abbrev pub broken_by : Option MemFault → AskFault
broken_by (Some why) = Broken why
broken_by None = Broken LinkFault

abbrev pub fault_of_run : PsFault → Option MemFault → AskFault
fault_of_run (ps.Error e) kept = Raised e
fault_of_run ps.Spent kept = Spent
fault_of_run ps.NoMemory kept = NoMemory
fault_of_run ps.Link kept = broken_by kept

-- why a word of a target isn't read or stored
abbrev pub memory_fault : MemFault → AskFault
memory_fault (Outside p) = Raised RangeCheck
memory_fault f = Broken f

-- neither a refusal nor a fault of a memory
abbrev pub IsOwn : AskFault → Type 0
IsOwn (Refused c) = ⊥
IsOwn (Broken f) = ⊥
IsOwn x = Unit {0}

-- no refusal
abbrev pub IsUnrefused : AskFault → Type 0
IsUnrefused (Refused c) = ⊥
IsUnrefused x = Unit {0}

-- no fault of a memory
abbrev pub IsUnbroken : AskFault → Type 0
IsUnbroken (Broken f) = ⊥
IsUnbroken x = Unit {0}
