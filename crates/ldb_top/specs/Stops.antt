-- What ends a call before its session, and when it may.
use Rattle.std.specs.Prelude.{◌≡◌, ◌⊎◌, ℕ, List}
use Rattle.std.specs.Prelude.{Ok, Err}
use Rattle.std.specs.declared.result.Result.{Result}
use Rattle.ldb_edge.specs.Count.{Rose}
use Rattle.cc_call.specs.Lines.{missing_line}
use Rattle.cc_call.specs.declared.ended.Fault.{Fault}
use Rattle.cc_call.specs.declared.ended.Fault.TheVariants as fault
use Rattle.ldb_top.specs.declared.status.Status.{Status}
use Rattle.ldb_top.specs.declared.status.Status.TheVariants as status
use Rattle.ldb_top.specs.declared.status.Stop.{Stop}
use Rattle.ldb_top.specs.declared.status.Stop.TheVariants.{Read, NoMemory, Missing, TooLong, Refused, Bad}
use Rattle.ldb_top.specs.Causes.{IsMissed}
use Rattle.ldb_top.specs.Lines.{long_line, IsRefusedLine, IsBadLine}

-- how a call ends by such a stop, if its line can be written
abbrev pub ending_of : Stop → Result Status Fault
ending_of Read = Err fault.Read
ending_of NoMemory = Err fault.NoMemory
ending_of (Missing line) = Ok status.NoFile
ending_of (TooLong line) = Ok status.TooLong
ending_of (Refused line) = Ok status.Refused
ending_of (Bad line) = Ok status.BadFile

-- the fault that ends it where its line, if it has one, can't be written
abbrev pub fault_of : Stop → Fault
fault_of Read = fault.Read
fault_of NoMemory = fault.NoMemory
fault_of (Missing line) = fault.Write
fault_of (TooLong line) = fault.Write
fault_of (Refused line) = fault.Write
fault_of (Bad line) = fault.Write

-- a file isn't there, or there was no memory to say so
abbrev pub IsMissing : List ℕ → Stop → Type 0
IsMissing name (Missing line) = line ≡ missing_line name
IsMissing name NoMemory = Unit {0}
IsMissing name _ = ⊥

-- while files are read: a failed read raises the count, and nothing else moves it, want of memory neither; a file that isn't there is named, and so is
-- an input that is too long
abbrev pub IsReadStop : (missed : List ℕ → Type 0) → (input : List ℕ) → (before now : ℕ) → Stop → Type 0
IsReadStop missed input before now Read = Rose before now
IsReadStop missed input before now NoMemory = now ≡ before
IsReadStop missed input before now (Missing line) = (now ≡ before) × IsMissed missed line
IsReadStop missed input before now (TooLong line) = (now ≡ before) × (line ≡ long_line input)
IsReadStop missed input before now (Refused line) = ⊥
IsReadStop missed input before now (Bad line) = ⊥

-- while sources are compiled and their tables run, none of which is bad
abbrev pub IsBuildStop : Stop → Type 0
IsBuildStop NoMemory = Unit {0}
IsBuildStop (Refused line) = Unit {0}
IsBuildStop _ = ⊥

-- while an image and a table are read
abbrev pub IsLoadStop : Stop → Type 0
IsLoadStop NoMemory = Unit {0}
IsLoadStop (Bad line) = Unit {0}
IsLoadStop _ = ⊥

-- while sources with these names are made a session: the line tells of a fault of theirs
abbrev pub IsGoStop : (names : List (List ℕ)) → Stop → Type 0
IsGoStop names NoMemory = Unit {0}
IsGoStop names (Refused line) = IsRefusedLine names line
IsGoStop names _ = ⊥

-- while an image and a table are: the line tells of a fault of one
abbrev pub IsDebugStop : Stop → Type 0
IsDebugStop NoMemory = Unit {0}
IsDebugStop (Bad line) = IsBadLine line
IsDebugStop _ = ⊥

-- the one, with no count moved, or what stops the reading
abbrev pub IsOpenStop : (Stop → Type 0) → (missed : List ℕ → Type 0) → (input : List ℕ) → (before now : ℕ) → Stop → Type 0
IsOpenStop P missed input before now stop = (P stop × (now ≡ before)) ⊎ IsReadStop missed input before now stop

-- how the count of failed writes moves where a stop is told
abbrev pub CountsTold : ℕ → ℕ → Fault → Type 0
CountsTold before now fault.Read = now ≡ before
CountsTold before now fault.Write = Rose before now
CountsTold before now fault.NoMemory = now ≡ before
