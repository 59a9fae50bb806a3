-- What a call comes to whose words ask for a session.
use Rattle.std.specs.Prelude.{◌≡◌, ◌≢◌, ◌⊎◌, ℕ, Bool, true, false, List, [], drop, Option, Some, Result, Ok, Err}
use Rattle.claims.specs.Side.{SessionState}
use Rattle.ldb_edge.specs.Known.{FileMap, known_and}
use Rattle.cc_call.specs.declared.ended.Fault.{Fault}
use Rattle.cc_call.specs.declared.ended.Fault.TheVariants.{Read, Write, NoMemory as NoRoom}
use Rattle.cc_call.specs.Faults.{TakesFront}
use Rattle.ldb_top.specs.declared.status.Status.{Status}
use Rattle.ldb_top.specs.declared.status.Status.TheVariants.{Done, Refused, Words, ReadFault, WriteFault, NoMemory, NoFile, BadFile, TooLong}
use Rattle.ldb_top.specs.declared.status.Stop.{Stop}
use Rattle.ldb_top.specs.Ahead.{lines_of}
use Rattle.ldb_top.specs.Behind.{left_behind}
use Rattle.ldb_top.specs.Bytes.{IsBehind}
use Rattle.ldb_top.specs.Conversed.{HasConversed, HasConversedLate}
use Rattle.ldb_top.specs.Fronts.{HasFaulted}
use Rattle.ldb_top.specs.Late.{LateAs}
use Rattle.ldb_top.specs.Lines.{line_of, late_line, IsLine}
use Rattle.ldb_top.specs.Names.{Names, names_of}
use Rattle.ldb_top.specs.Output.{held_under, is_there}
use Rattle.ldb_top.specs.Said.{BeginsWith}
use Rattle.ldb_top.specs.Stops.{ending_of, fault_of}
use Rattle.ldb_top.specs.Why.{IsWhy, Begins, BeginsAs}
use Rattle.ldb_top.specs.Words.{Form, Debug, Go}

-- what the files hold, the commands have left and the transcript took
pub record Outside : Type 0 where
  pub held : Option FileMap
  pub left : Option (List ℕ)
  pub taken : Option (List ℕ)

abbrev pub outside : Option FileMap → (left taken : Option (List ℕ)) → Outside
outside held left taken = record { held = held; left = left; taken = taken }

-- it ended before its session, and one line was printed and nothing else done
pub record EndsEarly (form : Form) (n : Names) (old new : Outside) (status : Status) : Type 0 where
  pub stop : Stop
  pub status_is : ending_of stop ≡ Ok status
  pub why : (known : FileMap) → old.held ≡ Some known → IsWhy form n known stop
  pub line : IsLine n stop
  pub told : new.taken ≡ known_and old.taken (line_of stop)
  pub held_is : new.held ≡ old.held
  pub unread : new.left ≡ old.left

-- the commands are not too long, or have a line `quit` before they are, and they were read to that line or to their end
pub record AreRead (old new : Outside) : Type 0 where
  pub short : LateAs false (lines_of old.left)
  pub left : new.left ≡ left_behind [] old.left

-- the commands are too long, and this was said behind all else
pub record AreLate (old new : Outside) : Type 0 where
  pub long : LateAs true (lines_of old.left)
  pub before : Option (List ℕ)
  pub more : (front : List ℕ) → BeginsWith front old.taken → BeginsWith front before
  pub told : new.taken ≡ known_and before late_line

-- what was told and put from a machine session on
abbrev pub HasConversedOver : Names → (old new : Outside) → (raw : Bool) → SessionState → Type 0
HasConversedOver n old new raw st = HasConversed raw st (lines_of old.left) old.taken new.taken (held_under new.held n.output)

abbrev pub HasConversedLateOver : Names → (old new : Outside) → (raw : Bool) → SessionState → Type 0
HasConversedLateOver n old new raw st = HasConversedLate raw st (lines_of old.left) old.taken new.taken (held_under new.held n.output)

-- A session was begun, and its commands were read; its output file is there. Where commands and transcript tell, it was the conversation of
-- the machine session, but for lines that are passed.
pub record EndsRead (form : Form) (n : Names) (old new : Outside) : Type 0 where
  pub begun : (known : FileMap) → old.held ≡ Some known → Begins form n known
  pub read : AreRead old new
  pub there : is_there n.output new.held ≡ true
  pub conversed : (known : FileMap) → old.held ≡ Some known → BeginsAs (HasConversedOver n old new) form n known

-- A session was begun, and its commands were too long; its output file is there. The same holds of what came before this was said.
pub record EndsLate (form : Form) (n : Names) (old new : Outside) : Type 0 where
  pub begun : (known : FileMap) → old.held ≡ Some known → Begins form n known
  pub late : AreLate old new
  pub there : is_there n.output new.held ≡ true
  pub conversed : (known : FileMap) → old.held ≡ Some known → BeginsAs (HasConversedLateOver n old new) form n known

-- nothing was done
pub record NothingDone (old new : Outside) : Type 0 where
  pub held_is : new.held ≡ old.held
  pub unread : new.left ≡ old.left
  pub untold : new.taken ≡ old.taken

-- A fault before a session: a file can't be read, there is no memory, or the line that tells why there is none can't be written whole.
-- Nothing was printed but a front of that line, and nothing else done.
pub record FaultsEarly (form : Form) (n : Names) (old new : Outside) (fault : Fault) : Type 0 where
  pub stop : Stop
  pub fault_is : fault ≡ fault_of stop
  pub why : (known : FileMap) → old.held ≡ Some known → IsWhy form n known stop
  pub line : IsLine n stop
  pub told : TakesFront old.taken new.taken (line_of stop)
  pub silent : fault ≢ Write → new.taken ≡ old.taken
  pub held_is : new.held ≡ old.held
  pub unread : new.left ≡ old.left

-- from a machine session on: its output file couldn't be made and nothing was done, or it is there and a front of a conversation was told and put
abbrev pub HasFaultedOver : Names → (old new : Outside) → Fault → (raw : Bool) → SessionState → Type 0
HasFaultedOver n old new fault raw st =
    ((fault ≡ Write) × NothingDone old new) ⊎ HasFaulted fault raw st (lines_of old.left) old.taken new.taken (held_under new.held n.output)

-- A fault once a session was begun. Of the commands what stands behind those bytes that were read is left.
pub record FaultsLater (form : Form) (n : Names) (old new : Outside) (fault : Fault) : Type 0 where
  pub left : IsBehind old.left new.left
  pub begun : (known : FileMap) → old.held ≡ Some known → Begins form n known
  pub conversed : (known : FileMap) → old.held ≡ Some known → BeginsAs (HasFaultedOver n old new fault) form n known

-- what a fault leaves
abbrev pub Faults : Form → Names → (old new : Outside) → Fault → Type 0
Faults form n old new fault = FaultsEarly form n old new fault ⊎ FaultsLater form n old new fault

-- what each status says
abbrev pub Comes : Form → Names → (old new : Outside) → Status → Type 0
Comes form n old new Done = EndsRead form n old new
Comes form n old new TooLong = EndsEarly form n old new TooLong ⊎ EndsLate form n old new
Comes form n old new Refused = EndsEarly form n old new Refused
Comes form n old new NoFile = EndsEarly form n old new NoFile
Comes form n old new BadFile = EndsEarly form n old new BadFile
Comes form n old new ReadFault = Faults form n old new Read
Comes form n old new WriteFault = Faults form n old new Write
Comes form n old new NoMemory = Faults form n old new NoRoom
Comes form n old new Words = Unit {0}

-- the same of a result
abbrev pub ComesTo : Form → Names → (old new : Outside) → Result Status Fault → Type 0
ComesTo form n old new (Ok status) = Comes form n old new status
ComesTo form n old new (Err fault) = Faults form n old new fault

-- what the commands and the transcript tell of a session that was served
abbrev pub Served : (old new : Outside) → Result Status Fault → Type 0
Served old new (Ok Done) = AreRead old new
Served old new (Ok TooLong) = AreLate old new
Served old new (Ok _) = ⊥
Served old new (Err fault) = Unit {0}

-- what a session told and put that was served from a machine session on
abbrev pub ServedSo : (name : List ℕ) → (raw : Bool) → SessionState → (old new : Outside) → Result Status Fault → Type 0
ServedSo name raw st old new (Ok Done) = HasConversed raw st (lines_of old.left) old.taken new.taken (held_under new.held name)
ServedSo name raw st old new (Ok TooLong) = HasConversedLate raw st (lines_of old.left) old.taken new.taken (held_under new.held name)
ServedSo name raw st old new (Err fault) = ((fault ≡ Write) × NothingDone old new) ⊎ HasFaulted fault raw st (lines_of old.left) old.taken new.taken (held_under new.held name)
ServedSo name raw st old new _ = Unit {0}

-- so it is with words of these two forms
abbrev pub SessionComes : Option Form → (words : List (List ℕ)) → (old new : Outside) → Status → Type 0
SessionComes (Some Debug) words old new status = Comes Debug (names_of Debug (drop 1 words)) old new status
SessionComes (Some Go) words old new status = Comes Go (names_of Go (drop 1 words)) old new status
SessionComes _ words old new status = Unit {0}

abbrev pub SessionComesTo : Option Form → (words : List (List ℕ)) → (old new : Outside) → Result Status Fault → Type 0
SessionComesTo (Some Debug) words old new r = ComesTo Debug (names_of Debug (drop 1 words)) old new r
SessionComesTo (Some Go) words old new r = ComesTo Go (names_of Go (drop 1 words)) old new r
SessionComesTo _ words old new r = Unit {0}
