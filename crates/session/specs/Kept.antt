-- What a command leaves of a side and of the session's state.
use Rattle.std.specs.Prelude.{◌≡◌, ◌≢◌, ◌⊎◌, ℕ, List, [], codes, Option, Some, None, is_some, Result, Ok, Err}
use Rattle.ldb_edge.specs.Count.{Rose}
use Rattle.table_points.specs.declared.row.Point.{Point}
use Rattle.table_asks.specs.declared.fault.AskFault.{AskFault}
use Rattle.table_asks.specs.declared.fault.AskFault.TheVariants.{Refused, Raised, Spent, NoMemory, Broken}
use Rattle.session.specs.declared.answers.Answer.{Answer}
use Rattle.session.specs.declared.answers.Answer.TheVariants.{Lines}
use Rattle.session.specs.declared.answers.End.{End}
use Rattle.session.specs.declared.modes.Mode.{Mode}
use Rattle.session.specs.declared.modes.Mode.TheVariants.{Ended}
use Rattle.asking.specs.Refusals.{refusal_of}
use Rattle.asking.specs.Lines.{BeginsWith}
use Rattle.session.specs.Answered.{Replies, refusal_reply, error_reply, spent_reply, IsNoMemory, AnswersTrouble}
use Rattle.session.specs.declared.sides.SideRecord.{SideRecord}
use Rattle.c_session.specs.declared.command.Command.{Command}
use Rattle.c_session.specs.declared.command.Command.TheVariants as command

-- its breakpoints and its chosen frame
abbrev pub IsKept : (old new : SideRecord) → Type 0
IsKept old new = (new.row.breaks.items ≡ old.row.breaks.items) × (new.frame ≡ old.frame)

-- those of a second side, where there is one
abbrev pub breaks_of : Option SideRecord → List Point
breaks_of None = []
breaks_of (Some side) = side.row.breaks.items

abbrev pub frame_of : Option SideRecord → ℕ
frame_of None = 0
frame_of (Some side) = side.frame

-- there is one still where there was one, with the same of both
abbrev pub AreKept : (old new : Option SideRecord) → Type 0
AreKept old new = (is_some new ≡ is_some old) × (breaks_of new ≡ breaks_of old) × (frame_of new ≡ frame_of old)

-- the session's state stays, or the session has ended and its reply says that the target is broken
abbrev pub KeepsMode : (old new : Mode) → (broken : List ℕ) → Result Answer End → Type 0
KeepsMode old new broken answer = (new ≡ old) ⊎ ((new ≡ Ended) × (answer ≡ Ok (Lines broken)))

-- that reply is given once, at the session's end
abbrev pub KeepsReply : (old new : List ℕ) → Mode → Type 0
KeepsReply old new mode = (new ≡ old) ⊎ (mode ≡ Ended)

-- A command isn't done, and its link goes on. (Behind a fault of the link the session has ended.)
abbrev pub IsUndone : {A : Type 0} → Result A AskFault → Type 0
IsUndone (Ok x) = ⊥
IsUndone (Err (Broken f)) = ⊥
IsUndone (Err (Refused c)) = Unit {0}
IsUndone (Err (Raised e)) = Unit {0}
IsUndone (Err Spent) = Unit {0}
IsUndone (Err NoMemory) = Unit {0}

-- the link failed, or memory was wanting
abbrev pub IsFailure : AskFault → Type 0
IsFailure (Broken f) = Unit {0}
IsFailure NoMemory = Unit {0}
IsFailure (Refused c) = ⊥
IsFailure (Raised e) = ⊥
IsFailure Spent = ⊥

-- an address was outside, or the link failed
abbrev pub IsStoreFault : AskFault → Type 0
IsStoreFault (Broken f) = Unit {0}
IsStoreFault (Raised e) = Unit {0}
IsStoreFault (Refused c) = ⊥
IsStoreFault Spent = ⊥
IsStoreFault NoMemory = ⊥

-- how a fault is answered: the session ends where its link failed, and else its state stays
abbrev pub AnswersFault : (broken : List ℕ) (old new : Mode) → AskFault → Answer → Type 0
AnswersFault broken old new (Broken f) answer = (new ≡ Ended) × (answer ≡ Lines broken)
AnswersFault broken old new (Refused c) answer = (new ≡ old) × Replies (refusal_reply (refusal_of c)) answer
AnswersFault broken old new (Raised e) answer = (new ≡ old) × Replies (error_reply e) answer
AnswersFault broken old new Spent answer = (new ≡ old) × Replies spent_reply answer
AnswersFault broken old new NoMemory answer = (new ≡ old) × IsNoMemory answer

-- A link that failed has counted it, and ended its session, whose last reply says that the target is broken.
abbrev pub IsBrokenOff : (faults faults' : ℕ) → (broken : List ℕ) → Mode → (text : List ℕ) → Type 0
IsBrokenOff faults faults' broken mode text = Rose faults faults' × (mode ≡ Ended) × (text ≡ broken)

-- The answer is want of memory, a refusal or an error, and not the last reply of a link that failed.
abbrev pub TellsTrouble : (broken : List ℕ) → Result Answer End → Type 0
TellsTrouble broken answer = AnswersTrouble answer × (answer ≢ Ok (Lines broken))

-- What a command says that sets a breakpoint, takes one away or chooses a frame begins with its word; what another one says isn't the last reply of a
-- link that failed.
abbrev pub SaysDone : Command → (text : List ℕ) → Type 0
SaysDone (command.Break spot) text = BeginsWith (codes "break ") text
SaysDone (command.Clear spot) text = BeginsWith (codes "clear ") text
SaysDone (command.Frame n) text = BeginsWith (codes "frame ") text
SaysDone c text = text ≢ codes "target\n"

-- a command that sets no breakpoint, chooses no frame and resumes nothing
abbrev pub IsQuery : Command → Type 0
IsQuery (command.Turns n) = Unit {0}
IsQuery command.Frames = Unit {0}
IsQuery (command.Print name) = Unit {0}
IsQuery (command.Eval text) = Unit {0}
IsQuery (command.Assign text) = Unit {0}
IsQuery command.Regs = Unit {0}
IsQuery (command.Code text) = Unit {0}
IsQuery (command.Ps text) = Unit {0}
IsQuery c = ⊥
