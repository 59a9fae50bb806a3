-- What a session's sides are to the machine session, over a link whose nubs meet their definition.
use Rattle.std.specs.Prelude.{◌≡◌, ◌≢◌, ◌⊎◌, ℕ, List, [], ◌++◌, Option, Some, None, Result, Ok, Err}
use Rattle.ldb_edge.specs.Count.{Rose}
use Rattle.ldb_edge.specs.Known.{known_and}
use Rattle.ldb_words.specs.declared.kinds.Order.{Order}
use Rattle.machine_state.specs.declared.layout.TheConstants.{CONTEXT}
use Rattle.machine_state.specs.Regions.{Regions}
use Rattle.machine_state.specs.State.{Behaviour, order_of as machine_order}
use Rattle.nub_wire.specs.declared.link.Side.{Side}
use Rattle.nub_wire.specs.declared.link.Side.TheVariants.{First, Second}
use Rattle.nub_wire.specs.Nub.{Host}
use Rattle.nub_wire.specs.Delivery.{Conduct, World}
use Rattle.resuming.specs.Runs.{TakesFront}
use Rattle.resuming.specs.Standing.{Stands}
use Rattle.resuming.specs.declared.fault.RunFault.{RunFault}
use Rattle.resuming.specs.declared.fault.RunFault.TheVariants.{Talk, Output}
use Rattle.wire_talk.specs.declared.fault.TalkFault.{TalkFault}
use Rattle.wire_talk.specs.declared.fault.TalkFault.TheVariants as talk
use Rattle.steady_machines.specs.Steady.{KeepsOrders, RunsAreSteady}
use Rattle.abs_mem.specs.declared.memory.MemFault.{MemFault}
use Rattle.abs_mem.specs.declared.memory.MemFault.TheVariants.{Outside, LinkFault, BadReply}
use Rattle.debug_side.specs.declared.event.Event.{Event}
use Rattle.debug_side.specs.declared.point.MachineKind.{MachineKind}
use Rattle.debug_side.specs.Told.{MayRun, its_output, with_regions}
use Rattle.dialect_model.specs.TableUse.{TableUse, Trouble, Kind, Wanting}
use Rattle.dialect_model.specs.TableUse.{Refused as RefusedFor, Spent as StepsSpent}
use Rattle.c_session.specs.declared.command.Command.{Command}
use Rattle.c_session.specs.declared.command.Command.TheVariants as command
use Rattle.c_session.specs.Commands.{Resume, ByStep, ByContinue}
use Rattle.table_asks.specs.declared.fault.AskFault.{AskFault}
use Rattle.table_asks.specs.declared.fault.AskFault.TheVariants.{Refused, Raised, Spent, NoMemory, Broken}
use Rattle.asking.specs.Refusals.{refusal_of}
use Rattle.asking_meaning.specs.Meant.{joined}
use Rattle.claims.specs.Side.{SideEvent, SideState, SessionState, State, Fresh, Stopped, Running, Ended, Change, Troubled}
use Rattle.claims.specs.Lines.{Reply, trouble_reply}
use Rattle.claims.specs.Outcome.{Prepares, OneSide, Resumes, Answers}
use Rattle.side_meaning.specs.Standing.{Debugged, StandsFor}
use Rattle.side_meaning.specs.Asking.{HasNames, IsAsked}
use Rattle.side_meaning.specs.Stepping.{IsSettled, IsStepped, FindsWords, IsReady}
use Rattle.side_meaning.specs.Storing.{StoresNumbers}
use Rattle.side_meaning.specs.Sessions.{BothSides, OnSecond, SidesStand, IsStill, AreReady, ArePrepared, AreResumed}
use Rattle.session.specs.declared.answers.Answer.{Answer}
use Rattle.session.specs.declared.answers.Answer.TheVariants as answer
use Rattle.session.specs.declared.answers.End.{End}
use Rattle.session.specs.declared.answers.End.TheVariants as end
use Rattle.session.specs.declared.modes.Mode.{Mode}
use Rattle.session.specs.declared.sides.SideRecord.{SideRecord}
use Rattle.session.specs.Answered.{state_of}
use Rattle.session.specs.Kept.{IsBrokenOff}
use Rattle.session.specs.Resuming.{event_on}
use Rattle.session.specs.Turned.{byte_of, order_of}

-- ---- sides over a link

-- a side, as the session has it, over this nub and machine
abbrev pub debugged : SideRecord → Host → Debugged
debugged side h = record { table = side.inquiry.core.store; frame = side.frame; row = side.row; host = h }

-- what the session knows of its machine
abbrev pub kind_of : SideRecord → MachineKind
kind_of side = record { target = byte_of side.machine; context = side.context }

-- Its nub and machine are at rest, what the session knows of the machine is so, and the names of its points last.
pub record IsThere (b : Behaviour) (c : Conduct) (o : Option World) (side : SideRecord) (h : Host) (beside : Option Host) : Type 0 where
  pub stands : Stands b c side.which o h beside
  pub context : side.context ≡ CONTEXT
  pub target : byte_of side.machine ≡ h.machine.target
  pub order : order_of side.machine ≡ machine_order h.machine
  pub names : HasNames (debugged side h)

-- nubs and machines of one side or two
pub record Hosts : Type 0 where
  pub first : Host
  pub second : Option Host

abbrev pub second_of : Option SideRecord → Option Host → Option Debugged
second_of (Some side) (Some h) = Some (debugged side h)
second_of None h = None
second_of (Some side) None = None

abbrev pub sides_of : SideRecord → Option SideRecord → Hosts → BothSides
sides_of a b hs = record { first = debugged a hs.first; second = second_of b hs.second }

abbrev pub IsSecond : Behaviour → Conduct → Option World → (beside : Host) → SideRecord → Host → Type 0
IsSecond b c o beside side h = (side.which ≡ Second) × IsThere b c o side h (Some beside)

pub record AreThere (b : Behaviour) (c : Conduct) (o : Option World) (first : SideRecord) (second : Option SideRecord) (hs : Hosts) : Type 0 where
  pub first_is : first.which ≡ First
  pub first_there : IsThere b c o first hs.first hs.second
  pub second_there : OnSecond (IsSecond b c o hs.first) second hs.second

-- they stand for those of the machine session
pub record Represents (b : Behaviour) (c : Conduct) (o : Option World) (first : SideRecord) (second : Option SideRecord) (mode : Mode) (limit : ℕ) (hs : Hosts) (st : SessionState) : Type 0 where
  pub there : AreThere b c o first second hs
  pub sides : SidesStand (sides_of first second hs) st
  pub state : st.state ≡ state_of mode
  pub limit_is : st.limit ≡ limit

-- Where the session stands, or was never resumed, they do so with no word of a step.
pub record AreReadyFor (first : SideRecord) (second : Option SideRecord) (hs : Hosts) (st : SessionState) : Type 0 where
  pub sides : SidesStand (sides_of first second hs) st
  pub ready : AreReady (sides_of first second hs) st
  pub still : IsStill st.state

-- ---- why something isn't done

module _ {A : Type 0} (faults faults' : ℕ) (Done : A → Type 0) (Isnt : Troubled → Type 0) where
  -- It is done, or not done for a trouble. A link that failed has counted it, and brought no bad reply; without memory nothing is said.
  abbrev pub ComesTo : Result A AskFault → Type 0
  ComesTo (Ok x) = Done x
  ComesTo (Err (Refused cause)) = Isnt (RefusedFor (refusal_of cause))
  ComesTo (Err (Raised e)) = Isnt (Kind e)
  ComesTo (Err Spent) = Isnt StepsSpent
  ComesTo (Err NoMemory) = Unit {0}
  ComesTo (Err (Broken LinkFault)) = Rose faults faults'
  ComesTo (Err (Broken (BadReply frame))) = ⊥
  ComesTo (Err (Broken (Outside p))) = ⊥

-- The same where any trouble leaves what is said, want of memory too. A link that failed has counted it, and brought no bad reply.
abbrev pub FailsWell : (faults faults' : ℕ) → (Stays : Type 0) → AskFault → Type 0
FailsWell faults faults' Stays (Refused cause) = Stays
FailsWell faults faults' Stays (Raised e) = Stays
FailsWell faults faults' Stays Spent = Stays
FailsWell faults faults' Stays NoMemory = Stays
FailsWell faults faults' Stays (Broken LinkFault) = Rose faults faults'
FailsWell faults faults' Stays (Broken (BadReply frame)) = ⊥
FailsWell faults faults' Stays (Broken (Outside p)) = ⊥

abbrev pub TalksWell : {A : Type 0} → (faults faults' : ℕ) → (Stays : Type 0) → Result A AskFault → Type 0
TalksWell faults faults' Stays (Ok x) = Stays
TalksWell faults faults' Stays (Err fault) = FailsWell faults faults' Stays fault

abbrev pub TalksTo : (faults faults' : ℕ) → (Done : Type 0) → Result (Unit {0}) TalkFault → Type 0
TalksTo faults faults' Done (Ok x) = Done
TalksTo faults faults' Done (Err talk.LinkFault) = Rose faults faults'
TalksTo faults faults' Done (Err (talk.BadReply frame)) = ⊥

-- what is done to a machine keeps its order of bytes, and the run of a resume its target and its text
pub record AreSteady (b : Behaviour) : Type 0 where
  pub orders : KeepsOrders b
  pub runs : RunsAreSteady b

-- ---- before a resume

module _ (b : Behaviour) (c : Conduct) (o : Option World) (side side' : SideRecord) (h : Host) (beside : Option Host) where
  -- the words that a step left are taken away
  pub record Settled : Type 0 where
    pub host : Host
    pub there : IsThere b c o side' host beside
    pub settled : IsSettled (debugged side h) (debugged side' host)

  -- its words are put, or stand still
  pub record Stepped (a : SideState) : Type 0 where
    pub host : Host
    pub use_after : TableUse
    pub there : IsThere b c o side' host beside
    pub stepped : IsStepped (debugged side h) (debugged side' host) a.table use_after ⊎ FindsWords (debugged side h) (debugged side' host)

  -- none is put, and the machine session puts none either
  pub record Unstepped (a : SideState) (e : Troubled) : Type 0 where
    pub after : SideState
    pub there : IsThere b c o side' h beside
    pub prepares : Prepares ByStep a (Err e) after
    pub stands : StandsFor (debugged side' h) after
    pub words : after.step_words ≡ []

module _ (b : Behaviour) (c : Conduct) (o : Option World) (first first' : SideRecord) (second second' : Option SideRecord) (hs : Hosts) (st : SessionState) where
  -- all sides are prepared for a resume
  pub record AllPrepared (how : Resume) : Type 0 where
    pub hosts : Hosts
    pub there : AreThere b c o first' second' hosts
    pub prepared : ArePrepared how (sides_of first second hs) (sides_of first' second' hosts) st

  -- no word of a step is there
  pub record AllSettled : Type 0 where
    pub hosts : Hosts
    pub there : AreThere b c o first' second' hosts
    pub prepared : ArePrepared ByContinue (sides_of first second hs) (sides_of first' second' hosts) st
    pub ready : AreReadyFor first' second' hosts st

-- whatever words of a step stood are taken away
pub record AllCleared (b : Behaviour) (c : Conduct) (o : Option World) (first first' : SideRecord) (second second' : Option SideRecord) (hs : Hosts) : Type 0 where
  pub hosts : Hosts
  pub there : AreThere b c o first' second' hosts
  pub first_settled : IsSettled (debugged first hs.first) (debugged first' hosts.first)
  pub second_settled : OnSecond IsSettled (second_of second hs.second) (second_of second' hosts.second)

-- ---- a resume

-- the kind of a second machine, which only matters where there is one
abbrev pub other_kind : SideRecord → Option SideRecord → MachineKind
other_kind first None = kind_of first
other_kind first (Some second) = kind_of second

-- the nubs take the resume
abbrev pub MayAlsoRun : Option SideRecord → Option Host → Type 0
MayAlsoRun second h = OnSecond (λ (side : SideRecord) (h : Host). MayRun side.row.kept h) second h

module _ (b : Behaviour) (c : Conduct) (o : Option World) (first first' : SideRecord) (second second' : Option SideRecord) (hs : Hosts) (limit : ℕ) (faults faults' : ℕ) (taken taken' : Option (List ℕ)) where
  -- all sides were resumed to this event of all, and the first one's output was put
  pub record AllResumed (all : SideEvent) : Type 0 where
    pub hosts : Hosts
    pub there : AreThere b c o first' second' hosts
    pub resumed : AreResumed b (kind_of first) (other_kind first second) limit all (sides_of first second hs) (sides_of first' second' hosts)
    pub put : taken' ≡ known_and taken (its_output b (kind_of first) first.row limit hs.first)

  -- A link that failed has counted it, and brought no bad reply; where the output failed a front of the output was put.
  abbrev pub ResumesAll : Result Event RunFault → Type 0
  ResumesAll (Ok event) = AllResumed (event_on first event)
  ResumesAll (Err (Talk talk.LinkFault)) = Rose faults faults'
  ResumesAll (Err (Talk (talk.BadReply frame))) = ⊥
  ResumesAll (Err Output) = TakesFront taken taken' (its_output b (kind_of first) first.row limit hs.first)

-- ---- a command that asks one side

-- a command that sets breakpoints or takes them away
abbrev pub SetsBreaks : Command → Type 0
SetsBreaks (command.Break spot) = Unit {0}
SetsBreaks (command.Clear spot) = Unit {0}
SetsBreaks c = ⊥

-- one that asks the table and the memory of the target, and runs no PostScript of its own
abbrev pub IsBare : Command → Type 0
IsBare command.Frames = Unit {0}
IsBare (command.Frame n) = Unit {0}
IsBare c = SetsBreaks c

-- one that tells points, frames and values, or sets breakpoints
abbrev pub IsPlain : Command → Type 0
IsPlain (command.Print name) = Unit {0}
IsPlain c = IsBare c

-- one that is asked of each side, `ps` too
abbrev pub IsInquiry : Command → Type 0
IsInquiry (command.Ps text) = Unit {0}
IsInquiry c = IsPlain c

-- one that is asked, `regs` too
abbrev pub IsAskable : Command → Type 0
IsAskable command.Regs = Unit {0}
IsAskable c = IsInquiry c

-- one of which is said what it means: not `eval`, `assign` and `code`
abbrev pub IsSaid : Command → Type 0
IsSaid command.Continue = Unit {0}
IsSaid command.Step = Unit {0}
IsSaid (command.Turns n) = Unit {0}
IsSaid command.Quit = Unit {0}
IsSaid c = IsAskable c

-- one that is asked of each side and stores nothing in the target
abbrev pub IsLook : Command → Type 0
IsLook command.Frames = Unit {0}
IsLook (command.Frame n) = Unit {0}
IsLook (command.Print name) = Unit {0}
IsLook (command.Eval text) = Unit {0}
IsLook (command.Code text) = Unit {0}
IsLook c = ⊥

-- one that has an expression
abbrev pub IsExpression : Command → Type 0
IsExpression (command.Eval text) = Unit {0}
IsExpression (command.Assign text) = Unit {0}
IsExpression (command.Code text) = Unit {0}
IsExpression c = ⊥

abbrev pub IsSaidIfAny : Option Command → Type 0
IsSaidIfAny None = Unit {0}
IsSaidIfAny (Some c) = IsSaid c

module _ (b : Behaviour) (c : Conduct) (o : Option World) (side side' : SideRecord) (h : Host) (beside : Option Host) (now : Command) (a : SideState) where
  -- it came to a result, and changed both sides alike
  pub record AskedOne (r : Result Change Troubled) : Type 0 where
    pub host : Host
    pub after : SideState
    pub there : IsThere b c o side' host beside
    pub one : OneSide now a r after
    pub alike : IsAsked (debugged side h) (debugged side' host) a after

  -- it was done and said this text
  pub record SaidOne (text : List ℕ) : Type 0 where
    pub change : Change
    pub text_is : text ≡ joined change.lines
    pub asked : AskedOne (Ok change)

  abbrev pub NotOne : Troubled → Type 0
  NotOne e = AskedOne (Err e)

  -- it was done, or not done for a trouble that isn't want of memory
  pub record RanOne : Type 0 where
    pub result : Result Change Troubled
    pub found_memory : result ≢ Err Wanting
    pub asked : AskedOne result

-- numbers were stored in its machine's memory
pub record StoredThere (b : Behaviour) (c : Conduct) (o : Option World) (side : SideRecord) (h : Host) (beside : Option Host) : Type 0 where
  pub regions : Regions
  pub there : IsThere b c o side (with_regions h regions) beside
  pub stores : StoresNumbers (machine_order h.machine) h.machine.memory regions

-- ---- a command of all sides

module _ (b : Behaviour) (c : Conduct) (o : Option World) (first : SideRecord) (second : Option SideRecord) (st : SessionState) where
  -- a reply of the machine session, whose state and limit stay, and nothing was put
  pub record SaidAll (Says : Reply → SessionState → Type 0) (text : List ℕ) : Type 0 where
    pub reply : Reply
    pub after : SessionState
    pub hosts : Hosts
    pub says : Says reply after
    pub text_is : text ≡ joined reply
    pub there : AreThere b c o first second hosts
    pub sides : SidesStand (sides_of first second hosts) after
    pub state : after.state ≡ st.state
    pub limit : after.limit ≡ st.limit
    pub written : after.written ≡ st.written

  -- the reply of a trouble
  abbrev pub NotAll : (Reply → SessionState → Type 0) → Troubled → Type 0
  NotAll Says e = SaidAll Says (joined (trouble_reply e))

-- ---- a command

-- The output of one of the machine session's answers was put in part.
pub record PutInPart (st : SessionState) (taken taken' : Option (List ℕ)) (Says : Reply → SessionState → Type 0) : Type 0 where
  pub reply : Reply
  pub after : SessionState
  pub output : List ℕ
  pub says : Says reply after
  pub written : after.written ≡ st.written ++ output
  pub front : TakesFront taken taken' output

module _ (b : Behaviour) (c : Conduct) (o : Option World) (first : SideRecord) (second : Option SideRecord) (mode : Mode) (limit : ℕ) (st : SessionState) (taken taken' : Option (List ℕ)) where
  -- The answer is one of the machine session's, for which the session stands then; what it put is what that one wrote.
  pub record Answered (Says : Reply → SessionState → Type 0) (text : List ℕ) : Type 0 where
    pub reply : Reply
    pub after : SessionState
    pub hosts : Hosts
    pub output : List ℕ
    pub says : Says reply after
    pub text_is : text ≡ joined reply
    pub represents : Represents b c o first second mode limit hosts after
    pub written : after.written ≡ st.written ++ output
    pub put : taken' ≡ known_and taken output

  -- So it is unless the link failed, which ends the session by its last reply. Without memory nothing is said; where the output failed, a front of that of an answer was put.
  abbrev pub AnswersAs : (Reply → SessionState → Type 0) → (faults faults' : ℕ) → (broken : List ℕ) → Result Answer End → Type 0
  AnswersAs Says faults faults' broken (Ok (answer.Lines text)) = IsBrokenOff faults faults' broken mode text ⊎ Answered Says text
  AnswersAs Says faults faults' broken (Ok answer.NoMemory) = Unit {0}
  AnswersAs Says faults faults' broken (Err end.Quit) = Unit {0}
  AnswersAs Says faults faults' broken (Err end.OutFault) = PutInPart st taken taken' Says

-- what a line, and a resume, answer in the machine session
abbrev pub MeantAnswers : Behaviour → SessionState → Option Command → Reply → SessionState → Type 0
MeantAnswers b st = Answers b st

abbrev pub ResumesAs : Behaviour → Resume → SessionState → Reply → SessionState → Type 0
ResumesAs b how st reply st' = Resumes b how st st.state reply st'

-- the states in which a resume is no refusal
abbrev pub IsResumable : State → Type 0
IsResumable Fresh = Unit {0}
IsResumable Stopped = Unit {0}
IsResumable (Running how) = Unit {0}
IsResumable Ended = ⊥
