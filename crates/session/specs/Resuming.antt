-- What `continue` and `step` tell, and what they leave of the sides and of the session's state.
use Rattle.std.specs.Prelude.{◌≡◌, ◌⊎◌, ◌≤◌, ℕ, List, [], Option, Some, None, Result, Ok, Err}
use Rattle.c_session.specs.Commands.{Resume, ByStep, ByContinue}
use Rattle.debug_side.specs.declared.event.Event.{Event}
use Rattle.debug_side.specs.Meant.{Met, stood, words_left}
use Rattle.claims.specs.Side.{SideEvent, State, Running}
use Rattle.claims.specs.Resumes.{merged, keeps, frame_after, state_after}
use Rattle.session.specs.declared.answers.Answer.{Answer}
use Rattle.session.specs.declared.answers.Answer.TheVariants.{Lines}
use Rattle.session.specs.declared.answers.End.{End}
use Rattle.session.specs.declared.answers.End.TheVariants.{OutFault}
use Rattle.session.specs.declared.line.Line.{Line}
use Rattle.session.specs.declared.modes.Mode.{Mode}
use Rattle.session.specs.declared.modes.Mode.TheVariants.{Ended}
use Rattle.session.specs.declared.sides.SideRecord.{SideRecord}
use Rattle.session.specs.Answered.{state_of, AnswersTrouble}
use Rattle.session.specs.Kept.{IsKept, AreKept}
use Rattle.session.specs.Events.{event_in, events_in, event_line}
use Rattle.session.specs.Rooms.{text_of, room_of, event_room}

-- ---- one side

abbrev pub event_on : SideRecord → Event → SideEvent
event_on side e = event_in side.inquiry.core.store e

abbrev pub kept_on : SideRecord → Option SideEvent
kept_on side = events_in side.inquiry.core.store side.row.kept

-- an event is kept as it came, or none is
abbrev pub IsNoneOr : Event → Option Event → Type 0
IsNoneOr e None = Unit {0}
IsNoneOr e (Some k) = k ≡ e

-- a side was resumed to an event, and its table, its frame and the event that it keeps stay
pub record Came (e : Event) (old new : SideRecord) : Type 0 where
  pub met : Met old.row e
  pub stands_at : new.row.stands_at ≡ stood old.row.kept old.row.stands_at e
  pub words : new.row.step_words.items ≡ words_left old.row e
  pub kept : new.row.kept ≡ old.row.kept
  pub breaks : new.row.breaks ≡ old.row.breaks
  pub table : new.inquiry ≡ old.inquiry
  pub frame : new.frame ≡ old.frame

-- what a resume leaves of a side that met an event, where this is the event of all sides
pub record Behind (all : SideEvent) (e : Event) (old new : SideRecord) : Type 0 where
  pub met : Met old.row e
  pub stands_at : new.row.stands_at ≡ stood old.row.kept old.row.stands_at e
  pub words : new.row.step_words.items ≡ words_left old.row e
  pub kept : kept_on new ≡ keeps all (event_on old e)
  pub own : IsNoneOr e new.row.kept
  pub breaks : new.row.breaks ≡ old.row.breaks
  pub table : new.inquiry ≡ old.inquiry
  pub frame : new.frame ≡ frame_after old.frame all

-- what a resume has not changed yet
abbrev pub StandsStill : (old new : SideRecord) → Type 0
StandsStill old new = (new.row.kept ≡ old.row.kept) × (new.row.stands_at ≡ old.row.stands_at)

-- a line with room for each event that a side may meet
abbrev pub HasRoomFor : SideRecord → Line → Type 0
HasRoomFor side line = (text_of line ≡ []) × ((e : Event) → Met side.row e → event_room (event_on side e) ≤ room_of line)

-- ---- one side or two

-- the event of all is that of the one side
pub record OneBehind (all : SideEvent) (a a' : SideRecord) : Type 0 where
  pub event : Event
  pub merges : all ≡ merged (event_on a event) None
  pub first : Behind all event a a'

-- the event of all is merged from those of both
pub record BothBehind (all : SideEvent) (a a' b b' : SideRecord) : Type 0 where
  pub event : Event
  pub other : Event
  pub merges : all ≡ merged (event_on a event) (Some (event_on b other))
  pub first : Behind all event a a'
  pub second : Behind all other b b'

abbrev pub AllBehind : (all : SideEvent) → (a a' : SideRecord) → (b b' : Option SideRecord) → Type 0
AllBehind all a a' None None = OneBehind all a a'
AllBehind all a a' (Some b) (Some b') = BothBehind all a a' b b'
AllBehind all a a' b b' = ⊥

-- of a second side, where there is one
abbrev pub OnSecond : (SideRecord → SideRecord → Type 0) → (old new : Option SideRecord) → Type 0
OnSecond P None None = Unit {0}
OnSecond P (Some a) (Some b) = P a b
OnSecond P a b = ⊥

-- ---- the session

-- an interrupted resume goes on under the command that began it
abbrev pub goes_on : State → Resume → Resume
goes_on (Running began) how = began
goes_on state how = how

-- What is done of a side before a resume: nothing before an interrupted one; before `continue` no word of a step is left.
abbrev pub ReadyFor : State → Resume → (old new : SideRecord) → Type 0
ReadyFor (Running began) how old new = new ≡ old
ReadyFor state ByContinue old new = IsKept old new × StandsStill old new × (new.row.step_words.items ≡ [])
ReadyFor state ByStep old new = IsKept old new × StandsStill old new

-- a resume that is begun: its line tells the event of all
pub record Tells (how : Resume) (old new : State) (a a' : SideRecord) (b b' : Option SideRecord) (answer : Result Answer End) : Type 0 where
  pub first : SideRecord
  pub second : Option SideRecord
  pub ready : ReadyFor old how a first × OnSecond (ReadyFor old how) b second
  pub all : SideEvent
  pub behind : AllBehind all first a' second b'
  pub line : answer ≡ Ok (Lines (event_line all))
  pub state : new ≡ state_after (goes_on old how) all

-- one that isn't begun: no memory, an error of the table, or a refusal
pub record IsUnbegun (old new : Mode) (a a' : SideRecord) (b b' : Option SideRecord) (answer : Result Answer End) : Type 0 where
  pub mode : new ≡ old
  pub kept : IsKept a a' × AreKept b b'
  pub still : StandsStill a a' × OnSecond StandsStill b b'
  pub trouble : AnswersTrouble answer

-- one whose link failed, or whose output couldn't be written
abbrev pub EndsSession : (broken : List ℕ) (new : Mode) → Result Answer End → Type 0
EndsSession broken new answer = (new ≡ Ended) × ((answer ≡ Ok (Lines broken)) ⊎ (answer ≡ Err OutFault))

-- How `continue` and `step` are answered, where their state doesn't refuse them. `silent` says that nothing was put into the output.
abbrev pub Resumes : (silent : Type 0) (how : Resume) (old new : Mode) (a a' : SideRecord) (b b' : Option SideRecord) (broken : List ℕ) → Result Answer End → Type 0
Resumes silent how old new a a' b b' broken answer =
    Tells how (state_of old) (state_of new) a a' b b' answer
    ⊎ ((IsUnbegun old new a a' b b' answer × silent) ⊎ EndsSession broken new answer)
