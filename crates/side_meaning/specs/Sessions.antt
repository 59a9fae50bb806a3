-- How the sides of a session stand for those of the machine session, from the start on, and what `continue` and `step` answer.
use Rattle.std.specs.Prelude.{◌≡◌, ◌⊎◌, ℕ, List, [], ◌∷◌, ◌++◌, Option, Some, None}
use Rattle.machine_state.specs.State.{MachineState, Behaviour, given_input}
use Rattle.ps_store.specs.StoreState.{StoreState}
use Rattle.debug_side.specs.declared.point.MachineKind.{MachineKind}
use Rattle.debug_side.specs.Told.{its_output}
use Rattle.steady_machines.specs.Steady.{RunsAreSteady}
use Rattle.dialect_model.specs.TableUse.{TableUse}
use Rattle.c_session.specs.Commands.{Resume, ByStep, ByContinue}
use Rattle.claims.specs.Side.{SideEvent, SideState, SessionState, State, Fresh, Stopped, Running, Ended, first_side}
use Rattle.claims.specs.Lines.{event_text}
use Rattle.claims.specs.Resumes.{merged, state_after}
use Rattle.claims.specs.Outcome as session
use Rattle.side_meaning.specs.Standing.{Debugged, event_in, no_objects, StandsFor, MayResume}
use Rattle.side_meaning.specs.Resuming.{event_of_it, IsResumed, IsFit}
use Rattle.side_meaning.specs.Stepping.{IsSettled, IsStepped, FindsWords, IsReady}
use Rattle.side_meaning.specs.Asking.{IsAsked}

-- ---- one side or two

pub record BothSides : Type 0 where
  pub first : Debugged
  pub second : Option Debugged

abbrev pub OnSecond : {A B : Type 0} → (A → B → Type 0) → Option A → Option B → Type 0
OnSecond P None None = Unit {0}
OnSecond P (Some x) (Some y) = P x y
OnSecond P None (Some y) = ⊥
OnSecond P (Some x) None = ⊥

abbrev pub IfSecond : {A : Type 0} → (A → Type 0) → Option A → Type 0
IfSecond P None = Unit {0}
IfSecond P (Some x) = P x

-- In an interrupted resume a side that goes on has the words that are known; where the session stands none are.
abbrev pub ByState : State → Debugged → SideState → Type 0
ByState (Running how) d a = MayResume d a
ByState Fresh d a = a.step_words ≡ []
ByState Stopped d a = a.step_words ≡ []
ByState Ended d a = Unit {0}

pub record StandsIn (state : State) (d : Debugged) (a : SideState) : Type 0 where
  pub stands : StandsFor d a
  pub words : ByState state d a

pub record SidesStand (s : BothSides) (st : SessionState) : Type 0 where
  pub first : StandsIn st.state s.first st.first
  pub second : OnSecond (StandsIn st.state) s.second st.second

-- ---- before a resume

abbrev pub Prepared : Resume → (d d' : Debugged) → SideState → Type 0
Prepared ByContinue d d' a = IsSettled d d'
Prepared ByStep d d' a = (u : TableUse) × (IsStepped d d' a.table u ⊎ FindsWords d d')

-- an interrupted resume goes on as it is
abbrev pub PreparedIn : State → Resume → (d d' : Debugged) → SideState → Type 0
PreparedIn (Running began) how d d' a = d' ≡ d
PreparedIn Fresh how d d' a = Prepared how d d' a
PreparedIn Stopped how d d' a = Prepared how d d' a
PreparedIn Ended how d d' a = ⊥

abbrev pub SecondPrepared : State → Resume → Option Debugged → Option Debugged → Option SideState → Type 0
SecondPrepared state how (Some d) (Some d') (Some a) = PreparedIn state how d d' a
SecondPrepared state how None None None = Unit {0}
SecondPrepared state how d d' a = ⊥

pub record ArePrepared (how : Resume) (s s' : BothSides) (st : SessionState) : Type 0 where
  pub first : PreparedIn st.state how s.first s'.first st.first
  pub second : SecondPrepared st.state how s.second s'.second st.second

-- ---- a resume of both

abbrev pub second_event : Behaviour → MachineKind → (limit : ℕ) → Option Debugged → Option SideEvent
second_event b other limit None = None
second_event b other limit (Some d) = Some (event_in d.table (event_of_it b other limit d))

-- the event of all is merged from those of both
pub record AreResumed (b : Behaviour) (kind other : MachineKind) (limit : ℕ) (all : SideEvent) (s s' : BothSides) : Type 0 where
  pub merges : all ≡ merged (event_in s.first.table (event_of_it b kind limit s.first)) (second_event b other limit s.second)
  pub first : IsResumed b kind limit all s.first s'.first
  pub second : OnSecond (IsResumed b other limit all) s.second s'.second

-- an interrupted resume goes on under the command that began it
abbrev pub goes_on : State → Resume → Resume
goes_on (Running began) how = began
goes_on Fresh how = how
goes_on Stopped how = how
goes_on Ended how = how

-- the machine session answers the event's line, its sides are those of this session again, and this output was put
pub record IsAnswered (b : Behaviour) (how : Resume) (all : SideEvent) (output : List ℕ) (s : BothSides) (st st' : SessionState) : Type 0 where
  pub answers : session.Resumes b how st st.state (event_text all ∷ []) st'
  pub sides : SidesStand s st'
  pub state : st'.state ≡ state_after (goes_on st.state how) all
  pub limit : st'.limit ≡ st.limit
  pub written : st'.written ≡ st.written ++ output

abbrev pub AreFit : (kind other : MachineKind) → BothSides → Type 0
AreFit kind other s = IsFit kind s.first × IfSecond (IsFit other) s.second

-- What `continue` and `step` do to the sides, where they are begun, is what the machine session answers.
abbrev pub ResumesAreAnswered : Type 0
ResumesAreAnswered =
    (b : Behaviour) (kind other : MachineKind) (how : Resume) (all : SideEvent) (s s' s'' : BothSides) (st : SessionState) → RunsAreSteady b → AreFit kind other s → SidesStand s st → ArePrepared how s s' st
    → AreResumed b kind other st.limit all s' s'' → (st' : SessionState) × IsAnswered b how all (its_output b kind s'.first.row st.limit s'.first.host) s'' st st'

-- ---- the start

-- a side for which nothing was done yet but that its nub was given the input
pub record IsNew (d : Debugged) (table : StoreState) (m : MachineState) : Type 0 where
  pub table_is : d.table ≡ table
  pub nothing : d.table.command ≡ no_objects
  pub frame : d.frame ≡ 0
  pub breaks : d.row.breaks.items ≡ []
  pub words : d.row.step_words.items ≡ []
  pub stands_at : d.row.stands_at ≡ None
  pub kept : d.row.kept ≡ None
  pub machine : d.host.machine ≡ m
  pub ended : d.host.nub.ended ≡ None

abbrev pub SidesBegin : Type 0
SidesBegin =
    (b : Behaviour) (input : List ℕ) (d : Debugged) (table : StoreState) (m : MachineState) → IsNew d table (given_input input (b.saved m).1).1 → StandsIn Fresh d (first_side b input table m)

-- ---- commands that don't resume

-- where a session stands, or was never resumed
abbrev pub IsStill : State → Type 0
IsStill Fresh = Unit {0}
IsStill Stopped = Unit {0}
IsStill (Running began) = ⊥
IsStill Ended = ⊥

abbrev pub AreReady : BothSides → SessionState → Type 0
AreReady s st = IsReady s.first st.first × OnSecond IsReady s.second st.second

-- Before it the words that a step left are taken away.
abbrev pub SidesSettle : Type 0
SidesSettle = (s s' : BothSides) (st : SessionState) → IsStill st.state → SidesStand s st → IsSettled s.first s'.first → OnSecond IsSettled s.second s'.second → SidesStand s' st × AreReady s' st

abbrev pub SecondAsked : Option Debugged → Option Debugged → Option SideState → Option SideState → Type 0
SecondAsked (Some d) (Some d') (Some a) (Some a') = IsAsked d d' a a'
SecondAsked None None None None = Unit {0}
SecondAsked d d' a a' = ⊥

-- Sides that a command left alike stand for those of the machine session.
abbrev pub AsksStand : Type 0
AsksStand =
    (s s' : BothSides) (st st' : SessionState) → IsStill st.state → SidesStand s st → AreReady s st → st'.state ≡ st.state → IsAsked s.first s'.first st.first st'.first → SecondAsked s.second s'.second st.second st'.second
    → SidesStand s' st' × AreReady s' st'

-- and so do they behind a new limit
abbrev pub LimitsStand : Type 0
LimitsStand = (s : BothSides) (st : SessionState) (n : ℕ) → SidesStand s st → SidesStand s (record st { limit = n })
