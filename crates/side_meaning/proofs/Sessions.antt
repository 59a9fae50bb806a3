-- What `continue` and `step` answer, on one side or two.
use Rattle.std.proofs.Common.{◌≡◌, ◌≢◌, ◌∙◌, refl, sym, ap, subst, inl, ℕ, List, [], ◌∷◌, ◌++◌, Option, Some, None, Ok}
use Rattle.machine_state.specs.State.{Behaviour}
use Rattle.machine_state.specs.Sound.{IsMemory}
use Rattle.nub_wire.specs.Resumes.{Whole, run_from}
use Rattle.debug_side.specs.declared.point.MachineKind.{MachineKind}
use Rattle.debug_side.specs.Told.{its_output}
use Rattle.steady_machines.specs.Steady.{RunsAreSteady}
use Rattle.c_session.specs.Commands.{Resume, ByStep, ByContinue}
use Rattle.claims.specs.Side.{SideEvent, Stops, Pauses, Exits, Faults, OutOfTurns, OutOfStack, SideState, SessionState, State, Fresh, Stopped, Running, Ended}
use Rattle.claims.specs.Lines.{event_text}
use Rattle.claims.specs.Resumes.{SideRun, past_no_op, event_by, after_event, resume_side, merged_with, merged, side_after, state_after, Resumed, resumed}
use Rattle.claims.specs.Outcome as session
use Rattle.side_meaning.specs.Standing.{Debugged, StandsFor, MayResume}
use Rattle.side_meaning.specs.Resuming.{IsResumed, IsMeant, IsFit}
use Rattle.side_meaning.specs.Stepping.{StepsAreUndone, StepsAreAgain, IsReady}
use Rattle.side_meaning.specs.Sessions.{BothSides, OnSecond, IfSecond, ByState, StandsIn, SidesStand, Prepared, PreparedIn, SecondPrepared, second_event, AreResumed, goes_on, AreFit, ResumesAreAnswered}
use Rattle.side_meaning.proofs.Resuming.{run_side, kept_side}
use Rattle.side_meaning.proofs.Behind.{resumes}
use Rattle.side_meaning.proofs.Beginning.{continues, steps_begin, settled_fit, begun_fit}

-- ---- where the session stands no side ran out of its turns

abbrev IsStop : SideEvent → Type 0
IsStop (Stops p) = Unit {0}
IsStop (Pauses pc) = Unit {0}
IsStop (Exits status) = ⊥
IsStop (Faults fault pc) = ⊥
IsStop OutOfTurns = ⊥
IsStop OutOfStack = ⊥

first_no_turns : (y : SideEvent) → IsStop (merged_with OutOfTurns y) → ⊥
first_no_turns (Stops p) h = h
first_no_turns (Pauses pc) h = h
first_no_turns (Exits status) h = h
first_no_turns (Faults fault pc) h = h
first_no_turns OutOfTurns h = h
first_no_turns OutOfStack h = h

second_no_turns : (x : SideEvent) → IsStop (merged_with x OutOfTurns) → ⊥
second_no_turns (Stops p) h = h
second_no_turns (Pauses pc) h = h
second_no_turns (Exits status) h = h
second_no_turns (Faults fault pc) h = h
second_no_turns OutOfTurns h = h
second_no_turns OutOfStack h = h

no_turns_first : (x : SideEvent) (o : Option SideEvent) → IsStop (merged x o) → x ≢ OutOfTurns
no_turns_first x None h e = subst IsStop e h
no_turns_first x (Some y) h e = first_no_turns y (subst (λ (z : SideEvent). IsStop (merged_with z y)) e h)

no_turns_second : (x y : SideEvent) → IsStop (merged_with x y) → y ≢ OutOfTurns
no_turns_second x y h e = second_no_turns x (subst (λ (z : SideEvent). IsStop (merged_with x z)) e h)

gone_by : (v : SideEvent) (x : SideState) → v ≢ OutOfTurns → (after_event v x).step_words ≡ []
gone_by (Stops p) x h = refl
gone_by (Pauses pc) x h = refl
gone_by (Exits status) x h = refl
gone_by (Faults fault pc) x h = refl
gone_by OutOfTurns x h = absurd (h refl)
gone_by OutOfStack x h = refl

words_gone : (b : Behaviour) (limit : ℕ) (a : SideState) (k : Option SideEvent) → a.kept ≡ k → (resume_side b limit a).event ≢ OutOfTurns → (resume_side b limit a).side.step_words ≡ []
words_gone b limit a None e h =
    let w : Whole = run_from b limit (past_no_op a.stands_at a.machine) in
    let is = run_side b limit a e in
    ap (λ (r : SideRun). r.side.step_words) is ∙ gone_by (event_by a w.ending) (record a { machine = w.machine }) (λ t. h (ap (λ (r : SideRun). r.event) is ∙ t))
words_gone b limit a (Some k) e h = ap (λ (r : SideRun). r.side.step_words) (kept_side b limit a k e)

state_words : (how : Resume) (b : Behaviour) (limit : ℕ) (d : Debugged) (a : SideState) (all : SideEvent) → (all ≡ OutOfTurns → MayResume d (side_after all (resume_side b limit a))) → (IsStop all → (resume_side b limit a).event ≢ OutOfTurns)
    → ByState (state_after how all) d (side_after all (resume_side b limit a))
state_words how b limit d a (Stops p) m h = words_gone b limit a a.kept refl (h tt)
state_words how b limit d a (Pauses pc) m h = words_gone b limit a a.kept refl (h tt)
state_words how b limit d a (Exits status) m h = tt
state_words how b limit d a (Faults fault pc) m h = tt
state_words how b limit d a OutOfTurns m h = m refl
state_words how b limit d a OutOfStack m h = tt

-- ---- the machine session's resume

abbrev run_if : Behaviour → ℕ → Option SideState → Option SideRun
run_if b limit None = None
run_if b limit (Some a) = Some (resume_side b limit a)

abbrev event_if : Option SideRun → Option SideEvent
event_if None = None
event_if (Some w) = Some w.event

abbrev after_if : SideEvent → Option SideRun → Option SideState
after_if all o = elim o [ None ↦ None | Some w ↦ Some (side_after all w) ]

abbrev made : Resume → SessionState → SideRun → Option SideRun → SideEvent → Resumed
made how st w o all = record {
  lines = event_text all ∷ [];
  session = record { first = side_after all w; second = after_if all o; state = state_after how all; limit = st.limit; written = st.written ++ w.output };
}

resumed_is : (b : Behaviour) (how : Resume) (st : SessionState) → let w = resume_side b st.limit st.first in resumed b how st ≡ made how st w (run_if b st.limit st.second) (merged w.event (event_if (run_if b st.limit st.second)))
unfolding resumed
resumed_is b how st = refl

-- ---- the sides behind it

-- a side that may be resumed
pub record MayGo (d : Debugged) (a : SideState) : Type 0 where
  pub stands : StandsFor d a
  pub may : MayResume d a

module _ (again : StepsAreAgain) (b : Behaviour) (steady : RunsAreSteady b) (how : Resume) (limit : ℕ) (all : SideEvent) where
  side_meant : (kind : MachineKind) (d d' : Debugged) (a : SideState) → IsFit kind d → MayGo d a → IsResumed b kind limit all d d' → IsMeant b kind limit all d d' (resume_side b limit a)
  side_meant kind d d' a fit go g = resumes again b kind limit all d d' a steady fit go.stands go.may g

  side_behind : (kind : MachineKind) (d d' : Debugged) (a : SideState) → IsMeant b kind limit all d d' (resume_side b limit a) → (IsStop all → (resume_side b limit a).event ≢ OutOfTurns) → StandsIn (state_after how all) d' (side_after all (resume_side b limit a))
  side_behind kind d d' a m h = record { stands = m.stands; words = state_words how b limit d' a all m.goes_on h }

  module _ (other : MachineKind) where
    second_meets : (o o' : Option Debugged) (oa : Option SideState) → IfSecond (IsFit other) o → OnSecond MayGo o oa → OnSecond (IsResumed b other limit all) o o' → second_event b other limit o ≡ event_if (run_if b limit oa)
    second_meets None None None fit go g = refl
    second_meets (Some d) (Some d') (Some a) fit go g = ap Some (side_meant other d d' a fit go g).event
    second_meets None None (Some a) fit go g = absurd go
    second_meets None (Some d') oa fit go g = absurd g
    second_meets (Some d) None oa fit go g = absurd g
    second_meets (Some d) (Some d') None fit go g = absurd go

    second_behind : (o o' : Option Debugged) (oa : Option SideState) (x : SideEvent) → IfSecond (IsFit other) o → OnSecond MayGo o oa → OnSecond (IsResumed b other limit all) o o' → all ≡ merged x (event_if (run_if b limit oa))
        → OnSecond (StandsIn (state_after how all)) o' (after_if all (run_if b limit oa))
    second_behind None None None x fit go g e = tt
    second_behind (Some d) (Some d') (Some a) x fit go g e =
        side_behind other d d' a (side_meant other d d' a fit go g) (λ h. no_turns_second x (resume_side b limit a).event (subst IsStop e h))
    second_behind None None (Some a) x fit go g e = absurd go
    second_behind None (Some d') oa x fit go g e = absurd g
    second_behind (Some d) None oa x fit go g e = absurd g
    second_behind (Some d) (Some d') None x fit go g e = absurd go

-- ---- a whole resume

pub record Came (kind : MachineKind) (b : Behaviour) (how : Resume) (all : SideEvent) (s s' : BothSides) (st : SessionState) (r : Resumed) : Type 0 where
  pub lines : r.lines ≡ event_text all ∷ []
  pub sides : SidesStand s' r.session
  pub state : r.session.state ≡ state_after how all
  pub limit : r.session.limit ≡ st.limit
  pub written : r.session.written ≡ st.written ++ its_output b kind s.first.row st.limit s.first.host

module _ (again : StepsAreAgain) (b : Behaviour) (steady : RunsAreSteady b) (kind other : MachineKind) (how : Resume) (all : SideEvent) (s s' : BothSides) where
  came : (st : SessionState) → AreFit kind other s → MayGo s.first st.first → OnSecond MayGo s.second st.second → AreResumed b kind other st.limit all s s' → Came kind b how all s s' st (resumed b how st)
  came st fit first second g =
      let n : ℕ = st.limit in
      let w : SideRun = resume_side b n st.first in
      let o : Option SideRun = run_if b n st.second in
      let m = side_meant again b steady how n all kind s.first s'.first st.first fit.0 first g.first in
      let merges : all ≡ merged w.event (event_if o) =
      g.merges ∙ (ap (λ (x : SideEvent). merged x (second_event b other n s.second)) m.event ∙ ap (merged w.event) (second_meets again b steady how n all other s.second s'.second st.second fit.1 second g.second)) in
      let is : resumed b how st ≡ made how st w o all = resumed_is b how st ∙ ap (made how st w o) (sym merges) in
      subst (Came kind b how all s s' st) (sym is)
      (record {
        lines = refl;
        sides = record {
          first = side_behind again b steady how n all kind s.first s'.first st.first m (λ h. no_turns_first w.event (event_if o) (subst IsStop merges h));
          second = second_behind again b steady how n all other s.second s'.second st.second w.event fit.1 second g.second merges;
        };
        state = refl;
        limit = refl;
        written = ap (λ (l : List ℕ). st.written ++ l) (sym m.output);
      })

-- ---- before it

-- a side on which no words are known
pub record Still (d : Debugged) (a : SideState) : Type 0 where
  pub stands : StandsFor d a
  pub none : a.step_words ≡ []

-- it is ready in both
pub record Ready (how : Resume) (d' : Debugged) (a : SideState) : Type 0 where
  pub result : SideState
  pub side : SideState
  pub prepares : session.Prepares how a (Ok result) side
  pub go : MayGo d' side

ready_of : (how : Resume) (d' : Debugged) (a x a' : SideState) → session.Prepares how a (Ok x) a' → IsReady d' a' → Ready how d' a
ready_of how d' a x a' p r = record { result = x; side = a'; prepares = p; go = record { stands = r.stands; may = λ k. r.planted } }

side_ready : StepsAreUndone → (how : Resume) (d d' : Debugged) (a : SideState) → IsMemory d.host.machine.memory → Still d a → Prepared how d d' a → Ready how d' a
side_ready undone ByContinue d d' a m h g = let c = continues d d' a h.stands h.none g in ready_of ByContinue d' a a a c.0 c.1
side_ready undone ByStep d d' a m h g = let c = steps_begin undone d d' a g.0 m h.stands h.none g.1 in ready_of ByStep d' a c.0 c.1 c.2 c.3

side_fit : (how : Resume) (kind : MachineKind) (d d' : Debugged) (a : SideState) → IsFit kind d → Prepared how d d' a → IsFit kind d'
side_fit ByContinue kind d d' a f g = settled_fit kind d d' f g
side_fit ByStep kind d d' a f g = begun_fit kind d d' a.table g.0 f g.1

abbrev SecondReady : Resume → Option Debugged → Option SideState → Type 0
SecondReady how None None = Unit {0}
SecondReady how (Some d) (Some a) = Ready how d a
SecondReady how None (Some a) = ⊥
SecondReady how (Some d) None = ⊥

module _ (how : Resume) (state : State) (to : (d d' : Debugged) (a : SideState) → PreparedIn state how d d' a → Prepared how d d' a) (still : (d : Debugged) (a : SideState) → StandsIn state d a → Still d a) where
  second_ready : StepsAreUndone → (other : MachineKind) (o o' : Option Debugged) (oa : Option SideState) → IfSecond (IsFit other) o → OnSecond (StandsIn state) o oa → SecondPrepared state how o o' oa → SecondReady how o' oa × IfSecond (IsFit other) o'
  second_ready undone other None None None f h g = (tt, tt)
  second_ready undone other (Some d) (Some d') (Some a) f h g = (side_ready undone how d d' a f.memory (still d a h) (to d d' a g), side_fit how other d d' a f (to d d' a g))
  second_ready undone other None (Some d') oa f h g = absurd g
  second_ready undone other (Some d) None oa f h g = absurd g
  second_ready undone other None None (Some a) f h g = absurd g
  second_ready undone other (Some d) (Some d') None f h g = absurd g

-- both are begun
module _ (again : StepsAreAgain) (b : Behaviour) (steady : RunsAreSteady b) (kind other : MachineKind) (how : Resume) (all : SideEvent) (s s' : BothSides) (st : SessionState) (fit : AreFit kind other s) (g : AreResumed b kind other st.limit all s s') (ready : Ready how s.first st.first) where
  pub record Begun : Type 0 where
    pub next : SessionState
    pub begins : session.Begins b how st (event_text all ∷ []) next
    pub sides : SidesStand s' next
    pub state : next.state ≡ state_after how all
    pub limit : next.limit ≡ st.limit
    pub written : next.written ≡ st.written ++ its_output b kind s.first.row st.limit s.first.host

  begun_one : st.second ≡ None → OnSecond MayGo s.second None → Begun
  begun_one e go =
      let now : SessionState = record st { first = ready.side } in
      let c = came again b steady kind other how all s s' now fit ready.go (subst (OnSecond MayGo s.second) (sym e) go) g in
      record {
        next = (resumed b how now).session;
        begins = (
          Ok ready.result,
          ready.side,
          ready.prepares,
          subst (λ (o : Option SideState). session.FirstPrepared b how st (Ok ready.result) ready.side o (event_text all ∷ []) (resumed b how now).session) (sym e) (sym c.lines, refl),
        );
        sides = c.sides;
        state = c.state;
        limit = c.limit;
        written = c.written;
      }

  begun_two : (y : SideState) → st.second ≡ Some y → (d : Debugged) → s.second ≡ Some d → Ready how d y → Begun
  begun_two y e d is second =
      let now : SessionState = record st { first = ready.side; second = Some second.side } in
      let c = came again b steady kind other how all s s' now fit ready.go (subst (λ (o : Option Debugged). OnSecond MayGo o (Some second.side)) (sym is) second.go) g in
      record {
        next = (resumed b how now).session;
        begins = (
          Ok ready.result,
          ready.side,
          ready.prepares,
          subst (λ (o : Option SideState). session.FirstPrepared b how st (Ok ready.result) ready.side o (event_text all ∷ []) (resumed b how now).session) (sym e)
              (Ok second.result, second.side, second.prepares, (sym c.lines, refl)),
        );
        sides = c.sides;
        state = c.state;
        limit = c.limit;
        written = c.written;
      }

  begun_by : (o : Option Debugged) (oa : Option SideState) → s.second ≡ o → st.second ≡ oa → SecondReady how o oa → Begun
  begun_by None None i e h = begun_one e (subst (λ (o : Option Debugged). OnSecond MayGo o None) (sym i) tt)
  begun_by (Some d) (Some y) i e h = begun_two y e d i h
  begun_by None (Some y) i e h = absurd h
  begun_by (Some d) None i e h = absurd h

  pub begun : SecondReady how s.second st.second → Begun
  begun h = begun_by s.second st.second refl refl h

-- ---- by the state

module _ (undone : StepsAreUndone) (again : StepsAreAgain) (b : Behaviour) (kind other : MachineKind) (how : Resume) (all : SideEvent) (s s' s'' : BothSides) (st : SessionState) (steady : RunsAreSteady b) (fit : AreFit kind other s) (g : AreResumed b kind other st.limit all s' s'') where
  -- the answer in a state
  pub record Answered (state : State) : Type 0 where
    pub next : SessionState
    pub answers : session.Resumes b how st state (event_text all ∷ []) next
    pub sides : SidesStand s'' next
    pub state_is : next.state ≡ state_after (goes_on state how) all
    pub limit : next.limit ≡ st.limit
    pub written : next.written ≡ st.written ++ its_output b kind s'.first.row st.limit s'.first.host

  module _ (state : State) (to : (d d' : Debugged) (a : SideState) → PreparedIn state how d d' a → Prepared how d d' a) (still : (d : Debugged) (a : SideState) → StandsIn state d a → Still d a)
      (first : StandsIn state s.first st.first) (second : OnSecond (StandsIn state) s.second st.second) (one : PreparedIn state how s.first s'.first st.first) (two : SecondPrepared state how s.second s'.second st.second) where
    begun_in : Begun again b steady kind other how all s' s'' st
        (side_fit how kind s.first s'.first st.first fit.0 (to s.first s'.first st.first one), (second_ready how state to still undone other s.second s'.second st.second fit.1 second two).1) g
        (side_ready undone how s.first s'.first st.first fit.0.memory (still s.first st.first first) (to s.first s'.first st.first one))
    begun_in =
        begun again b steady kind other how all s' s'' st
        (side_fit how kind s.first s'.first st.first fit.0 (to s.first s'.first st.first one), (second_ready how state to still undone other s.second s'.second st.second fit.1 second two).1) g
        (side_ready undone how s.first s'.first st.first fit.0.memory (still s.first st.first first) (to s.first s'.first st.first one))
        (second_ready how state to still undone other s.second s'.second st.second fit.1 second two).0

  going : (began : Resume) (o o' : Option Debugged) (oa : Option SideState) → IfSecond (IsFit other) o → OnSecond (StandsIn (Running began)) o oa → SecondPrepared (Running began) how o o' oa → OnSecond MayGo o' oa × IfSecond (IsFit other) o'
  going began None None None f h e = (tt, tt)
  going began (Some d) (Some d') (Some a) f h e = (subst (λ (z : Debugged). MayGo z a) (sym e) (record { stands = h.stands; may = h.words }), subst (IsFit other) (sym e) f)
  going began None (Some d') oa f h e = absurd e
  going began (Some d) None oa f h e = absurd e
  going began None None (Some a) f h e = absurd e
  going began (Some d) (Some d') None f h e = absurd e

  answered : (state : State) → StandsIn state s.first st.first → OnSecond (StandsIn state) s.second st.second → PreparedIn state how s.first s'.first st.first → SecondPrepared state how s.second s'.second st.second → Answered state
  answered Fresh first second one two =
      let r = begun_in Fresh (λ d d' a h. h) (λ d a h. record { stands = h.stands; none = h.words }) first second one two in
      record { next = r.next; answers = r.begins; sides = r.sides; state_is = r.state; limit = r.limit; written = r.written }
  answered Stopped first second one two =
      let r = begun_in Stopped (λ d d' a h. h) (λ d a h. record { stands = h.stands; none = h.words }) first second one two in
      record { next = r.next; answers = r.begins; sides = r.sides; state_is = r.state; limit = r.limit; written = r.written }
  answered (Running began) first second one two =
      let go : MayGo s'.first st.first = subst (λ (z : Debugged). MayGo z st.first) (sym one) (record { stands = first.stands; may = first.words }) in
      let more = going began s.second s'.second st.second fit.1 second two in
      let c = came again b steady kind other began all s' s'' st (subst (IsFit kind) (sym one) fit.0, more.1) go more.0 g in
      record { next = (resumed b began st).session; answers = inl (sym c.lines, refl); sides = c.sides; state_is = c.state; limit = c.limit; written = c.written }
  answered Ended first second one two = absurd one

pub resumes_answered : StepsAreUndone → StepsAreAgain → ResumesAreAnswered
resumes_answered undone again b kind other how all s s' s'' st steady fit sides ready g =
    let r = answered undone again b kind other how all s s' s'' st steady fit g st.state sides.first sides.second ready.first ready.second in
    (r.next, record { answers = r.answers; sides = r.sides; state = r.state_is; limit = r.limit; written = r.written })
