-- Which transcripts and outputs a session over a program may give.
use Rattle.std.specs.Prelude.{◌≡◌, ◌⊎◌, ℕ, ◌+◌, ◌*◌, ◌<◌, ◌≤◌, List, [], ◌∷◌, ◌++◌, length, Bool, true, Option, Some, None, codes}
use Rattle.std.specs.Fmt.{signed_decimal}
use Rattle.std.specs.List.{AllByRecursion}
use Rattle.runs.specs.Runs.{Next, Goes, Passes, Exits, Undefined, Why, Reason, Stale, Event, Exited, Failed, RunsTo, OnTheWay, count_of}
use Rattle.runs.specs.Runs as runs
use Rattle.c_tree.specs.declared.rows.Program.{Program}
use Rattle.c_session.specs.declared.command.Command.{Command}
use Rattle.c_session.specs.declared.command.Command.TheVariants as command
use Rattle.c_source.specs.Control.{State}
use Rattle.c_source.specs.Source.{step}
use Rattle.c_source.specs.Begin.{begin}
use Rattle.c_source.specs.Size.{need_of}
use Rattle.c_source.specs.Names.{stop_text}
use Rattle.c_show.specs.Shown.{Shows as TextShows, IsOneLine}
use Rattle.c_reading.specs.Readings.{Reading}
use Rattle.c_session.specs.Commands.{Session, Mode, Fresh, Stopped, Running, Ended, Resume, ByStep, ByContinue, Sides, Positions, One, Both, FirstAlone, SecondAlone, Refusal, refusal_text, Answer, Refuses, Says, Shows, Sets, ShowsAny, EndsClaim, Resumes, Quits, Raw, IllTyped, answer, ReadsLine, has}

abbrev pub Lines : Type 0
Lines = List (List ℕ)

-- a transcript as bytes: each line ends in LF
abbrev pub bytes_of : Lines → List ℕ
bytes_of [] = []
bytes_of (line ∷ lines) = line ++ 10 ∷ bytes_of lines

-- a session, and the output at its last reply
pub record Standing : Type 0 where
  pub session : Session
  pub written : List ℕ

abbrev pub output_of : State → List ℕ
output_of s = s.here.world.output

abbrev pub event_output : Event State → List ℕ
event_output (runs.Stopped q s) = output_of s
event_output (Exited n s) = output_of s
event_output (Failed w) = []

-- of the state after a step, or of the same one where there is no next
abbrev pub next_output : State → Next State → List ℕ
next_output s (Goes c t) = output_of t
next_output s (Passes q c t) = output_of t
next_output s (Exits n c t) = output_of t
next_output s (Undefined w) = output_of s

-- a point passed and an exit are events; an undefined step is none
abbrev pub IsEvent : Event State → Type 0
IsEvent (runs.Stopped q s) = Unit {0}
IsEvent (Exited n s) = Unit {0}
IsEvent (Failed w) = ⊥

-- what ends the claim: one of the four reasons, or a stale pointer that is used
abbrev pub IsBroken : Event State → Type 0
IsBroken (Failed (Reason u)) = Unit {0}
IsBroken (Failed Stale) = Unit {0}
IsBroken _ = ⊥

abbrev pub stops_by : List ℕ → Resume → ℕ → Bool
stops_by breaks ByStep q = true
stops_by breaks ByContinue q = has breaks q

abbrev pub IsPrefix : List ℕ → List ℕ → Type 0
IsPrefix xs ys = (rest : List ℕ) × (ys ≡ xs ++ rest)

-- any `value` line or refusal
abbrev IsAnyReply : List ℕ → Type 0
IsAnyReply line = ((text : List ℕ) × IsOneLine text × (line ≡ codes "value " ++ text)) ⊎ ((u : Refusal) × (line ≡ refusal_text u))

-- the reply to a command about machines or the debugger: so many lines, or one
abbrev pub IsRawReply : Option ℕ → Lines → Type 0
IsRawReply None reply = Unit {0}
IsRawReply (Some n) reply = ((length reply ≡ n) ⊎ (length reply ≡ 1)) × AllByRecursion IsOneLine reply

abbrev pub IsQuitLine : Option Command → Type 0
IsQuitLine (Some command.Quit) = Unit {0}
IsQuitLine c = ⊥

-- memory may be wanting for any line but `quit`, a malformed one among them, and nothing changes
abbrev pub MemoryReplies : Standing → Option Command → Lines → Standing → Type 0
MemoryReplies st c reply next = (IsQuitLine c → ⊥) × (reply ≡ codes "no memory" ∷ []) × (next ≡ st)

-- ---- a resume

module _ (p : Program) (stops : ℕ → Bool) where
  abbrev Meets : State → ℕ → Event State → Type 0
  Meets s count e = RunsTo State (step p) stops s count e

  abbrev Comes_by : State → ℕ → State → Type 0
  Comes_by s count q = OnTheWay State (step p) stops s count q

  -- no event follows, or it comes only after more than the limit over 128
  abbrev pub IsLate : (limit : ℕ) → State → Type 0
  IsLate limit s = (count : ℕ) (e : Event State) → Meets s count e → IsEvent e → limit < 128 * count

  -- the run from a state meets this event
  abbrev pub HasEvent : State → Event State → Type 0
  HasEvent s e = (count : ℕ) × Meets s count e

  -- The event of each side. A side without a position stands at it already.
  abbrev pub AllMeet : Event State → Positions → Type 0
  AllMeet e (One s) = HasEvent s e
  AllMeet e (Both s t) = HasEvent s e × HasEvent t e
  AllMeet e (FirstAlone s) = HasEvent s e
  AllMeet e (SecondAlone t) = HasEvent t e

  -- a side that is late is on its way to its event, and at least as many steps were made as the limit over 128
  abbrev pub IsUnderway : (limit : ℕ) → State → State → Type 0
  IsUnderway limit s q = IsLate limit s × (count : ℕ) × Comes_by s count q × (limit ≤ 128 * (count + count_of State (step p) (step p q)))

  -- a side comes to its event, and with this output
  abbrev pub IsOver : State → Type 0
  IsOver s = (e : Event State) × HasEvent s e × IsEvent e

  abbrev pub WritesToEvent : State → List ℕ → Type 0
  WritesToEvent s written = (e : Event State) × HasEvent s e × IsEvent e × (written ≡ event_output e)

  -- the output at a position is that of its state or of the next one
  abbrev pub Writes : State → List ℕ → Type 0
  Writes q written = (written ≡ output_of q) ⊎ (written ≡ next_output q (step p q))

  -- Where the sides stand after `turns`, and the output, which is the first side's: some at their event, and at least one, which is late, on its way to it.
  pub data Moves (limit : ℕ) (before : List ℕ) : Positions → Positions → (written : List ℕ) → Type 0 where
    one : (s q : State) (written : List ℕ) → IsUnderway limit s q → Writes q written → Moves limit before (One s) (One q) written
    both : (s t q u : State) (written : List ℕ) → IsUnderway limit s q → IsUnderway limit t u → Writes q written → Moves limit before (Both s t) (Both q u) written
    second_comes : (s t q : State) (written : List ℕ) → IsUnderway limit s q → IsOver t → Writes q written → Moves limit before (Both s t) (FirstAlone q) written
    first_comes : (s t u : State) (written : List ℕ) → WritesToEvent s written → IsUnderway limit t u → Moves limit before (Both s t) (SecondAlone u) written
    first_goes : (s q : State) (written : List ℕ) → IsUnderway limit s q → Writes q written → Moves limit before (FirstAlone s) (FirstAlone q) written
    second_goes : (t u : State) → IsUnderway limit t u → Moves limit before (SecondAlone t) (SecondAlone u) before

  -- some state between a side's position and its event needs more than the stack has
  abbrev pub IsTooDeep : State → Type 0
  IsTooDeep q = 1048576 < need_of p q

  -- a side stands at this state
  abbrev pub IsPosition : Positions → State → Type 0
  IsPosition (One s) u = s ≡ u
  IsPosition (Both s t) u = (s ≡ u) ⊎ (t ≡ u)
  IsPosition (FirstAlone s) u = s ≡ u
  IsPosition (SecondAlone t) u = t ≡ u

  abbrev pub GrowsDeep : Positions → Type 0
  GrowsDeep ps = (s q : State) × (count : ℕ) × IsPosition ps s × Comes_by s count q × IsTooDeep q

  -- the output of some state of a side up to its event
  abbrev pub WritesOnTheWay : Positions → List ℕ → Type 0
  WritesOnTheWay ps written = (s : State) × IsPosition ps s × (((count : ℕ) × (q : State) × Comes_by s count q × (written ≡ output_of q)) ⊎ WritesToEvent s written)

  -- with one side the output is that of such a state, and with two that of any state up to the event
  abbrev pub DeepWrites : Positions → List ℕ → Type 0
  DeepWrites (One s) written = (count : ℕ) × (q : State) × Comes_by s count q × IsTooDeep q × (written ≡ output_of q)
  DeepWrites ps written = GrowsDeep ps × WritesOnTheWay ps written

  -- the run meets an undefined step before its event
  abbrev pub IsDoomed : Positions → Type 0
  IsDoomed ps = (s : State) × (count : ℕ) × (e : Event State) × IsPosition ps s × Meets s count e × IsBroken e

-- ---- replies

module _ (p : Program) where
  abbrev pub event_text : Event State → List ℕ
  event_text (runs.Stopped q s) = stop_text p q
  event_text (Exited n s) = codes "exited " ++ signed_decimal n
  event_text (Failed w) = []

  abbrev pub after_event : Session → Event State → Session
  after_event session (runs.Stopped q s) = record session { mode = Stopped s; frame = 0 }
  after_event session _ = record session { mode = Ended }

  abbrev pub with_state : Mode → State → Mode
  with_state (Fresh s) t = Fresh t
  with_state (Stopped s) t = Stopped t
  with_state m t = m

  -- a resume's event, `turns` or `stack`; what was written before stays
  abbrev pub ResumeReplies : Standing → Resume → Positions → Lines → Standing → Type 0
  ResumeReplies st how ps reply next =
      let stops : ℕ → Bool = stops_by st.session.breaks how in
      ((e : Event State) × IsEvent e × AllMeet p stops e ps
      × (reply ≡ event_text e ∷ []) × (next ≡ record { session = after_event st.session e; written = event_output e }))
      ⊎ ((qs : Positions) × (written : List ℕ) × Moves p stops st.session.limit st.written ps qs written × IsPrefix st.written written
      × (reply ≡ codes "turns" ∷ []) × (next ≡ record { session = record st.session { mode = Running how qs }; written = written }))
      ⊎ ((written : List ℕ) × DeepWrites p stops ps written × IsPrefix st.written written
      × (reply ≡ codes "stack" ∷ []) × (next ≡ record { session = record st.session { mode = Ended }; written = written }))

  abbrev pub AnswerReplies : Standing → Answer → Lines → Standing → Type 0
  AnswerReplies st (Refuses u) reply next = (reply ≡ refusal_text u ∷ []) × (next ≡ st)
  AnswerReplies st (Says lines session) reply next = (reply ≡ lines) × (next ≡ record st { session = session })
  AnswerReplies st (Shows w t vs) reply next = ((text : List ℕ) × TextShows p w t vs text × (reply ≡ (codes "value " ++ text) ∷ [])) × (next ≡ st)
  AnswerReplies st (Sets s) reply next = (reply ≡ codes "set" ∷ []) × (next ≡ record st { session = record st.session { mode = with_state st.session.mode s } })
  AnswerReplies st ShowsAny reply next = ((line : List ℕ) × IsAnyReply line × (reply ≡ line ∷ [])) × (next ≡ st)
  AnswerReplies st (Resumes how ps) reply next = ResumeReplies st how ps reply next
  AnswerReplies st (Raw n) reply next = IsRawReply n reply × (next ≡ st)
  AnswerReplies st EndsClaim reply next = ⊥
  AnswerReplies st Quits reply next = ⊥
  AnswerReplies st IllTyped reply next = ⊥

  -- from here on nothing is claimed
  abbrev pub ClaimEnds : Standing → Answer → Type 0
  ClaimEnds st EndsClaim = Unit {0}
  ClaimEnds st (Resumes how ps) = IsDoomed p (stops_by st.session.breaks how) ps
  ClaimEnds st a = ⊥

  abbrev pub IsQuit : Answer → Type 0
  IsQuit Quits = Unit {0}
  IsQuit a = ⊥

-- ---- sessions

module _ (p : Program) (sides : Sides) where
  -- The lines from a standing on, with their transcript and the whole output. A line is a command or malformed. Commands about machines and the debugger are taken out with their replies, as if they changed nothing; one that runs PostScript may store in the target, and of a list with such a one nothing is promised.
  abbrev pub AllowedFrom : Standing → List (Option Command) → Lines → List ℕ → Type 0
  AllowedFrom st [] transcript output = (transcript ≡ []) × (output ≡ st.written)
  AllowedFrom st (c ∷ cs) transcript output =
      ((reply rest : Lines) × (next : Standing) × (transcript ≡ reply ++ rest) × MemoryReplies st c reply next × AllowedFrom next cs rest output)
      ⊎ ((x : Reading) × ReadsLine p sides st.session c x × (
      let a : Answer = answer p sides st.session x c in
      (IsQuit p a × (transcript ≡ []) × (output ≡ st.written))
      ⊎ (ClaimEnds p st a × IsPrefix st.written output)
      ⊎ ((reply rest : Lines) × (next : Standing) × (transcript ≡ reply ++ rest) × AnswerReplies p st a reply next × AllowedFrom next cs rest output)))

abbrev pub at_first : Program → (input : List ℕ) → Standing
at_first p input = record { session = record { mode = Fresh (begin p input); breaks = []; frame = 0; limit = 10000000 }; written = [] }

module _ (p : Program) (sides : Sides) where
  -- what a session over a program, an input and command lines may write
  abbrev pub Allowed : (input : List ℕ) → List (Option Command) → Lines → List ℕ → Type 0
  Allowed input commands transcript output = AllowedFrom p sides (at_first p input) commands transcript output
