-- A session computed: one side, enough turns and memory, each run given so many steps.
use Rattle.std.proofs.Common.{ℕ, List, [], ◌∷◌, ◌++◌, Bool, true, false, Option, Some, None, ◌≡◌}
use Rattle.std.specs.Prelude.{codes, bytes_eq, ◌==◌, ◌&&◌, ◌||◌, nat_le, if◌then◌else◌}
use Rattle.std.specs.List.{list_all}
use Rattle.std.specs.Fmt.{digits}
use Rattle.c_store.specs.Store.{is_stale, load, store, moved, load_struct, store_struct}
use Rattle.c_store.specs.Frames.{made, left}
use Rattle.c_source.specs.Operators.{combined, changed}
use Rattle.c_tree.specs.declared.rows.Program.{Program}
use Rattle.runs.specs.Runs.{Course, Comes, Failed, until}
use Rattle.c_session.specs.declared.command.Command.{Command}
use Rattle.c_session.specs.declared.command.Command.TheVariants as command
use Rattle.c_store.specs.Frames.{ActivationRecord}
use Rattle.c_source.specs.Control.{State}
use Rattle.c_source.specs.Source.{step}
use Rattle.c_show.specs.Printed.{shown}
use Rattle.c_show.specs.Shown.{showing}
use Rattle.c_reading.specs.Readings.{Use, AsValue, AsAssignment, Reading, Unread, BadSyntax}
use Rattle.c_session.specs.Commands.{Mode, Stopped, OneSide, Positions, One, chosen, point_of, Resume, refusal_text, Answer, Refuses, Says, Shows, Sets, ShowsAny, EndsClaim, Resumes, Quits, Raw, answer, IllTyped}
use Rattle.c_session.specs.Allowed.{Lines, Standing, event_text, event_output, after_event, at_first, stops_by, with_state}

-- what a session computes with
unfoldable pub computing : ℕ
unfolding digits is_stale load store moved load_struct store_struct made left combined changed
computing = 0

-- the lines of a session and its output
pub record Session : Type 0 where
  pub lines : Lines
  pub output : List ℕ

pub record Reply : Type 0 where
  pub lines : Lines
  pub next : Standing

-- texts at a point with what they are read as
pub record Text : Type 0 where
  pub point : ℕ
  pub text : List ℕ
  pub reading : Reading

abbrev read_from : List Text → ℕ → List ℕ → Reading
read_from [] q text = Unread BadSyntax
read_from (t ∷ ts) q text = if (t.point == q) && bytes_eq t.text text then t.reading else read_from ts q text

-- what some texts are read as
pub record Reader : Type 0 where
  pub values : List Text
  pub assignments : List Text

-- these are the expressions and assignments
abbrev pub reader : List Text → List Text → Reader
reader values assignments = record { values = values; assignments = assignments }

abbrev pub read : Reader → Use → ℕ → List ℕ → Reading
read r AsValue q text = read_from r.values q text
read r AsAssignment q text = read_from r.assignments q text

module _ (p : Program) (r : Reader) (session : Standing) where
  abbrev pub read_at : Use → List ℕ → Option ActivationRecord → Reading
  read_at u text None = Unread BadSyntax
  read_at u text (Some a) = read r u (point_of p OneSide session.session a) text

  abbrev pub read_in : Mode → Command → Reading
  read_in (Stopped s) (command.Eval text) = read_at AsValue text (chosen p OneSide session.session s)
  read_in (Stopped s) (command.Assign text) = read_at AsAssignment text (chosen p OneSide session.session s)
  read_in m c = Unread BadSyntax

  abbrev pub read_line : Option Command → Reading
  read_line None = Unread BadSyntax
  read_line (Some c) = read_in session.session.mode c

module _ (p : Program) (r : Reader) (fuel : ℕ) where
  abbrev pub by_course : Standing → Course State → Reply
  by_course st (Comes c (Failed w)) = record { lines = codes "no event" ∷ []; next = st }
  by_course st (Comes c e) = record { lines = event_text p e ∷ []; next = record { session = after_event p st.session e; written = event_output e } }
  by_course st _ = record { lines = codes "no event" ∷ []; next = st }

  abbrev pub by_positions : Standing → Resume → Positions → Reply
  by_positions st how (One s) = by_course st (until State (step p) (stops_by st.session.breaks how) fuel s)
  by_positions st how _ = record { lines = codes "no side" ∷ []; next = st }

  abbrev pub by_answer : Standing → Answer → Reply
  by_answer st (Refuses u) = record { lines = refusal_text u ∷ []; next = st }
  by_answer st (Says lines session) = record { lines = lines; next = record st { session = session } }
  by_answer st (Shows w t vs) = record { lines = (codes "value " ++ shown p.defs t (showing p w (λ n. codes "0") 0 vs)) ∷ []; next = st }
  by_answer st (Sets s) = record { lines = codes "set" ∷ []; next = record st { session = record st.session { mode = with_state p st.session.mode s } } }
  by_answer st (Resumes how ps) = by_positions st how ps
  by_answer st ShowsAny = record { lines = codes "value 0" ∷ []; next = st }
  by_answer st (Raw n) = record { lines = codes "raw" ∷ []; next = st }
  by_answer st EndsClaim = record { lines = codes "the claim ends" ∷ []; next = st }
  by_answer st Quits = record { lines = []; next = st }
  by_answer st IllTyped = record { lines = codes "ill-typed" ∷ []; next = st }

  abbrev pub then_lines : Lines → Session → Session
  then_lines lines s = record s { lines = lines ++ s.lines }

  abbrev pub ends : Answer → Bool
  ends Quits = true
  ends EndsClaim = true
  ends a = false

  abbrev pub going_on : Bool → Session → Session → Session
  going_on true s t = s
  going_on false s t = t

  abbrev pub from : Standing → List (Option Command) → Session
  from st [] = record { lines = []; output = st.written }
  from st (c ∷ cs) =
      let a = answer p OneSide st.session (read_line p r st c) c in
      let reply = by_answer st a in
      going_on (ends a) (record { lines = reply.lines; output = st.written }) (then_lines reply.lines (from reply.next cs))

  abbrev pub session : List ℕ → List (Option Command) → Session
  session input cs = from (at_first p input) cs
