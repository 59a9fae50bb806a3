-- What a session computes is allowed, where its texts are what they are read as, each run that it makes meets an event and nothing stale is assigned.
use Rattle.std.proofs.Common.{◌≡◌, refl, arith, ℕ, List, [], ◌∷◌, ◌++◌, false, Option, Some, None, inl, inr}
use Rattle.std.specs.Prelude.{codes, ◌⊎◌, ◌≢◌}
use Rattle.std.specs.List.{AllByRecursion}
use Rattle.c_tree.specs.declared.rows.Program.{Program}
use Rattle.runs.specs.Runs.{Course, Going, Comes, Stopped, Exited, Failed, until}
use Rattle.c_session.specs.declared.command.Command.{Command}
use Rattle.c_source.specs.Control.{State}
use Rattle.c_source.specs.Source.{step}
use Rattle.c_show.specs.Shown.{null}
use Rattle.c_reading.specs.Readings.{Use, AsValue, AsAssignment}
use Rattle.c_session.specs.Commands.{Mode, OneSide, Positions, One, Both, FirstAlone, SecondAlone, Resume, Answer, Refuses, Says, Shows, Sets, ShowsAny, EndsClaim, Resumes, Quits, Raw, answer, chosen, ReadsAt, ReadsIn, ReadsLine, IllTyped}
use Rattle.c_session.specs.Commands as mode
use Rattle.c_session.specs.declared.command.Command.TheVariants as command
use Rattle.c_store.specs.Frames.{ActivationRecord}
use Rattle.c_session.specs.Allowed.{Lines, Standing, IsEvent, stops_by, AllowedFrom, Allowed, AnswerReplies, ResumeReplies, ClaimEnds, IsQuit, IsPrefix, at_first}
use Rattle.c_session.proofs.Computed.{Session, Reader, read_line, by_course, by_positions, by_answer, then_lines, ends, going_on, from, session}

module _ (p : Program) (r : Reader) (fuel : ℕ) where
  abbrev HasEvent : Course State → Type 0
  HasEvent (Going c s) = ⊥
  HasEvent (Comes c e) = IsEvent e

  abbrev HasRun : Standing → Resume → Positions → Type 0
  HasRun st how (One s) = HasEvent (until State (step p) (stops_by st.session.breaks how) fuel s)
  HasRun st how _ = ⊥

  -- an answer is computed to its end
  abbrev IsWhole : Standing → Answer → Type 0
  IsWhole st (Resumes how ps) = HasRun st how ps
  IsWhole st EndsClaim = ⊥
  IsWhole st IllTyped = ⊥
  IsWhole st a = Unit {0}

  -- each text is what the reader has for it, and each answer is computed to its end
  abbrev AreWhole : Standing → List (Option Command) → Type 0
  AreWhole st [] = Unit {0}
  AreWhole st (c ∷ cs) =
      let a : Answer = answer p OneSide st.session (read_line p r st c) c in
      ReadsLine p OneSide st.session c (read_line p r st c) × IsWhole st a × AreWhole (by_answer p r fuel st a).next cs

  by_run : (st : Standing) (how : Resume) (s : State) (o : Course State) → until State (step p) (stops_by st.session.breaks how) fuel s ≡ o → HasEvent o
      → ResumeReplies p st how (One s) (by_course p r fuel st o).lines (by_course p r fuel st o).next
  by_run st how s (Going c t) e h = absurd h
  by_run st how s (Comes c (Stopped q t)) e h = inl (Stopped q t, tt, (c, (fuel, e)), refl, refl)
  by_run st how s (Comes c (Exited n t)) e h = inl (Exited n t, tt, (c, (fuel, e)), refl, refl)
  by_run st how s (Comes c (Failed w)) e h = absurd h

  by_sides : (st : Standing) (how : Resume) (ps : Positions) → HasRun st how ps
      → ResumeReplies p st how ps (by_positions p r fuel st how ps).lines (by_positions p r fuel st how ps).next
  by_sides st how (One s) h = by_run st how s _ refl h
  by_sides st how (Both s t) h = absurd h
  by_sides st how (FirstAlone s) h = absurd h
  by_sides st how (SecondAlone t) h = absurd h

  no_lf : AllByRecursion (λ c. c ≢ 10) (codes "0")
  no_lf = (omega arith, tt)

  -- a command that is no `quit`
  by_any : (st : Standing) (a : Answer) → IsWhole st a → ends p r fuel a ≡ false → AnswerReplies p st a (by_answer p r fuel st a).lines (by_answer p r fuel st a).next
  by_any st (Refuses u) h e = (refl, refl)
  by_any st (Says lines after) h e = (refl, refl)
  by_any st (Shows w t vs) h e = ((_, (λ n. codes "0", λ n. (null, no_lf), refl), refl), refl)
  by_any st (Sets s) h e = (refl, refl)
  by_any st (Resumes how ps) h e = by_sides st how ps h
  by_any st ShowsAny h e = ((_, inl (codes "0", no_lf, refl), refl), refl)
  by_any st (Raw None) h e = (tt, refl)
  by_any st (Raw (Some n)) h e = ((inr refl, ((omega arith, (omega arith, (omega arith, tt))), tt)), refl)
  by_any st EndsClaim h e = absurd h
  by_any st IllTyped h e = absurd h
  by_any st Quits h e = cc

  abbrev Goes_on : Standing → List (Option Command) → Answer → Type 0
  Goes_on st cs a =
      let reply = by_answer p r fuel st a in
      AllowedFrom p OneSide reply.next cs (from p r fuel reply.next cs).lines (from p r fuel reply.next cs).output

  -- what is allowed of one command and the ones after it
  abbrev Allows : Standing → List (Option Command) → Answer → Lines → List ℕ → Type 0
  Allows st cs a transcript output =
      (IsQuit p a × (transcript ≡ []) × (output ≡ st.written))
      ⊎ (ClaimEnds p st a × IsPrefix st.written output)
      ⊎ ((reply rest : Lines) × (next : Standing) × (transcript ≡ reply ++ rest)
      × AnswerReplies p st a reply next × AllowedFrom p OneSide next cs rest output)

  abbrev Computes : Standing → List (Option Command) → Answer → Session
  Computes st cs a =
      let reply = by_answer p r fuel st a in
      going_on p r fuel (ends p r fuel a) (record { lines = reply.lines; output = st.written }) (then_lines p r fuel reply.lines (from p r fuel reply.next cs))

  replies : (st : Standing) (cs : List (Option Command)) (a : Answer) → IsWhole st a → ends p r fuel a ≡ false → Goes_on st cs a
      → Allows st cs a (then_lines p r fuel (by_answer p r fuel st a).lines (from p r fuel (by_answer p r fuel st a).next cs)).lines (from p r fuel (by_answer p r fuel st a).next cs).output
  replies st cs a h e k = inr (inr (_, _, _, refl, by_any st a h e, k))

  one : (st : Standing) (cs : List (Option Command)) (a : Answer) → IsWhole st a → Goes_on st cs a → Allows st cs a (Computes st cs a).lines (Computes st cs a).output
  one st cs (Refuses u) h k = replies st cs (Refuses u) h refl k
  one st cs (Says lines after) h k = replies st cs (Says lines after) h refl k
  one st cs (Shows w t vs) h k = replies st cs (Shows w t vs) h refl k
  one st cs (Sets s) h k = replies st cs (Sets s) h refl k
  one st cs (Resumes how ps) h k = replies st cs (Resumes how ps) h refl k
  one st cs ShowsAny h k = replies st cs ShowsAny h refl k
  one st cs (Raw n) h k = replies st cs (Raw n) h refl k
  one st cs EndsClaim h k = absurd h
  one st cs IllTyped h k = absurd h
  one st cs Quits h k = inl (tt, refl, refl)

  allowed_from : (cs : List (Option Command)) (st : Standing) → AreWhole st cs → AllowedFrom p OneSide st cs (from p r fuel st cs).lines (from p r fuel st cs).output
  allowed_from [] st h = (refl, refl)
  allowed_from (c ∷ cs) st h = inr (read_line p r st c, h.0, one st cs (answer p OneSide st.session (read_line p r st c) c) h.1 (allowed_from cs _ h.2))

  pub allows : (input : List ℕ) (cs : List (Option Command)) → AreWhole (at_first p input) cs → Allowed p OneSide input cs (session p r fuel input cs).lines (session p r fuel input cs).output
  allows input cs h = allowed_from cs (at_first p input) h
