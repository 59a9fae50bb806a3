-- A reply that is a refusal is the answer of a refused command.
use Rattle.std.proofs.Common.{◌≡◌, ◌≢◌, refl, sym, ap, ◌∙◌, ℕ, List, [], ◌∷◌, Bool, true, false, Option, Some, None, inl, inr}
use Rattle.std.specs.Prelude.{codes, slice_get, ◌==◌, Result, Ok, Err, if◌then◌else◌}
use Rattle.c_tree.specs.declared.types.CType.{CType}
use Rattle.c_tree.specs.declared.rows.Program.{Program}
use Rattle.c_tree.specs.declared.rows.SymbolRow.{SymbolRow}
use Rattle.c_tree.specs.declared.rows.Referent.{Referent}
use Rattle.c_tree.specs.declared.rows.Referent.TheVariants as refers
use Rattle.c_tree.specs.Types.{type_of}
use Rattle.runs.specs.Runs as runs
use Rattle.runs.specs.Runs.{Why, Reason, Stale, Event, Exited, Failed}
use Rattle.runs.specs.Runs as runs
use Rattle.c_store.specs.Store.{Value, World}
use Rattle.c_store.specs.Frames.{ActivationRecord, bound}
use Rattle.c_source.specs.Control.{State}
use Rattle.c_source.specs.Meaning.{Given, values_meant, assigned}
use Rattle.c_source.specs.Names.{named}
use Rattle.c_session.specs.declared.command.Command.{Command}
use Rattle.c_session.specs.declared.command.Command.TheVariants as command
use Rattle.c_session.specs.Places.{point_at}
use Rattle.c_reading.specs.Readings.{is_identifier, Reading, Unread, Read}
use Rattle.c_session.specs.Commands.{Session, Mode, Fresh, Stopped, Running, Ended, Resume, Sides, Positions, Refusal, HasEnded, refusal_text, Answer, Refuses, Says, Shows, Sets, ShowsAny, EndsClaim, Resumes, Quits, Raw, answer, has, break_at, clear_at, frame_at, frames_of, print_object, print_referent, print_symbol, eval_gives, eval_read, assign_gives, assign_read, in_frame, chosen, point_of, in_stopped, in_fresh, in_running, in_ended, by_mode, IllTyped}
use Rattle.c_session.specs.Allowed.{Lines, Standing, IsEvent, event_text, AnswerReplies, ResumeReplies}

abbrev starts_refused : List ℕ → Bool
starts_refused [] = false
starts_refused (c ∷ cs) = c == 114

abbrev is_refused : Lines → Bool
is_refused [] = false
is_refused (line ∷ lines) = starts_refused line

abbrev SaysNoRefusal : Answer → Type 0
SaysNoRefusal (Says lines after) = is_refused lines ≡ false
SaysNoRefusal a = Unit {0}

-- the lines of such an answer are no refusal
pub record IsPlain (a : Answer) : Type 0 where
  pub says : SaysNoRefusal a

by_if : {x y : Answer} (b : Bool) → IsPlain x → IsPlain y → IsPlain (if b then x else y)
by_if true f g = f
by_if false f g = g

module _ (p : Program) (sides : Sides) (session : Session) where
  plain_break : (o : Option ℕ) → IsPlain (break_at p sides session o)
  plain_break None = record { says = tt }
  plain_break (Some q) = record { says = refl }

  plain_clear : (o : Option ℕ) → IsPlain (clear_at p sides session o)
  plain_clear None = record { says = tt }
  plain_clear (Some q) = by_if (has session.breaks q) (record { says = refl }) (record { says = tt })

  plain_frame : (n : ℕ) (o : Option ActivationRecord) → IsPlain (frame_at p sides session n o)
  plain_frame n None = record { says = tt }
  plain_frame n (Some a) = record { says = refl }

  plain_object : (w : World) (t : CType) (o : Option ℕ) → IsPlain (print_object p sides session w t o)
  plain_object w t None = record { says = tt }
  plain_object w t (Some o) = record { says = tt }

  plain_referent : (w : World) (a : ActivationRecord) (d : Referent) → IsPlain (print_referent p sides session w a d)
  plain_referent w a (refers.Object o) = record { says = tt }
  plain_referent w a (refers.Local x) = plain_object w _ (bound x a.locals)
  plain_referent w a (refers.Function f) = record { says = tt }
  plain_referent w a refers.Declared = record { says = tt }

  plain_symbol : (w : World) (a : ActivationRecord) (o : Option SymbolRow) → IsPlain (print_symbol p sides session w a o)
  plain_symbol w a None = record { says = tt }
  plain_symbol w a (Some s) = plain_referent w a s.refers

  plain_values : (w : World) (t : CType) (m : Result (List Value) Why) → IsPlain (eval_gives p sides session w t m)
  plain_values w t (Ok vs) = record { says = tt }
  plain_values w t (Err (Reason u)) = record { says = tt }
  plain_values w t (Err Stale) = record { says = tt }
  plain_values w t (Err runs.IllTyped) = record { says = tt }

  plain_eval : (w : World) (a : ActivationRecord) (t : Reading) → IsPlain (eval_read p sides session w a t)
  plain_eval w a (Unread u) = record { says = tt }
  plain_eval w a (Read e) = plain_values w (type_of e) (values_meant p (record { world = w; activation = a }) e)

  plain_given : (s : State) (m : Result Given Why) → IsPlain (assign_gives p sides session s m)
  plain_given s (Ok g) = record { says = tt }
  plain_given s (Err (Reason u)) = record { says = tt }
  plain_given s (Err Stale) = record { says = tt }
  plain_given s (Err runs.IllTyped) = record { says = tt }

  plain_assign : (s : State) (a : ActivationRecord) (t : Reading) → IsPlain (assign_read p sides session s a t)
  plain_assign s a (Unread u) = record { says = tt }
  plain_assign s a (Read e) = plain_given s (assigned p (record { world = s.here.world; activation = a }) e)

  by_frame : (o : Option ActivationRecord) (go : ActivationRecord → Answer) → ((a : ActivationRecord) → IsPlain (go a)) → IsPlain (in_frame p sides session o go)
  by_frame None go f = record { says = tt }
  by_frame (Some a) go f = f a

  plain_stopped : (x : Reading) (s : State) (c : Command) → IsPlain (in_stopped p sides session x s c)
  plain_stopped x s (command.Break place) = plain_break (point_at p place)
  plain_stopped x s (command.Clear place) = plain_clear (point_at p place)
  plain_stopped x s command.Continue = record { says = tt }
  plain_stopped x s command.Step = record { says = tt }
  plain_stopped x s (command.Turns n) = record { says = refl }
  plain_stopped x s command.Frames = record { says = refl }
  plain_stopped x s (command.Frame n) = plain_frame n (slice_get (frames_of p sides session s) n)
  plain_stopped x s (command.Print name) =
      by_frame (chosen p sides session s) _ (λ a. by_if (is_identifier name) (plain_symbol s.here.world a (named p name (point_of p sides session a))) (record { says = tt }))
  plain_stopped x s (command.Eval text) = by_frame (chosen p sides session s) _ (λ a. plain_eval s.here.world a x)
  plain_stopped x s (command.Assign text) = by_frame (chosen p sides session s) _ (λ a. plain_assign s a x)
  plain_stopped x s command.Quit = record { says = tt }
  plain_stopped x s command.Regs = record { says = tt }
  plain_stopped x s (command.Code text) = record { says = tt }
  plain_stopped x s (command.Ps text) = record { says = tt }

  plain_fresh : (x : Reading) (s : State) (c : Command) → IsPlain (in_fresh p sides session x s c)
  plain_fresh x s command.Frames = record { says = tt }
  plain_fresh x s (command.Frame n) = record { says = tt }
  plain_fresh x s (command.Print name) = record { says = tt }
  plain_fresh x s (command.Eval text) = record { says = tt }
  plain_fresh x s (command.Assign text) = record { says = tt }
  plain_fresh x s (command.Code text) = record { says = tt }
  plain_fresh x s (command.Ps text) = record { says = tt }
  plain_fresh x s c = plain_stopped x s c

  plain_running : (how : Resume) (ps : Positions) (c : Command) → IsPlain (in_running p sides session how ps c)
  plain_running how ps command.Continue = record { says = tt }
  plain_running how ps (command.Turns n) = record { says = refl }
  plain_running how ps command.Regs = record { says = tt }
  plain_running how ps command.Quit = record { says = tt }
  plain_running how ps c = record { says = tt }

  plain_ended : (c : Command) → IsPlain (in_ended p sides session c)
  plain_ended command.Quit = record { says = tt }
  plain_ended c = record { says = tt }

  plain_mode : (x : Reading) (m : Mode) (c : Command) → IsPlain (by_mode p sides session x m c)
  plain_mode x (Fresh s) c = plain_fresh x s c
  plain_mode x (Stopped s) c = plain_stopped x s c
  plain_mode x (Running how ps) c = plain_running how ps c
  plain_mode x Ended c = plain_ended c

  pub plain_answer : (x : Reading) (c : Option Command) → IsPlain (answer p sides session x c)
  plain_answer x None = record { says = tt }
  plain_answer x (Some c) = plain_mode x session.mode c

  ended_by : (c : Command) → c ≢ command.Quit → in_ended p sides session c ≡ Refuses HasEnded
  ended_by command.Quit n = absurd (n refl)
  ended_by c n = refl

  pub ended_answer : (x : Reading) (c : Command) → session.mode ≡ Ended → c ≢ command.Quit → answer p sides session x (Some c) ≡ Refuses HasEnded
  ended_answer x c e n = ap (λ m. by_mode p sides session x m c) e ∙ ended_by c n

-- ---- replies

differ : {A : Type 0} → false ≡ true → A
differ c = absurd cc

clash : {A : Type 0} (reply lines : Lines) → reply ≡ lines → is_refused lines ≡ false → is_refused reply ≡ true → A
clash reply lines e n t = differ (sym n ∙ ap is_refused (sym e) ∙ t)

module _ (p : Program) where
  event_line : (e : Event State) → IsEvent e → is_refused (event_text p e ∷ []) ≡ false
  event_line (runs.Stopped q s) i = refl
  event_line (Exited n s) i = refl
  event_line (Failed w) i = absurd i

  resumed : (st : Standing) (how : Resume) (ps : Positions) (reply : Lines) (next : Standing) → ResumeReplies p st how ps reply next → is_refused reply ≡ true → next ≡ st
  resumed st how ps reply next (inl (e, i, all, same, n)) t = clash reply (event_text p e ∷ []) same (event_line e i) t
  resumed st how ps reply next (inr (inl (qs, written, move, front, same, n))) t = clash reply (codes "turns" ∷ []) same refl t
  resumed st how ps reply next (inr (inr (written, deep, front, same, n))) t = clash reply (codes "stack" ∷ []) same refl t

  replied : (st : Standing) (a : Answer) → IsPlain a → (reply : Lines) (next : Standing) → AnswerReplies p st a reply next → is_refused reply ≡ true → next ≡ st
  replied st (Refuses u) i reply next h t = h.1
  replied st (Says lines after) i reply next h t = clash reply lines h.0 i.says t
  replied st (Shows w c vs) i reply next h t = h.1
  replied st (Sets s) i reply next h t = clash reply (codes "set" ∷ []) h.0 refl t
  replied st ShowsAny i reply next h t = h.1
  replied st (Resumes how ps) i reply next h t = resumed st how ps reply next h t
  replied st (Raw n) i reply next h t = h.1
  replied st EndsClaim i reply next h t = absurd h
  replied st Quits i reply next h t = absurd h
  replied st IllTyped i reply next h t = absurd h

  pub refused_next : (sides : Sides) (st next : Standing) (x : Reading) (c : Option Command) (u : Refusal) → AnswerReplies p st (answer p sides st.session x c) (refusal_text u ∷ []) next → next ≡ st
  refused_next sides st next x c u h = replied st (answer p sides st.session x c) (plain_answer p sides st.session x c) (refusal_text u ∷ []) next h refl
