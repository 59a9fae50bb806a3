-- A session goes through the run of its program, with a history of assignments at the stops. What holds of the assignments that it makes holds of the history's.
use Rattle.std.proofs.Common.{◌≡◌, refl, sym, ap, ◌∙◌, subst, arith, ℕ, suc, zero, ◌+◌, ◌≤◌, List, [], ◌∷◌, ◌++◌, length, Bool, true, false, Option, Some, None, inl, inr}
use Rattle.std.specs.List.{AllByRecursion}
use Rattle.std.specs.Prelude.{Result, Ok, Err, slice_get, if◌then◌else◌, ◌==◌, codes, filter, not, ◌⊎◌}
use Rattle.runs.specs.Runs as runs
use Rattle.runs.specs.Runs.{Passes, Why, Reason, Stale, Event, Exited, Failed, Course, Going, Comes, until, Moment, Outcome, Reached, here, past, after_count, then_on, after}
use Rattle.runs.specs.Runs as runs
use Rattle.c_tree.specs.declared.types.CType.{CType}
use Rattle.c_tree.specs.declared.rows.Program.{Program}
use Rattle.c_tree.specs.declared.rows.SymbolRow.{SymbolRow}
use Rattle.c_tree.specs.declared.rows.Referent.{Referent}
use Rattle.c_tree.specs.declared.rows.Referent.TheVariants as refers
use Rattle.c_tree.specs.Types.{type_of}
use Rattle.c_store.specs.Store.{Value, World, store}
use Rattle.c_store.specs.Frames.{ActivationRecord, bound, with_world}
use Rattle.c_store.specs.Assigned.{Assignment, History, all_assigned, at_stop, stored_or}
use Rattle.c_source.specs.Control.{State}
use Rattle.c_source.specs.Source.{step}
use Rattle.c_source.specs.Begin.{begin, acted}
use Rattle.c_source.specs.Meaning.{Given, values_meant, assigned}
use Rattle.c_source.specs.Names.{named, place_text}
use Rattle.c_source.proofs.Assignments.{assigned_follows}
use Rattle.c_session.specs.declared.command.Command.{Command}
use Rattle.c_session.specs.declared.command.Command.TheVariants as command
use Rattle.c_session.specs.Places.{point_at}
use Rattle.c_reading.specs.Readings.{is_identifier, Reading, Unread, Read, BadSyntax}
use Rattle.c_session.specs.Commands.{Session, Mode, Fresh, Stopped, Running, Ended, Resume, Sides, OneSide, TwoSides, Positions, One, Both, FirstAlone, SecondAlone, NoPlace, BadText, Answer, Refuses, Says, Shows, Sets, ShowsAny, EndsClaim, Resumes, Quits, Raw, answer, all_at, chosen, has, break_at, clear_at, frame_at, frames_of, point_of, print_object, print_referent, print_symbol, eval_gives, eval_read, assign_gives, assign_read, in_frame, in_stopped, in_fresh, in_running, in_ended, by_mode, IllTyped}
use Rattle.c_session.specs.Allowed.{Lines, Standing, stops_by, HasEvent, IsUnderway, AllMeet, Moves, one, both, second_comes, first_comes, first_goes, second_goes, ResumeReplies, AnswerReplies, MemoryReplies, after_event, with_state, at_first}
use Rattle.c_session.specs.Histories.{GoesOn, IsReached, AreReached, IsModeReached}
use Rattle.c_session.proofs.Onward.{extend, Quiet, on_the_way, comes_to_stop, alike}

-- ---- histories

none_at : (h : History) (j : ℕ) → length h ≤ j → at_stop h j ≡ []
none_at [] j le = refl
none_at (a ∷ h) zero le = absurd (omega (arith, le))
none_at (a ∷ h) (suc j) le = none_at h j (omega (arith, le))

-- at the stop of a number these assignments are made, and none behind it
put : ℕ → List Assignment → History → History
put zero a h = a ∷ []
put (suc j) a [] = [] ∷ put j a []
put (suc j) a (x ∷ h) = x ∷ put j a h

put_at : (j : ℕ) (a : List Assignment) (h : History) → at_stop (put j a h) j ≡ a
unfolding put
put_at zero a h = refl
put_at (suc j) a [] = put_at j a []
put_at (suc j) a (x ∷ h) = put_at j a h

put_before : (j i : ℕ) (a : List Assignment) (h : History) → suc i ≤ j → at_stop h i ≡ at_stop (put j a h) i
unfolding put
put_before zero i a h le = absurd (omega (arith, le))
put_before (suc j) zero a [] le = refl
put_before (suc j) zero a (x ∷ h) le = refl
put_before (suc j) (suc i) a [] le = put_before j i a [] (omega (arith, le))
put_before (suc j) (suc i) a (x ∷ h) le = put_before j i a h (omega (arith, le))

put_long : (j : ℕ) (a : List Assignment) (h : History) → length (put j a h) ≡ suc j
unfolding put
put_long zero a h = refl
put_long (suc j) a [] = ap suc (put_long j a [])
put_long (suc j) a (x ∷ h) = ap suc (put_long j a h)

put_all : (P : List Assignment → Type 0) → P [] → (j : ℕ) (a : List Assignment) (h : History) → AllByRecursion P h → P a → AllByRecursion P (put j a h)
unfolding put
put_all P none zero a h w v = (v, tt)
put_all P none (suc j) a [] w v = (none, put_all P none j a [] tt v)
put_all P none (suc j) a (x ∷ h) w v = (w.0, put_all P none j a h w.1 v)

-- a state after some assignments
abbrev pub set : List Assignment → State → State
set all t = record t { here = with_world t.here (all_assigned all t.here.world) }

assigned_on : (xs ys : List Assignment) (u : World) → all_assigned (xs ++ ys) u ≡ all_assigned ys (all_assigned xs u)
assigned_on [] ys u = refl
assigned_on (x ∷ xs) ys u = assigned_on xs ys (stored_or u (store u x.kind x.place x.value))

set_on : (xs ys : List Assignment) (t : State) → set ys (set xs t) ≡ set (xs ++ ys) t
set_on xs ys t = ap (λ w. record t { here = with_world t.here w }) (sym (assigned_on xs ys t.here.world))

quiet_from : (p : Program) (h : History) (i : ℕ) → length h ≤ i → Quiet (step p) (acted h) i
quiet_from p h i le j t k = ap (λ a. set a t) (none_at h j (omega (arith, le, k)))

-- where an answer makes assignments at a stop, this holds of them
abbrev IsSetBy : (List Assignment → Type 0) → Mode → State → Type 0
IsSetBy P (Stopped s) t = (all : List Assignment) × (t ≡ set all s) × P all
IsSetBy P m t = ⊥

abbrev pub SetsBy : (List Assignment → Type 0) → Mode → Answer → Type 0
SetsBy P m (Sets t) = IsSetBy P m t
SetsBy P m a = Unit {0}

module _ (p : Program) (input : List ℕ) (P : List Assignment → Type 0) (none : P []) (joins : (a b : List Assignment) → P a → P b → P (a ++ b)) where
  abbrev first : State
  first = begin p input

  -- the run with these assignments comes to a state, and none is made from there on
  abbrev OnRun : History → State → Type 0
  OnRun h s = (n : ℕ) × (m : Moment State) × (after State (step p) (acted h) n 0 first ≡ Reached m) × (m.exit ≡ None) × (m.state ≡ s) × (length h ≤ length m.passed) × AllByRecursion P h

  -- The run's next step comes to a stop, at which these assignments were made.
  abbrev AtStop : History → State → Type 0
  AtStop h s =
      (n : ℕ) × (m : Moment State) × (after State (step p) (acted h) n 0 first ≡ Reached m) × (m.exit ≡ None) × (length h ≤ length m.passed)
      × (q c : ℕ) × (t : State) × (all : List Assignment) × (step p m.state ≡ Passes q c t) × (s ≡ set all t) × P all × AllByRecursion P h

  on_run_first : OnRun [] first
  on_run_first = (zero, here State first, refl, refl, refl, omega arith, tt)

  way : (h : History) (s : State) (stops : ℕ → Bool) (k c : ℕ) (q : State) → OnRun h s → until State (step p) stops k s ≡ Going c q → OnRun h q
  way h s stops k c q (n, m, a, x, e, le, w) u =
      let u' : until State (step p) stops k m.state ≡ Going c q = subst (λ z. until State (step p) stops k z ≡ Going c q) (sym e) u in
      let (k2, m2, b, y, f) = on_the_way (step p) (acted h) stops k (0 + length m.passed) m.state c q (quiet_from p h (0 + length m.passed) (omega (arith, le))) u' in
      let (n3, m3, a3, x3, e3, l3) = extend (step p) (acted h) n k2 0 first m m2 a x b in
      (n3, m3, a3, x3 ∙ y, e3 ∙ f, omega (arith, le, l3), w)

  stop : (h : History) (s : State) (stops : ℕ → Bool) (k c q : ℕ) (t : State) → OnRun h s → until State (step p) stops k s ≡ Comes c (runs.Stopped q t) → AtStop h t
  stop h s stops k c q t (n, m, a, x, e, le, w) u =
      let u' : until State (step p) stops k m.state ≡ Comes c (runs.Stopped q t) = subst (λ z. until State (step p) stops k z ≡ Comes c (runs.Stopped q t)) (sym e) u in
      let (k2, m2, b, y, d) = comes_to_stop (step p) (acted h) stops k (0 + length m.passed) m.state c q t (quiet_from p h (0 + length m.passed) (omega (arith, le))) u' in
      let (n3, m3, a3, x3, e3, l3) = extend (step p) (acted h) n k2 0 first m m2 a x b in
      (n3, m3, a3, x3 ∙ y, omega (arith, le, l3), q, d.0, t, [], ap (step p) e3 ∙ d.1, refl, none, w)

  assigns : (h : History) (s : State) (more : List Assignment) → P more → AtStop h s → AtStop h (set more s)
  assigns h s more v (n, m, a, x, le, q, c, t, all, f, e, u, w) = (n, m, a, x, le, q, c, t, all ++ more, f, ap (set more) e ∙ set_on all more t, joins all more u v, w)

  -- the stop's assignments become part of the history
  onto_run : (h : History) (s : State) → AtStop h s → (h' : History) × OnRun h' s
  onto_run h s (n, m, a, x, le, q, c, t, all, f, e, v, w) =
      let j : ℕ = length m.passed in
      let h' : History = put j all h in
      let a' : after State (step p) (acted h') n 0 first ≡ Reached m = alike (step p) (acted h) (acted h') n 0 j first m (λ i u k. ap (λ l. set l u) (put_before j i all h k)) (omega arith) a in
      let m2 : Moment State = record (here State (acted h' (0 + j) t)) { passed = q ∷ []; count = c + 0 } in
      let b : after State (step p) (acted h') 1 (0 + j) m.state ≡ Reached m2 = ap (λ z. then_on State (step p) (acted h') z (after State (step p) (acted h') 0) (0 + j)) f in
      let (n3, m3, a3, x3, e3, l3) = extend (step p) (acted h') n 1 0 first m m2 a' x b in
      let place : 0 + j ≡ j = omega arith in
      let state : acted h' (0 + j) t ≡ s = ap (λ i. set (at_stop h' i) t) place ∙ ap (λ l. set l t) (put_at j all h) ∙ sym e in
      (h', (n3, m3, a3, x3, e3 ∙ state, omega (arith, l3, put_long j all h), put_all P none j all h w v))

  abbrev Each : History → Positions → Type 0
  Each h (One s) = OnRun h s
  Each h (Both s t) = OnRun h s × OnRun h t
  Each h (FirstAlone s) = OnRun h s
  Each h (SecondAlone t) = OnRun h t

  abbrev pub Follows : Mode → Type 0
  Follows (Fresh s) = (h : History) × OnRun h s
  Follows (Stopped s) = (h : History) × AtStop h s
  Follows (Running how ps) = (h : History) × Each h ps
  Follows Ended = Unit {0}

  -- ---- resumes

  met : (session : Session) (h : History) (stops : ℕ → Bool) (s : State) (e : Event State) → OnRun h s → HasEvent p stops s e → Follows (after_event p session e).mode
  met session h stops s (runs.Stopped q t) r (c, u) = (h, stop h s stops u.0 c q t r u.1)
  met session h stops s (Exited v t) r m = tt
  met session h stops s (Failed w) r m = tt

  all_met : (session : Session) (h : History) (stops : ℕ → Bool) (ps : Positions) (e : Event State) → Each h ps → AllMeet p stops e ps → Follows (after_event p session e).mode
  all_met session h stops (One s) e r m = met session h stops s e r m
  all_met session h stops (Both s t) e r m = met session h stops s e r.0 m.0
  all_met session h stops (FirstAlone s) e r m = met session h stops s e r m
  all_met session h stops (SecondAlone t) e r m = met session h stops t e r m

  underway : (h : History) (stops : ℕ → Bool) (limit : ℕ) (s q : State) → OnRun h s → IsUnderway p stops limit s q → OnRun h q
  underway h stops limit s q r (late, c, u, far) = way h s stops u.0 c q r u.1

  moved : (h : History) (stops : ℕ → Bool) (limit : ℕ) (before written : List ℕ) (ps qs : Positions) → Each h ps → Moves p stops limit before ps qs written → Each h qs
  moved h stops limit before written _ _ r (one s q w m k) = underway h stops limit s q r m
  moved h stops limit before written _ _ r (both s t q u w m n k) = (underway h stops limit s q r.0 m, underway h stops limit t u r.1 n)
  moved h stops limit before written _ _ r (second_comes s t q w m o k) = underway h stops limit s q r.0 m
  moved h stops limit before written _ _ r (first_comes s t u w k n) = underway h stops limit t u r.1 n
  moved h stops limit before written _ _ r (first_goes s q w m k) = underway h stops limit s q r m
  moved h stops limit before written _ _ r (second_goes t u n) = underway h stops limit t u r n

  resumed : (st : Standing) (how : Resume) (ps : Positions) (reply : Lines) (next : Standing) (h : History) → Each h ps → ResumeReplies p st how ps reply next → Follows next.session.mode
  resumed st how ps reply next h r (inl (e, i, m, l, x)) = subst (λ y. Follows y.session.mode) (sym x) (all_met st.session h (stops_by st.session.breaks how) ps e r m)
  resumed st how ps reply next h r (inr (inl (qs, w, m, front, l, x))) = subst (λ y. Follows y.session.mode) (sym x) (h, moved h (stops_by st.session.breaks how) st.session.limit st.written w ps qs r m)
  resumed st how ps reply next h r (inr (inr (w, d, front, l, x))) = subst (λ y. Follows y.session.mode) (sym x) tt

  -- ---- answers

  -- what an answer leaves of a mode: the same one, or assignments at the stop, or its positions
  abbrev IsSetIn : Mode → State → Type 0
  IsSetIn (Stopped s) t = (all : List Assignment) × (t ≡ set all s)
  IsSetIn m t = ⊥

  abbrev StandIn : Mode → Positions → Type 0
  StandIn (Fresh s) ps = (sides : Sides) × (ps ≡ all_at sides s)
  StandIn (Stopped s) ps = (sides : Sides) × (ps ≡ all_at sides s)
  StandIn (Running how qs) ps = ps ≡ qs
  StandIn Ended ps = ⊥

  abbrev Leaves : Mode → Answer → Type 0
  Leaves m (Says lines session) = session.mode ≡ m
  Leaves m (Sets t) = IsSetIn m t
  Leaves m (Resumes how ps) = StandIn m ps
  Leaves m _ = Unit {0}

  either_mode : (b : Bool) (x y : Session) (m : Mode) → x.mode ≡ m → y.mode ≡ m → (if b then x else y).mode ≡ m
  either_mode true x y m e g = e
  either_mode false x y m e g = g

  either : (m : Mode) (b : Bool) (x y : Answer) → Leaves m x → Leaves m y → Leaves m (if b then x else y)
  either m true x y q k = q
  either m false x y q k = k

  module _ (sides : Sides) (session : Session) where
    breaks : (o : Option ℕ) → Leaves session.mode (break_at p sides session o)
    breaks None = tt
    breaks (Some q) = either_mode _ session _ session.mode refl refl

    clears : (o : Option ℕ) → Leaves session.mode (clear_at p sides session o)
    clears None = tt
    clears (Some q) = either session.mode (has session.breaks q) (Says ((codes "clear " ++ place_text p q) ∷ []) (record session { breaks = filter (λ r. not (r == q)) session.breaks })) (Refuses NoPlace) refl tt

    frames : (n : ℕ) (o : Option ActivationRecord) → Leaves session.mode (frame_at p sides session n o)
    frames n None = tt
    frames n (Some a) = refl

    module _ (m : Mode) where
      object : (w : World) (t : CType) (o : Option ℕ) → Leaves m (print_object p sides session w t o)
      object w t None = tt
      object w t (Some o) = tt

      referent : (w : World) (a : ActivationRecord) (r : Referent) → Leaves m (print_referent p sides session w a r)
      referent w a (refers.Object o) = tt
      referent w a (refers.Local x) = object w _ (bound x a.locals)
      referent w a (refers.Function f) = tt
      referent w a refers.Declared = tt

      symbol : (w : World) (a : ActivationRecord) (o : Option SymbolRow) → Leaves m (print_symbol p sides session w a o)
      symbol w a None = tt
      symbol w a (Some row) = referent w a row.refers

      values : (w : World) (t : CType) (v : Result (List Value) Why) → Leaves m (eval_gives p sides session w t v)
      values w t (Ok vs) = tt
      values w t (Err (Reason u)) = tt
      values w t (Err Stale) = tt
      values w t (Err runs.IllTyped) = tt

      evaluates : (w : World) (a : ActivationRecord) (x : Reading) → Leaves m (eval_read p sides session w a x)
      evaluates w a (Unread u) = tt
      evaluates w a (Read e) = values w (type_of e) (values_meant p (record { world = w; activation = a }) e)

      framed : (o : Option ActivationRecord) (go : ActivationRecord → Answer) → ((a : ActivationRecord) → Leaves m (go a)) → Leaves m (in_frame p sides session o go)
      framed None go k = tt
      framed (Some a) go k = k a

    given : (s : State) (v : Result Given Why) → ((g : Given) → v ≡ Ok g → (all : List Assignment) × (g.world ≡ all_assigned all s.here.world)) → Leaves (Stopped s) (assign_gives p sides session s v)
    given s (Ok g) k = let d = k g refl in (d.0, ap (λ w. record s { here = with_world s.here w }) d.1)
    given s (Err (Reason u)) k = tt
    given s (Err Stale) k = tt
    given s (Err runs.IllTyped) k = tt

    assignment : (s : State) (a : ActivationRecord) (x : Reading) → Leaves (Stopped s) (assign_read p sides session s a x)
    assignment s a (Unread u) = tt
    assignment s a (Read e) = given s (assigned p (record { world = s.here.world; activation = a }) e) (λ g k. assigned_follows p (record { world = s.here.world; activation = a }) e g k)

    at_mode : (m : Mode) (a : Answer) → session.mode ≡ m → Leaves session.mode a → Leaves m a
    at_mode m a e k = subst (λ z. Leaves z a) e k

    stopped : (x : Reading) (s : State) (c : Command) → session.mode ≡ Stopped s → Leaves (Stopped s) (in_stopped p sides session x s c)
    stopped x s (command.Break spot) e = at_mode (Stopped s) (break_at p sides session (point_at p spot)) e (breaks (point_at p spot))
    stopped x s (command.Clear spot) e = at_mode (Stopped s) (clear_at p sides session (point_at p spot)) e (clears (point_at p spot))
    stopped x s command.Continue e = (sides, refl)
    stopped x s command.Step e = (sides, refl)
    stopped x s (command.Turns n) e = e
    stopped x s command.Frames e = e
    stopped x s (command.Frame n) e = at_mode (Stopped s) (frame_at p sides session n (slice_get (frames_of p sides session s) n)) e (frames n (slice_get (frames_of p sides session s) n))
    stopped x s (command.Print name) e =
        framed (Stopped s) (chosen p sides session s) _ (λ a. either (Stopped s) (is_identifier name) (print_symbol p sides session s.here.world a (named p name (point_of p sides session a))) (Refuses (BadText BadSyntax)) (symbol (Stopped s) s.here.world a (named p name (point_of p sides session a))) tt)
    stopped x s (command.Eval text) e = framed (Stopped s) (chosen p sides session s) _ (λ a. evaluates (Stopped s) s.here.world a x)
    stopped x s (command.Assign text) e = framed (Stopped s) (chosen p sides session s) _ (λ a. assignment s a x)
    stopped x s command.Quit e = tt
    stopped x s command.Regs e = tt
    stopped x s (command.Code text) e = tt
    stopped x s (command.Ps text) e = tt

    fresh : (x : Reading) (s : State) (c : Command) → session.mode ≡ Fresh s → Leaves (Fresh s) (in_fresh p sides session x s c)
    fresh x s (command.Break spot) e = at_mode (Fresh s) (break_at p sides session (point_at p spot)) e (breaks (point_at p spot))
    fresh x s (command.Clear spot) e = at_mode (Fresh s) (clear_at p sides session (point_at p spot)) e (clears (point_at p spot))
    fresh x s command.Continue e = (sides, refl)
    fresh x s command.Step e = (sides, refl)
    fresh x s (command.Turns n) e = e
    fresh x s command.Frames e = tt
    fresh x s (command.Frame n) e = tt
    fresh x s (command.Print name) e = tt
    fresh x s (command.Eval text) e = tt
    fresh x s (command.Assign text) e = tt
    fresh x s command.Quit e = tt
    fresh x s command.Regs e = tt
    fresh x s (command.Code text) e = tt
    fresh x s (command.Ps text) e = tt

    running : (how : Resume) (ps : Positions) (c : Command) → session.mode ≡ Running how ps → Leaves (Running how ps) (in_running p sides session how ps c)
    running how ps command.Continue e = refl
    running how ps (command.Turns n) e = e
    running how ps command.Regs e = tt
    running how ps command.Quit e = tt
    running how ps _ e = tt

    over : (c : Command) → Leaves Ended (in_ended p sides session c)
    over command.Quit = tt
    over _ = tt

    by : (x : Reading) (m : Mode) (c : Command) → session.mode ≡ m → Leaves m (by_mode p sides session x m c)
    by x (Fresh s) c e = fresh x s c e
    by x (Stopped s) c e = stopped x s c e
    by x (Running how ps) c e = running how ps c e
    by x Ended c e = over c

    pub leaves : (x : Reading) (c : Option Command) → Leaves session.mode (answer p sides session x c)
    leaves x None = tt
    leaves x (Some c) = by x session.mode c refl

  -- ---- sessions

  each_at : (sides : Sides) (s : State) (h : History) → OnRun h s → Each h (all_at sides s)
  each_at OneSide s h r = r
  each_at TwoSides s h r = (r, r)

  stands : (m : Mode) (ps : Positions) → Follows m → StandIn m ps → (h : History) × Each h ps
  stands (Fresh s) ps (h, r) (sides, e) = (h, subst (Each h) (sym e) (each_at sides s h r))
  stands (Stopped s) ps (h, r) (sides, e) = let d = onto_run h s r in (d.0, subst (Each d.0) (sym e) (each_at sides s d.0 d.1))
  stands (Running how qs) ps (h, r) e = (h, subst (Each h) (sym e) r)
  stands Ended ps f k = absurd k

  sets : (m : Mode) (t : State) → Follows m → IsSetBy P m t → Follows (with_state p m t)
  sets (Stopped s) t (h, r) (all, e, v) = (h, subst (AtStop h) (sym e) (assigns h s all v r))
  sets (Fresh s) t f k = absurd k
  sets (Running how ps) t f k = absurd k
  sets Ended t f k = absurd k

  pub same_next : (st next : Standing) → next ≡ st → Follows st.session.mode → Follows next.session.mode
  same_next st next e f = subst (λ y. Follows y.session.mode) (sym e) f

  pub replied : (st : Standing) (a : Answer) (reply : Lines) (next : Standing) → Follows st.session.mode → Leaves st.session.mode a → SetsBy P st.session.mode a → AnswerReplies p st a reply next → Follows next.session.mode
  replied st (Refuses u) reply next f l v k = same_next st next k.1 f
  replied st (Says lines session) reply next f l v k = subst (λ y. Follows y.session.mode) (sym k.1) (subst Follows (sym l) f)
  replied st (Shows w t vs) reply next f l v k = same_next st next k.1 f
  replied st (Sets t) reply next f l v k = subst (λ y. Follows y.session.mode) (sym k.1) (sets st.session.mode t f v)
  replied st ShowsAny reply next f l v k = same_next st next k.1 f
  replied st (Resumes how ps) reply next f l v k = let d = stands st.session.mode ps f l in resumed st how ps reply next d.0 d.1 k
  replied st (Raw n) reply next f l v k = same_next st next k.1 f
  replied st EndsClaim reply next f l v k = absurd k
  replied st Quits reply next f l v k = absurd k
  replied st IllTyped reply next f l v k = absurd k

  pub begins_followed : Follows (Fresh first)
  begins_followed = ([], on_run_first)

  module _ (sides : Sides) (keeps : (m : Mode) (a : Answer) → Leaves m a → SetsBy P m a) where
    next_follows : (st next : Standing) (reply : Lines) (c : Option Command) → Follows st.session.mode
        → MemoryReplies st c reply next ⊎ ((x : Reading) × AnswerReplies p st (answer p sides st.session x c) reply next) → Follows next.session.mode
    next_follows st next reply c f (inl m) = same_next st next m.2 f
    next_follows st next reply c f (inr (x, k)) =
        let l = leaves sides st.session x c in
        replied st (answer p sides st.session x c) reply next f l (keeps st.session.mode (answer p sides st.session x c) l) k

    pub goes_follows : (st last : Standing) (cs : List (Option Command)) → Follows st.session.mode → GoesOn p sides st cs last → Follows last.session.mode
    goes_follows st last [] f e = same_next st last e f
    goes_follows st last (c ∷ cs) f (reply, next, k, rest) = goes_follows next last cs (next_follows st next reply c f k) rest

  reached : (h : History) (s : State) → OnRun h s → IsReached p input h s
  reached h s (n, m, a, x, e, le, w) = (n, m, a, x, e)

  each_reached : (h : History) (ps : Positions) → Each h ps → AreReached p input h ps
  each_reached h (One s) r = reached h s r
  each_reached h (Both s t) r = (reached h s r.0, reached h t r.1)
  each_reached h (FirstAlone s) r = reached h s r
  each_reached h (SecondAlone t) r = reached h t r

  all_on_run : (h : History) (s : State) → OnRun h s → AllByRecursion P h
  all_on_run h s (n, m, a, x, e, le, w) = w

  each_all : (h : History) (ps : Positions) → Each h ps → AllByRecursion P h
  each_all h (One s) r = all_on_run h s r
  each_all h (Both s t) r = all_on_run h s r.0
  each_all h (FirstAlone s) r = all_on_run h s r
  each_all h (SecondAlone t) r = all_on_run h t r

  pub mode_reached : (m : Mode) → Follows m → (h : History) × IsModeReached p input h m × AllByRecursion P h
  mode_reached (Fresh s) (h, r) = (h, reached h s r, all_on_run h s r)
  mode_reached (Stopped s) (h, r) = let d = onto_run h s r in (d.0, reached d.0 s d.1, all_on_run d.0 s d.1)
  mode_reached (Running how ps) (h, r) = (h, each_reached h ps r, each_all h ps r)
  mode_reached Ended f = ([], tt, tt)

module _ (p : Program) (input : List ℕ) where
  -- any assignments
  abbrev Any : List Assignment → Type 0
  Any all = Unit {0}

  any_join : (a b : List Assignment) → Any a → Any b → Any (a ++ b)
  any_join a b v w = tt

  any_set : (m : Mode) (t : State) → IsSetIn p input Any tt any_join m t → IsSetBy Any m t
  any_set (Stopped s) t (all, e) = (all, e, tt)
  any_set (Fresh s) t k = k
  any_set (Running how ps) t k = k
  any_set Ended t k = k

  any_kept : (m : Mode) (a : Answer) → Leaves p input Any tt any_join m a → SetsBy Any m a
  any_kept m (Sets t) l = any_set m t l
  any_kept m (Refuses u) l = tt
  any_kept m (Says lines session) l = tt
  any_kept m (Shows w t vs) l = tt
  any_kept m ShowsAny l = tt
  any_kept m (Resumes how ps) l = tt
  any_kept m (Raw n) l = tt
  any_kept m EndsClaim l = tt
  any_kept m Quits l = tt
  any_kept m IllTyped l = tt

  pub sessions_follow : (sides : Sides) (cs : List (Option Command)) (st : Standing) → GoesOn p sides (at_first p input) cs st → (h : History) × IsModeReached p input h st.session.mode
  sessions_follow sides cs st g =
      let d = mode_reached p input Any tt any_join st.session.mode (goes_follows p input Any tt any_join sides any_kept (at_first p input) st cs (begins_followed p input Any tt any_join) g) in
      (d.0, d.1)
