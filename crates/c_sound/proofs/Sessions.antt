-- Sessions over accepted programs always have an answer.
use Rattle.std.proofs.Common.{◌≡◌, refl, sym, ap, subst, ℕ, suc, zero, List, [], ◌∷◌, ◌++◌, Bool, true, false, Option, Some, None, ◌⊎◌, inl, inr, length}
use Rattle.std.specs.Prelude.{Result, Ok, Err, slice_get, if◌then◌else◌, option_and_then, bytes_eq, ◌==◌, codes, filter, not}
use Rattle.runs.specs.Runs.{Next, Goes, Passes, Exits, Undefined, Why, Reason, Stale, IllTyped, Course, Going, Comes, Event, Stopped, Exited, Failed, counted, passing, onward, until}
use Rattle.c_tree.specs.declared.types.CType.{CType}
use Rattle.c_tree.specs.declared.rows.Program.{Program}
use Rattle.c_tree.specs.declared.rows.Point.{Point}
use Rattle.c_tree.specs.declared.rows.SymbolRow.{SymbolRow}
use Rattle.c_tree.specs.declared.rows.Referent.{Referent}
use Rattle.c_tree.specs.declared.rows.Referent.TheVariants as refers
use Rattle.c_tree.specs.Types.{type_of, is_struct}
use Rattle.c_store.specs.Store.{Value, World}
use Rattle.c_store.specs.Frames.{Here, ActivationRecord, bound, with_world}
use Rattle.c_store.specs.Assigned.{Assignment, History}
use Rattle.c_source.specs.Control.{State}
use Rattle.c_source.specs.Source.{step}
use Rattle.c_source.specs.Begin.{begin}
use Rattle.c_source.specs.Meaning.{Given, values_meant, assigned}
use Rattle.c_source.specs.Names.{named, place_text}
use Rattle.c_typing.specs.Declarations.{has}
use Rattle.c_reading.specs.Scope.{as_completed, scope_with}
use Rattle.c_typing.specs.Statements.{local_on, locals_from, locals_at}
use Rattle.c_typing.specs.Programs.{KeepsRules}
use Rattle.c_session.specs.declared.command.Command.{Command}
use Rattle.c_session.specs.declared.command.Command.TheVariants as command
use Rattle.c_reading.specs.Readings.{is_identifier, Use, AsValue, AsAssignment, Reading, Read, Unread, BadSyntax}
use Rattle.c_reading.specs.Rules.{ReadsTyped}
use Rattle.c_reading.proofs.Rules.{reads_typed}
use Rattle.c_session.specs.Commands.{Session, Mode, Fresh, Stopped as StoppedAt, Running, Ended, Resume, Sides, OneSide, TwoSides, Positions, One, Both, FirstAlone, SecondAlone, Answer, Refuses, Says, Shows, Sets, ShowsAny, EndsClaim, Resumes, Quits, Raw, answer, all_at, chosen, ReadsAt, ReadsIn, ReadsLine, break_at, clear_at, print_object, print_referent, print_symbol, eval_gives, eval_read, assign_gives, assign_read, in_frame, frame_at, frames_of, point_of, in_stopped, in_fresh, in_running, in_ended, by_mode, NoPlace, has as has_point, BadText}
use Rattle.c_session.specs.Commands as mode
use Rattle.c_session.specs.Places.{point_at}
use Rattle.c_session.specs.Allowed.{Lines, Standing, stops_by, HasEvent, IsUnderway, AllMeet, Moves, one, both, second_comes, first_comes, first_goes, second_goes, ResumeReplies, AnswerReplies, MemoryReplies, after_event, with_state, at_first}
use Rattle.c_session.specs.Histories.{IsModeReached}
use Rattle.c_session.proofs.Histories.{SetsBy, Follows, replied, same_next, leaves, begins_followed, mode_reached}
use Rattle.c_sound.specs.Shapes.{AreFitting, IsFitting, IsAssigned}
use Rattle.c_sound.specs.Sessions.{AreAnswered, HasAnswer}
use Rattle.c_sound.proofs.Shaped.{ShapedL}
use Rattle.c_sound.proofs.World.{Gives, WorldFits}
use Rattle.c_sound.proofs.Ready.{locals_of, Good}
use Rattle.c_sound.proofs.Lists.{bound_here}
use Rattle.c_sound.proofs.Fine.{Fine}
use Rattle.c_sound.proofs.Steps.{step_fine}
use Rattle.c_sound.proofs.Runs.{assigned_fits}
use Rattle.c_sound.proofs.Begins.{begins_good}
use Rattle.c_sound.proofs.Bodies.{has_by, has_or, same_number}
use Rattle.c_sound.proofs.Typed.{evaluated, located}
use Rattle.c_sound.proofs.Structs.{struct_lvalue}
use Rattle.c_sound.proofs.Evaluations.{values_given, assigned_given}
use Rattle.c_sound.proofs.Accepted.{function_there, parameters_there, bodies_ready}
use Rattle.c_sound.proofs.Scoped.{At, Covered, CoveredAt, InScope}
use Rattle.c_sound.proofs.Stays.{Stays, step_stays}
use Rattle.c_sound.proofs.Stops.{all_live, scoped_bodies, begins_in_scope}

-- ---- names on the chain of a point

abbrev LiveReferent : List ℕ → Referent → Type 0
LiveReferent xs (refers.Local x) = has xs x ≡ true
LiveReferent xs _ = Unit {0}

abbrev LiveName : List ℕ → Option SymbolRow → Type 0
LiveName xs None = Unit {0}
LiveName xs (Some row) = LiveReferent xs row.refers

abbrev named_in : List SymbolRow → List ℕ → (left : ℕ) → Option ℕ → Option SymbolRow
named_in rows name zero s = None
named_in rows name (suc left) None = None
named_in rows name (suc left) (Some s) = option_and_then (λ row. if bytes_eq row.name name then Some row else named_in rows name left row.up) (slice_get rows s)

has_behind : (xs ys : List ℕ) (x : ℕ) → has ys x ≡ true → has (xs ++ ys) x ≡ true
has_behind [] ys x h = h
has_behind (z ∷ xs) ys x h = has_or (z == x) (has (xs ++ ys) x) (has_behind xs ys x h)

here_live : (r : Referent) (ys : List ℕ) → LiveReferent (local_on r ++ ys) r
here_live (refers.Local x) ys = has_by (x == x) (has ys x) (same_number x)
here_live (refers.Object o) ys = tt
here_live (refers.Function f) ys = tt
here_live refers.Declared ys = tt

behind_live : (xs ys : List ℕ) (r : Referent) → LiveReferent ys r → LiveReferent (xs ++ ys) r
behind_live xs ys (refers.Local x) h = has_behind xs ys x h
behind_live xs ys (refers.Object o) h = tt
behind_live xs ys (refers.Function f) h = tt
behind_live xs ys refers.Declared h = tt

name_behind : (xs ys : List ℕ) (o : Option SymbolRow) → LiveName ys o → LiveName (xs ++ ys) o
name_behind xs ys None h = tt
name_behind xs ys (Some row) h = behind_live xs ys row.refers h

either_live : (b : Bool) (row : SymbolRow) (o : Option SymbolRow) (ys : List ℕ) → LiveName ys o → LiveName (local_on row.refers ++ ys) (if b then Some row else o)
either_live true row o ys h = here_live row.refers ys
either_live false row o ys h = name_behind (local_on row.refers) ys o h

row_live : (rows : List SymbolRow) (name : List ℕ) (left : ℕ) (o : Option SymbolRow) → ((up : Option ℕ) → LiveName (locals_from rows left up) (named_in rows name left up))
    → LiveName (elim o as (λ _. List ℕ) [ None ↦ [] | Some row ↦ local_on row.refers ++ locals_from rows left row.up ]) (option_and_then (λ row. if bytes_eq row.name name then Some row else named_in rows name left row.up) o)
row_live rows name left None ih = tt
row_live rows name left (Some row) ih = either_live (bytes_eq row.name name) row (named_in rows name left row.up) (locals_from rows left row.up) (ih row.up)

named_live : (rows : List SymbolRow) (name : List ℕ) (left : ℕ) (s : Option ℕ) → LiveName (locals_from rows left s) (named_in rows name left s)
named_live rows name zero s = tt
named_live rows name (suc left) None = tt
named_live rows name (suc left) (Some s) = row_live rows name left (slice_get rows s) (λ up. named_live rows name left up)

abbrev symbol_in : Option Point → Option ℕ
symbol_in None = None
symbol_in (Some q) = q.symbol

name_live : (p : Program) (name : List ℕ) (q : ℕ) → LiveName (locals_at p q) (named p name q)
name_live p name q = named_live p.symbols name (length p.symbols) (symbol_in (slice_get p.points q))

module _ (p : Program) (accepted : KeepsRules p) where
  abbrev pub Stands : State → Type 0
  Stands s = Good p s × InScope p s

  abbrev pub AtStop : State → Type 0
  AtStop s = Stands s × CoveredAt p s.here.activation

  -- ---- runs to an event

  abbrev EventStands : Event State → Type 0
  EventStands (Stopped q s) = AtStop s
  EventStands _ = Unit {0}

  abbrev CourseStands : Course State → Type 0
  CourseStands (Going c s) = Stands s
  CourseStands (Comes c e) = EventStands e

  counted_stands : (c : ℕ) (o : Course State) → CourseStands o → CourseStands (counted c o)
  counted_stands c (Going d s) k = k
  counted_stands c (Comes d e) k = k

  abbrev EachStands : Positions → Type 0
  EachStands (One t) = Stands t
  EachStands (Both t u) = Stands t × Stands u
  EachStands (FirstAlone t) = Stands t
  EachStands (SecondAlone u) = Stands u

  module _ (stops : ℕ → Bool) where
    passing_stands : (b : Bool) (q c : ℕ) (s : State) (go : State → Course State) → AtStop s → CourseStands (go s) → CourseStands (passing State (step p) b q c s go)
    passing_stands true q c s go a k = a
    passing_stands false q c s go a k = counted_stands c (go s) k

    onward_stands : (n : Next State) (go : State → Course State) → Fine p n → Stays p n → ((s : State) → Stands s → CourseStands (go s)) → CourseStands (onward State (step p) stops n go)
    onward_stands (Goes c s) go f g k = counted_stands c (go s) (k s (f, g))
    onward_stands (Passes q c s) go f g k = passing_stands (stops q) q c s go ((f, g.0), g.1) (k s (f, g.0))
    onward_stands (Exits v c s) go f g k = tt
    onward_stands (Undefined w) go f g k = tt

    course_stands : (n : ℕ) (s : State) → Stands s → CourseStands (until State (step p) stops n s)
    course_stands zero s g = g
    course_stands (suc n) s g = onward_stands (step p s) (until State (step p) stops n) (step_fine p (bodies_ready p accepted) s g.0) (step_stays p (scoped_bodies p accepted) s g.0 g.1) (course_stands n)

    -- ---- all sides

    met_stands : (e : Event State) (t : State) → HasEvent p stops t e → Stands t → EventStands e
    met_stands e t m g = subst CourseStands m.1.1 (course_stands m.1.0 t g)

    meets_stands : (e : Event State) (ps : Positions) → AllMeet p stops e ps → EachStands ps → EventStands e
    meets_stands e (One t) m g = met_stands e t m g
    meets_stands e (Both t u) m g = met_stands e t m.0 g.0
    meets_stands e (FirstAlone t) m g = met_stands e t m g
    meets_stands e (SecondAlone u) m g = met_stands e u m g

    way_stands : (limit : ℕ) (t q : State) → IsUnderway p stops limit t q → Stands t → Stands q
    way_stands limit t q m g = subst CourseStands m.2.1 (course_stands m.2.0 t g)

    moves_stand : (limit : ℕ) (before written : List ℕ) (ps qs : Positions) → Moves p stops limit before ps qs written → EachStands ps → EachStands qs
    moves_stand limit before written _ _ (one t q w m k) g = way_stands limit t q m g
    moves_stand limit before written _ _ (both t u q v w m n k) g = (way_stands limit t q m g.0, way_stands limit u v n g.1)
    moves_stand limit before written _ _ (second_comes t u q w m o k) g = way_stands limit t q m g.0
    moves_stand limit before written _ _ (first_comes t u v w k n) g = way_stands limit u v n g.1
    moves_stand limit before written _ _ (first_goes t q w m k) g = way_stands limit t q m g
    moves_stand limit before written _ _ (second_goes u v n) g = way_stands limit u v n g

  -- ---- sessions

  abbrev SoundMode : Mode → Type 0
  SoundMode (Fresh s) = Stands s
  SoundMode (StoppedAt s) = AtStop s
  SoundMode (Running how ps) = EachStands ps
  SoundMode Ended = Unit {0}

  -- what an answer to a session in this mode leaves
  abbrev SoundAnswer : Mode → Answer → Type 0
  SoundAnswer m (Says lines session) = session.mode ≡ m
  SoundAnswer m (Sets s) = SoundMode (with_state p m s) × SetsBy AreFitting m (Sets s)
  SoundAnswer m (Resumes how ps) = EachStands ps
  SoundAnswer m mode.IllTyped = ⊥
  SoundAnswer m _ = Unit {0}

  -- ---- resumes

  event_sound : (session : Session) (e : Event State) → EventStands e → SoundMode (after_event p session e).mode
  event_sound session (Stopped q s) k = k
  event_sound session (Exited n s) k = tt
  event_sound session (Failed w) k = tt

  resume_sound : (st : Standing) (how : Resume) (ps : Positions) (reply : Lines) (next : Standing) → EachStands ps → ResumeReplies p st how ps reply next → SoundMode next.session.mode
  resume_sound st how ps reply next g (inl (e, i, m, r, x)) = subst (λ y. SoundMode y.session.mode) (sym x) (event_sound st.session e (meets_stands (stops_by st.session.breaks how) e ps m g))
  resume_sound st how ps reply next g (inr (inl (qs, w, m, front, r, x))) = subst (λ y. SoundMode y.session.mode) (sym x) (moves_stand (stops_by st.session.breaks how) st.session.limit st.written w ps qs m g)
  resume_sound st how ps reply next g (inr (inr (w, d, front, r, x))) = subst (λ y. SoundMode y.session.mode) (sym x) tt

  reply_sound : (st : Standing) (a : Answer) (reply : Lines) (next : Standing) → SoundMode st.session.mode → SoundAnswer st.session.mode a → AnswerReplies p st a reply next → SoundMode next.session.mode
  reply_sound st (Refuses u) reply next m q k = subst (λ x. SoundMode x.session.mode) (sym k.1) m
  reply_sound st (Says lines session) reply next m q k = subst (λ x. SoundMode x.session.mode) (sym k.1) (subst SoundMode (sym q) m)
  reply_sound st (Shows w t vs) reply next m q k = subst (λ x. SoundMode x.session.mode) (sym k.1) m
  reply_sound st (Sets s) reply next m q k = subst (λ x. SoundMode x.session.mode) (sym k.1) q.0
  reply_sound st ShowsAny reply next m q k = subst (λ x. SoundMode x.session.mode) (sym k.1) m
  reply_sound st (Resumes how ps) reply next m q k = resume_sound st how ps reply next q k
  reply_sound st (Raw n) reply next m q k = subst (λ x. SoundMode x.session.mode) (sym k.1) m
  reply_sound st EndsClaim reply next m q k = absurd k
  reply_sound st Quits reply next m q k = absurd k
  reply_sound st mode.IllTyped reply next m q k = absurd k

  -- ---- commands

  module _ (sides : Sides) (session : Session) where
    abbrev point_or_0 : Option ℕ → ℕ
    point_or_0 None = 0
    point_or_0 (Some q) = q

    at_point : (f : ℕ) (o : Option ℕ) (ls : List ℕ) → Covered p f o ls → At p f (point_or_0 o) ls
    at_point f None ls c = absurd c
    at_point f (Some q) ls c = c

    sides_stand : (n : Sides) (s : State) → Stands s → EachStands (all_at n s)
    sides_stand OneSide s g = g
    sides_stand TwoSides s g = (g, g)

    either_mode : (b : Bool) (x y : Session) (m : Mode) → x.mode ≡ m → y.mode ≡ m → (if b then x else y).mode ≡ m
    either_mode true x y m e g = e
    either_mode false x y m e g = g

    either_answer : (m : Mode) (b : Bool) (x y : Answer) → SoundAnswer m x → SoundAnswer m y → SoundAnswer m (if b then x else y)
    either_answer m true x y q k = q
    either_answer m false x y q k = k

    breaks : (o : Option ℕ) → SoundAnswer session.mode (break_at p sides session o)
    breaks None = tt
    breaks (Some q) = either_mode _ session _ session.mode refl refl

    clears : (o : Option ℕ) → SoundAnswer session.mode (clear_at p sides session o)
    clears None = tt
    clears (Some q) =
        either_answer session.mode (has_point session.breaks q) (Says ((codes "clear " ++ place_text p q) ∷ []) (record session { breaks = filter (λ r. not (r == q)) session.breaks })) (Refuses NoPlace) refl tt

    frames : (n : ℕ) (o : Option ActivationRecord) → SoundAnswer session.mode (frame_at p sides session n o)
    frames n None = tt
    frames n (Some a) = refl

    -- ---- in an activation of a state at a stop

    module _ (m : Mode) (s : State) (at : AtStop s) (a : ActivationRecord) (covered : CoveredAt p a) where
      abbrev w : World
      w = s.here.world

      abbrev here : Here
      here = record { world = w; activation = a }

      abbrev q : ℕ
      q = point_or_0 a.point

      there : At p a.function q (locals_of a.locals)
      there = at_point a.function a.point (locals_of a.locals) covered

      prints_object : (t : CType) (o : Option ℕ) (b : ℕ) → o ≡ Some b → SoundAnswer m (print_object p sides session w t o)
      prints_object t o b e = subst (λ o. SoundAnswer m (print_object p sides session w t o)) (sym e) tt

      prints_referent : (x : Referent) → LiveReferent (locals_at p q) x → SoundAnswer m (print_referent p sides session w a x)
      prints_referent (refers.Object o) l = tt
      prints_referent (refers.Local x) l = let b = bound_here x a.locals (there.0 x l) in prints_object _ (bound x a.locals) b.0 b.1
      prints_referent (refers.Function f) l = tt
      prints_referent refers.Declared l = tt

      prints_symbol : (o : Option SymbolRow) → LiveName (locals_at p q) o → SoundAnswer m (print_symbol p sides session w a o)
      prints_symbol None l = tt
      prints_symbol (Some row) l = prints_referent row.refers l

      evaluates : (t : CType) (v : Result (List Value) Why) → Gives (λ _. Unit {0}) v → SoundAnswer m (eval_gives p sides session w t v)
      evaluates t (Ok vs) g = tt
      evaluates t (Err (Reason u)) g = tt
      evaluates t (Err Stale) g = tt
      evaluates t (Err IllTyped) g = absurd g

      reads_value : (text : List ℕ) (x : Reading) → ReadsTyped p AsValue q text x → SoundAnswer m (eval_read p sides session w a x)
      reads_value text (Unread u) e = tt
      reads_value text (Read d) e =
          let k = e a.function d there.1 refl in
          let i = evaluated (as_completed p) p a.function (locals_at p q) (locals_of a.locals) there.0 (parameters_there p accepted) d k.1 in
          let l : is_struct (type_of d) ≡ true → ShapedL p (locals_of a.locals) d = λ z. located (as_completed p) p a.function (locals_at p q) (locals_of a.locals) there.0 (parameters_there p accepted) d k.1 (struct_lvalue (scope_with p a.function (locals_at p q) (as_completed p)) d k.0 k.1 z) in
          evaluates (type_of d) (values_meant p here d) (values_given p here at.0.0.world d k.0 i l)

    module _ (s : State) (at : AtStop s) (a : ActivationRecord) (covered : CoveredAt p a) where
      -- the state after an assignment
      set_stands : (u : World) → IsAssigned s.here.world u → AtStop (record s { here = record s.here { world = u } })
      set_stands u k =
          let g = at.0.0 in (
            (
              record { world = subst WorldFits (sym k.1) (assigned_fits k.0 s.here.world k.2 g.world); inner = g.inner; control = g.control; outer = g.outer },
              record { inner = at.0.1.inner; outer = at.0.1.outer },
            ),
            at.1,
          )

      sets : (v : Result Given Why) → Gives (λ g. IsAssigned s.here.world g.world) v → SoundAnswer (StoppedAt s) (assign_gives p sides session s v)
      sets (Ok g) k = (set_stands g.world k, (k.0, ap (λ w. record s { here = with_world s.here w }) k.1, k.2))
      sets (Err (Reason u)) k = tt
      sets (Err Stale) k = tt
      sets (Err IllTyped) k = absurd k

      reads_assignment : (text : List ℕ) (x : Reading) → ReadsTyped p AsAssignment (point_or_0 a.point) text x → SoundAnswer (StoppedAt s) (assign_read p sides session s a x)
      reads_assignment text (Unread u) e = tt
      reads_assignment text (Read d) e =
          let q = point_or_0 a.point in
          let there = at_point a.function a.point (locals_of a.locals) covered in
          let k = e a.function d there.1 refl in
          let i = evaluated (as_completed p) p a.function (locals_at p q) (locals_of a.locals) there.0 (parameters_there p accepted) d k.1 in
          let here : Here = record { world = s.here.world; activation = a } in
          sets (assigned p here d) (assigned_given p here at.0.0.world d k.0 i)

    in_frame_sound : (m : Mode) (o : Option ActivationRecord) (go : ActivationRecord → Answer) → ((a : ActivationRecord) → o ≡ Some a → SoundAnswer m (go a)) → SoundAnswer m (in_frame p sides session o go)
    in_frame_sound m None go k = tt
    in_frame_sound m (Some a) go k = k a refl

    chosen_sound : (s : State) (at : AtStop s) (go : ActivationRecord → Answer) → ((a : ActivationRecord) → chosen p sides session s ≡ Some a → CoveredAt p a → SoundAnswer (StoppedAt s) (go a)) → SoundAnswer (StoppedAt s) (in_frame p sides session (chosen p sides session s) go)
    chosen_sound s at go k = in_frame_sound (StoppedAt s) (chosen p sides session s) go (λ a e. k a e (all_live p accepted s session.frame a at.0.1 at.1 e))

    -- what is read in the chosen frame
    there_read : (u : Use) (text : List ℕ) (x : Reading) (o : Option ActivationRecord) (a : ActivationRecord) → o ≡ Some a → ReadsAt p sides session u text o x → ReadsTyped p u (point_of p sides session a) text x
    there_read u text x o a e k = reads_typed p u (point_of p sides session a) text x (subst (λ o. ReadsAt p sides session u text o x) e k)

    abbrev Reads : Mode → Command → Reading → Type 0
    Reads m c x = ReadsIn p sides session m c x

    -- the commands that a fresh and a stopped session answer alike; the session's mode is m
    stopped_sound : (x : Reading) (s : State) (at : AtStop s) (c : Command) → Reads (StoppedAt s) c x → session.mode ≡ StoppedAt s → SoundAnswer (StoppedAt s) (in_stopped p sides session x s c)
    stopped_sound x s at (command.Break place) k e = subst (λ m. SoundAnswer m (break_at p sides session (point_at p place))) e (breaks (point_at p place))
    stopped_sound x s at (command.Clear place) k e = subst (λ m. SoundAnswer m (clear_at p sides session (point_at p place))) e (clears (point_at p place))
    stopped_sound x s at command.Continue k e = sides_stand sides s at.0
    stopped_sound x s at command.Step k e = sides_stand sides s at.0
    stopped_sound x s at (command.Turns n) k e = e
    stopped_sound x s at command.Frames k e = e
    stopped_sound x s at (command.Frame n) k e = subst (λ m. SoundAnswer m (frame_at p sides session n (slice_get (frames_of p sides session s) n))) e (frames n (slice_get (frames_of p sides session s) n))
    stopped_sound x s at (command.Print name) k e =
        chosen_sound s at _ λ a f c.
        either_answer (StoppedAt s) (is_identifier name) (print_symbol p sides session s.here.world a (named p name (point_of p sides session a))) (Refuses (BadText BadSyntax))
        (prints_symbol (StoppedAt s) s at a c (named p name (point_of p sides session a)) (name_live p name (point_of p sides session a))) tt
    stopped_sound x s at (command.Eval text) k e = chosen_sound s at _ λ a f c. reads_value (StoppedAt s) s at a c text x (there_read AsValue text x (chosen p sides session s) a f k)
    stopped_sound x s at (command.Assign text) k e = chosen_sound s at _ λ a f c. reads_assignment s at a c text x (there_read AsAssignment text x (chosen p sides session s) a f k)
    stopped_sound x s at command.Quit k e = tt
    stopped_sound x s at command.Regs k e = tt
    stopped_sound x s at (command.Code text) k e = tt
    stopped_sound x s at (command.Ps text) k e = tt

    fresh_sound : (x : Reading) (s : State) → Stands s → (c : Command) → session.mode ≡ Fresh s → SoundAnswer (Fresh s) (in_fresh p sides session x s c)
    fresh_sound x s g (command.Break place) e = subst (λ m. SoundAnswer m (break_at p sides session (point_at p place))) e (breaks (point_at p place))
    fresh_sound x s g (command.Clear place) e = subst (λ m. SoundAnswer m (clear_at p sides session (point_at p place))) e (clears (point_at p place))
    fresh_sound x s g command.Continue e = sides_stand sides s g
    fresh_sound x s g command.Step e = sides_stand sides s g
    fresh_sound x s g (command.Turns n) e = e
    fresh_sound x s g command.Frames e = tt
    fresh_sound x s g (command.Frame n) e = tt
    fresh_sound x s g (command.Print name) e = tt
    fresh_sound x s g (command.Eval text) e = tt
    fresh_sound x s g (command.Assign text) e = tt
    fresh_sound x s g command.Quit e = tt
    fresh_sound x s g command.Regs e = tt
    fresh_sound x s g (command.Code text) e = tt
    fresh_sound x s g (command.Ps text) e = tt

    running_sound : (how : Resume) (ps : Positions) → EachStands ps → (c : Command) → session.mode ≡ Running how ps → SoundAnswer (Running how ps) (in_running p sides session how ps c)
    running_sound how ps g command.Continue e = g
    running_sound how ps g (command.Turns n) e = e
    running_sound how ps g command.Regs e = tt
    running_sound how ps g command.Quit e = tt
    running_sound how ps g _ e = tt

    ended_sound : (c : Command) → SoundAnswer Ended (in_ended p sides session c)
    ended_sound command.Quit = tt
    ended_sound _ = tt

    mode_sound : (x : Reading) (m : Mode) → SoundMode m → session.mode ≡ m → (c : Command) → Reads m c x → SoundAnswer m (by_mode p sides session x m c)
    mode_sound x (Fresh s) g e c k = fresh_sound x s g c e
    mode_sound x (StoppedAt s) g e c k = stopped_sound x s g c k e
    mode_sound x (Running how ps) g e c k = running_sound how ps g c e
    mode_sound x Ended g e c k = ended_sound c

    answer_sound : SoundMode session.mode → (x : Reading) (c : Option Command) → ReadsLine p sides session c x → SoundAnswer session.mode (answer p sides session x c)
    answer_sound g x None k = tt
    answer_sound g x (Some c) k = mode_sound x session.mode g refl c k

  -- ---- whole sessions

  has_answer : (m : Mode) (a : Answer) → SoundAnswer m a → HasAnswer a
  has_answer m (Refuses u) q = tt
  has_answer m (Says lines session) q = tt
  has_answer m (Shows w t vs) q = tt
  has_answer m (Sets s) q = tt
  has_answer m ShowsAny q = tt
  has_answer m EndsClaim q = tt
  has_answer m (Resumes how ps) q = tt
  has_answer m (Raw n) q = tt
  has_answer m Quits q = tt
  has_answer m mode.IllTyped q = q

  module _ (sides : Sides) where
    next_sound : (st next : Standing) (reply : Lines) (c : Option Command) → SoundMode st.session.mode
        → MemoryReplies st c reply next ⊎ ((x : Reading) × ReadsLine p sides st.session c x × AnswerReplies p st (answer p sides st.session x c) reply next) → SoundMode next.session.mode
    next_sound st next reply c g (inl m) = subst (λ x. SoundMode x.session.mode) (sym m.2) g
    next_sound st next reply c g (inr (x, k, a)) = reply_sound st (answer p sides st.session x c) reply next g (answer_sound sides st.session g x c k) a

    answered_sound : (st last : Standing) (cs : List (Option Command)) → SoundMode st.session.mode → AreAnswered p sides st cs last → SoundMode last.session.mode
    answered_sound st last [] g a = subst (λ x. SoundMode x.session.mode) (sym a) g
    answered_sound st last (c ∷ cs) g (reply, next, a, rest) = answered_sound next last cs (next_sound st next reply c g a) rest

    pub sessions_answer : (input : List ℕ) (cs : List (Option Command)) (st : Standing) (x : Reading) (c : Option Command) → AreAnswered p sides (at_first p input) cs st → ReadsLine p sides st.session c x
        → HasAnswer (answer p sides st.session x c)
    sessions_answer input cs st x c a k =
        let begun : Stands (begin p input) = (begins_good p input (bodies_ready p accepted) accepted.objects accepted.main (λ g fn e. (function_there p accepted g fn e).main), begins_in_scope p accepted input) in
        let g : SoundMode st.session.mode = answered_sound (at_first p input) st cs begun a in
        has_answer st.session.mode (answer p sides st.session x c) (answer_sound sides st.session g x c k)

    -- ---- and their histories

    fitting_join : (a b : List Assignment) → AreFitting a → AreFitting b → AreFitting (a ++ b)
    fitting_join [] b v w = w
    fitting_join (x ∷ a) b v w = (v.0, fitting_join a b v.1 w)

    fits_of : (m : Mode) (a : Answer) → SoundAnswer m a → SetsBy AreFitting m a
    fits_of m (Sets t) q = q.1
    fits_of m (Refuses u) q = tt
    fits_of m (Says lines session) q = tt
    fits_of m (Shows w t vs) q = tt
    fits_of m ShowsAny q = tt
    fits_of m (Resumes how ps) q = tt
    fits_of m (Raw n) q = tt
    fits_of m EndsClaim q = tt
    fits_of m Quits q = tt
    fits_of m mode.IllTyped q = tt

    module _ (input : List ℕ) where
      abbrev Fits : Mode → Type 0
      Fits m = Follows p input AreFitting tt fitting_join m

      next_fits : (st next : Standing) (reply : Lines) (c : Option Command) → SoundMode st.session.mode → Fits st.session.mode
          → MemoryReplies st c reply next ⊎ ((x : Reading) × ReadsLine p sides st.session c x × AnswerReplies p st (answer p sides st.session x c) reply next) → Fits next.session.mode
      next_fits st next reply c g f (inl m) = same_next p input AreFitting tt fitting_join st next m.2 f
      next_fits st next reply c g f (inr (x, k, a)) =
          replied p input AreFitting tt fitting_join st (answer p sides st.session x c) reply next f (leaves p input AreFitting tt fitting_join sides st.session x c)
          (fits_of st.session.mode (answer p sides st.session x c) (answer_sound sides st.session g x c k)) a

      answered_fits : (st last : Standing) (cs : List (Option Command)) → SoundMode st.session.mode → Fits st.session.mode → AreAnswered p sides st cs last → Fits last.session.mode
      answered_fits st last [] g f a = subst (λ x. Fits x.session.mode) (sym a) f
      answered_fits st last (c ∷ cs) g f (reply, next, a, rest) = answered_fits next last cs (next_sound st next reply c g a) (next_fits st next reply c g f a) rest

      pub sessions_fit : (cs : List (Option Command)) (st : Standing) → AreAnswered p sides (at_first p input) cs st → (h : History) × IsModeReached p input h st.session.mode × IsFitting h
      sessions_fit cs st a =
          let begun : Stands (begin p input) = (begins_good p input (bodies_ready p accepted) accepted.objects accepted.main (λ g fn e. (function_there p accepted g fn e).main), begins_in_scope p accepted input) in
          mode_reached p input AreFitting tt fitting_join st.session.mode (answered_fits (at_first p input) st cs begun (begins_followed p input AreFitting tt fitting_join) a)
