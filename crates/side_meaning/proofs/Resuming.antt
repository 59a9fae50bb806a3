-- A resume of a side, and that of the machine session.
use Rattle.std.proofs.Common.{◌≡◌, ◌⊎◌, ◌∙◌, refl, sym, ap, subst, inl, inr, ℕ, nat_eq, Bool, true, false, if◌then◌else◌, List, [], ◌∷◌, map, Option, Some, None, option_map, Result, Ok, Err}
use Rattle.ldb_words.specs.declared.event.FaultKind.TheVariants as kind
use Rattle.ldb_words.specs.declared.event.Outside.{Outside}
use Rattle.ldb_words.specs.declared.kinds.Kind.TheVariants.{Word}
use Rattle.ldb_words.specs.Word.{sum_of}
use Rattle.machine_state.specs.declared.layout.TheConstants.{CONTEXT}
use Rattle.machine_state.specs.Regions.{Regions, write_of}
use Rattle.machine_state.specs.State.{MachineState, Behaviour, order_of}
use Rattle.nub_wire.specs.declared.message.Ending.{Ending}
use Rattle.nub_wire.specs.declared.message.Ending.TheVariants as ending
use Rattle.nub_wire.specs.declared.message.Reason.TheVariants as reason
use Rattle.nub_wire.specs.Nub.{Host}
use Rattle.nub_wire.specs.Resumes.{Whole, run_from, after_run}
use Rattle.frame_bytes.specs.declared.frame.Space.TheVariants.{Memory}
use Rattle.frame_bytes.specs.Bytes.{Bytes, stored, or_none}
use Rattle.ps_store.specs.StoreState.{StoreState}
use Rattle.table_model.specs.Rows.{PointRow}
use Rattle.table_points.specs.declared.row.Point.{Point}
use Rattle.table_points.specs.Rows.{row_in}
use Rattle.break_plant.specs.Planted.{noop_of}
use Rattle.steady_machines.specs.Steady.{RunsAreSteady}
use Rattle.debug_side.specs.declared.event.Event.{Event}
use Rattle.debug_side.specs.declared.event.Event.TheVariants as event
use Rattle.debug_side.specs.declared.point.MachineKind.{MachineKind}
use Rattle.debug_side.specs.declared.point.SideRow.{SideRow}
use Rattle.debug_side.specs.Meant.{address_of, point_at, stop_or, stop_of, event_of, stop_address, stood, is_turns, keeps_words, words_left}
use Rattle.debug_side.specs.Wrote.{or_same, word_put, words_put, passed}
use Rattle.debug_side.specs.Told.{moved, behind, put_by, came, at_event, moved_there, its_run, its_event, its_output, host_at_event, host_behind}
use Rattle.claims.specs.Side.{SideEvent, SideState, memory_of, with_memory, context_place, PC_WORD, NEXT_PC_WORD}
use Rattle.claims.specs.Breaks.{with_word, words_removed, remove_step_words, at_address, stop_at}
use Rattle.claims.specs.Resumes.{SideRun, with_context_word, past_no_op, stop_or_fault, event_by, after_event, resume_side}
use Rattle.claims.specs.Resumes as claimed
use Rattle.side_meaning.specs.Standing.{event_in, events_in, IsPlanted, IsLeft, IsAlike}

-- ---- past the no-op

abbrev written_by : MachineState → Result Regions Outside → MachineState
written_by m (Ok r) = record m { memory = r }
written_by m (Err e) = m

context_written : (m : MachineState) (x : Result Regions Outside) → written_by m x ≡ record m { memory = or_same m.memory (or_none x) }
context_written m (Ok r) = refl
context_written m (Err e) = refl

context_word : (n w : ℕ) (m : MachineState) → with_context_word n w m ≡ record m { memory = word_put (order_of m) w (context_place n) m.memory }
context_word n w m = context_written m (write_of (order_of m) m.memory (context_place n) 4 w)

past_it : (at : Option ℕ) (m : MachineState) → past_no_op at m ≡ record m { memory = passed CONTEXT at (order_of m) m.memory }
past_it None m = refl
past_it (Some at) m =
    context_word NEXT_PC_WORD (sum_of at 8) (with_context_word PC_WORD (sum_of at 4) m)
    ∙ ap (λ (n : MachineState). record n { memory = word_put (order_of n) (sum_of at 8) (context_place NEXT_PC_WORD) n.memory }) (context_word PC_WORD (sum_of at 4) m)

moved_machine : (context : ℕ) (at : Option ℕ) (h : Host) → context ≡ CONTEXT → (moved context at h).machine ≡ past_no_op at h.machine
moved_machine context at h e = ap (λ (c : ℕ). (moved c at h).machine) e ∙ sym (past_it at h.machine)

-- ---- events

abbrev first_of : Option PointRow → Option PointRow → Option PointRow
first_of (Some p) other = Some p
first_of None other = other

module _ (s : StoreState) where
  row_by : (b : Bool) (p : Point) (ps : List Point) (pc : ℕ) → at_address pc (map (row_in s) ps) ≡ option_map (row_in s) (point_at ps pc)
      → (if b then Some (row_in s p) else at_address pc (map (row_in s) ps)) ≡ option_map (row_in s) (if b then Some p else point_at ps pc)
  row_by true p ps pc e = refl
  row_by false p ps pc e = e

  row_at : (ps : List Point) (pc : ℕ) → at_address pc (map (row_in s) ps) ≡ option_map (row_in s) (point_at ps pc)
  row_at [] pc = refl
  row_at (p ∷ ps) pc = row_by (nat_eq p.at pc) p ps pc (row_at ps pc)

  stop_in : (x y : Option Point) (pc : ℕ) → event_in s (stop_or x (stop_or y (event.Faults kind.Break pc))) ≡ stop_or_fault (first_of (option_map (row_in s) x) (option_map (row_in s) y)) pc
  stop_in (Some p) y pc = refl
  stop_in None (Some p) pc = refl
  stop_in None None pc = refl

  stop_met : (breaks words : List Point) (a : SideState) (pc : ℕ) → a.breaks ≡ map (row_in s) breaks → a.step_words ≡ map (row_in s) words → event_in s (stop_of breaks words pc) ≡ stop_or_fault (stop_at a pc) pc
  stop_met breaks words a pc e f =
      stop_in (point_at breaks pc) (point_at words pc) pc
      ∙ (ap (λ (x : Option PointRow). stop_or_fault (first_of x (option_map (row_in s) (point_at words pc))) pc) (sym (ap (at_address pc) e ∙ row_at breaks pc))
      ∙ ap (λ (y : Option PointRow). stop_or_fault (first_of (at_address pc a.breaks) y) pc) (sym (ap (at_address pc) f ∙ row_at words pc)))

  events_meet : (breaks words : List Point) (a : SideState) → a.breaks ≡ map (row_in s) breaks → a.step_words ≡ map (row_in s) words → (e : Ending) → event_in s (event_of breaks words e) ≡ event_by a e
  events_meet breaks words a e f (ending.Stopped reason.Break pc) = stop_met breaks words a pc e f
  events_meet breaks words a e f (ending.Stopped reason.Pause pc) = refl
  events_meet breaks words a e f (ending.Exited status) = refl
  events_meet breaks words a e f (ending.Faulted fault pc) = refl
  events_meet breaks words a e f ending.Turns = refl
  events_meet breaks words a e f ending.Stack = refl

  same_address : (e : Event) → claimed.stop_address (event_in s e) ≡ stop_address e
  same_address (event.Stops p) = refl
  same_address (event.Pauses pc) = refl
  same_address (event.Exits status) = refl
  same_address (event.Faults fault pc) = refl
  same_address event.OutOfTurns = refl
  same_address event.OutOfStack = refl

-- ---- the words of a step put back

abbrev pub put_back : Bytes → Option Regions → Option Bytes
put_back b None = None
put_back b (Some r) = Some (record b { regions = r })

abbrev pub bytes_in : SideState → Option Bytes → Option SideState
bytes_in a None = None
bytes_in a (Some b) = Some (with_memory b.regions a)

abbrev pub or_side : SideState → Option SideState → SideState
or_side a None = a
or_side a (Some a') = a'

pub stored_is : (b : Bytes) (at w : ℕ) → stored b Memory at Word w ≡ put_back b (or_none (write_of b.order b.regions at 4 w))
unfolding stored
stored_is b at w = refl

by_regions : (a : SideState) (o : Option Regions) → or_side a (bytes_in a (put_back (memory_of a) o)) ≡ with_memory (or_same a.machine.memory o) a
by_regions a None = refl
by_regions a (Some r) = refl

pub one_removed : (a : SideState) (at w : ℕ) → or_side a (with_word a at w) ≡ with_memory (word_put (order_of a.machine) w at a.machine.memory) a
one_removed a at w = ap (λ (b : Option Bytes). or_side a (bytes_in a b)) (stored_is (memory_of a) at w) ∙ by_regions a (or_none (write_of (order_of a.machine) a.machine.memory at 4 w))

abbrev cleaned : List Point → SideState → SideState
cleaned ps a = with_memory (words_put (order_of a.machine) (noop_of a.machine.target) (map address_of ps) a.machine.memory) a

removed : (s : StoreState) (ps : List Point) (a : SideState) → words_removed (map (row_in s) ps) a ≡ cleaned ps a
removed s [] a = refl
removed s (p ∷ ps) a =
    ap (words_removed (map (row_in s) ps)) (one_removed a p.at (noop_of a.machine.target))
    ∙ removed s ps (with_memory (word_put (order_of a.machine) (noop_of a.machine.target) p.at a.machine.memory) a)

abbrev unworded : List Point → SideState → SideState
unworded ps a = record (cleaned ps a) { step_words = [] }

all_removed : (s : StoreState) (ps : List Point) (a : SideState) → a.step_words ≡ map (row_in s) ps → remove_step_words a ≡ unworded ps a
all_removed s ps a e =
    ap (λ (l : List PointRow). record (words_removed l a) { step_words = [] }) e ∙ ap (λ (x : SideState). record x { step_words = [] }) (removed s ps a)

after_event_is : (s : StoreState) (ps : List Point) (a : SideState) → a.step_words ≡ map (row_in s) ps → (e : Event) → after_event (event_in s e) a ≡ (if is_turns e then a else unworded ps a)
after_event_is s ps a h (event.Stops p) = all_removed s ps a h
after_event_is s ps a h (event.Pauses pc) = all_removed s ps a h
after_event_is s ps a h (event.Exits status) = all_removed s ps a h
after_event_is s ps a h (event.Faults fault pc) = all_removed s ps a h
after_event_is s ps a h event.OutOfTurns = refl
after_event_is s ps a h event.OutOfStack = all_removed s ps a h

-- ---- where the words are

-- by whether they may stay, the points with such words, the nub with its machine, and the other side
abbrev Placed : StoreState → (stay : Bool) → List Point → Host → SideState → Type 0
Placed s stay ps h a =
    ((a.step_words ≡ map (row_in s) ps) × (a.machine ≡ h.machine))
    ⊎ ((stay ≡ true) × (a.step_words ≡ []) × (a.machine ≡ (behind false h.machine.target ps h).machine))

module _ (s : StoreState) (ps : List Point) (h : Host) (target : ℕ) (a : SideState) (words : a.step_words ≡ map (row_in s) ps) (machine : a.machine ≡ h.machine) (same : target ≡ h.machine.target) where
  abbrev memory_by : MachineState → MachineState
  memory_by m = record m { memory = words_put (order_of m) (noop_of m.target) (map address_of ps) m.memory }

  both_cleaned : Placed s false [] (behind false target ps h) (unworded ps a)
  both_cleaned = inl (refl, ap memory_by machine ∙ ap (λ (t : ℕ). (behind false t ps h).machine) (sym same))

  -- whether the words may stay, and whether the turns were used up
  placed : (stay turns : Bool) → let keep : Bool = if stay then true else turns in Placed s stay (if keep then ps else []) (behind keep target ps h) (if turns then a else unworded ps a)
  placed true true = inl (words, machine)
  placed true false = inr (refl, refl, ap memory_by machine)
  placed false true = inl (words, machine)
  placed false false = both_cleaned

to_words : (s : StoreState) (row : SideRow) (h : Host) (a : SideState) (stay : Bool) (ps : List Point) → row.words_stay ≡ stay → row.step_words.items ≡ ps → Placed s stay ps h a → IsPlanted s row h a ⊎ IsLeft row h a
to_words s row h a stay ps st e (inl p) = inl (record { words = p.0 ∙ ap (map (row_in s)) (sym e); machine = p.1 })
to_words s row h a stay ps st e (inr l) = inr (record { stay = st ∙ l.0; words = l.1; machine = l.2 ∙ ap (λ (x : List Point). (behind false h.machine.target x h).machine) (sym e) })

-- ---- a resume

-- what it leaves of what is kept of a side
pub record Leaves (row row' : SideRow) (e : Event) : Type 0 where
  pub stands_at : row'.stands_at ≡ stood row.kept row.stands_at e
  pub words : row'.step_words.items ≡ words_left row e
  pub kept : row'.kept ≡ row.kept
  pub breaks : row'.breaks ≡ row.breaks
  pub stay : row'.words_stay ≡ row.words_stay

-- the machine session's resume has this event and output, and the side after it is alike; its words are known where the turns were used up
pub record Resumed (s : StoreState) (event : Event) (output : List ℕ) (row : SideRow) (h : Host) (w : SideRun) : Type 0 where
  pub event_is : event_in s event ≡ w.event
  pub output_is : output ≡ w.output
  pub alike : IsAlike s row h w.side

abbrev pub side_by : SideState → SideEvent → SideState
side_by a v = record (after_event v a) { stands_at = claimed.stop_address v }

abbrev pub ran_by : SideState → Whole → SideRun
ran_by a w = record { event = event_by a w.ending; output = w.output; side = side_by (record a { machine = w.machine }) (event_by a w.ending) }

pub run_side : (b : Behaviour) (limit : ℕ) (a : SideState) → a.kept ≡ None → resume_side b limit a ≡ ran_by a (run_from b limit (past_no_op a.stands_at a.machine))
run_side b limit a e = rw e refl

abbrev pub kept_by : SideState → SideEvent → SideRun
kept_by a v = record { event = v; output = []; side = remove_step_words a }

pub kept_side : (b : Behaviour) (limit : ℕ) (a : SideState) (v : SideEvent) → a.kept ≡ Some v → resume_side b limit a ≡ kept_by a v
kept_side b limit a v e = rw e refl

-- the side behind its event
abbrev final_by : List Point → Bool → Option ℕ → SideState → SideState
final_by ps true at a = record a { stands_at = at }
final_by ps false at a = record (unworded ps a) { stands_at = at }

final_is : (ps : List Point) (turns : Bool) (at : Option ℕ) (a : SideState) → record (if turns then a else unworded ps a) { stands_at = at } ≡ final_by ps turns at a
final_is ps true at a = refl
final_is ps false at a = refl

side_is : (s : StoreState) (ps : List Point) (a : SideState) (v : SideEvent) (e : Event) → a.step_words ≡ map (row_in s) ps → event_in s e ≡ v → side_by a v ≡ final_by ps (is_turns e) (stop_address e) a
side_is s ps a v e h same =
    ap (side_by a) (sym same)
    ∙ (ap (λ (x : SideState). record x { stands_at = claimed.stop_address (event_in s e) }) (after_event_is s ps a h e)
    ∙ (ap (λ (at : Option ℕ). record (if is_turns e then a else unworded ps a) { stands_at = at }) (same_address s e) ∙ final_is ps (is_turns e) (stop_address e) a))

placed_final : (s : StoreState) (stay : Bool) (qs ps : List Point) (h : Host) (turns : Bool) (at : Option ℕ) (a : SideState) → Placed s stay qs h (if turns then a else unworded ps a) → Placed s stay qs h (final_by ps turns at a)
placed_final s stay qs ps h true at a p = p
placed_final s stay qs ps h false at a p = p

stands_final : (s : StoreState) (row : SideRow) (h : Host) (ps : List Point) (turns : Bool) (at : Option ℕ) (a : SideState) → a.breaks ≡ map (row_in s) row.breaks.items → at ≡ row.stands_at → a.kept ≡ events_in s row.kept
    → IsPlanted s row h (final_by ps turns at a) ⊎ IsLeft row h (final_by ps turns at a) → IsAlike s row h (final_by ps turns at a)
stands_final s row h ps true at a x y z w = record { breaks = x; stands_at = y; kept = z; words = w }
stands_final s row h ps false at a x y z w = record { breaks = x; stands_at = y; kept = z; words = w }

keep_none : (stay : Bool) (e : Event) → (if stay then true else is_turns e) ≡ keeps_words stay None e
keep_none true e = refl
keep_none false e = refl

keep_some : (stay : Bool) (k e : Event) → (if stay then true else false) ≡ keeps_words stay (Some k) e
keep_some true k e = refl
keep_some false k e = refl

keeps_turns : (stay : Bool) (kept : Option Event) (e : Event) → kept ≡ None → e ≡ event.OutOfTurns → keeps_words stay kept e ≡ true
keeps_turns true kept e k t = refl
keeps_turns false None e k t = ap is_turns t
keeps_turns false (Some x) e k t = cc

module _ (b : Behaviour) (kind : MachineKind) (s : StoreState) (limit : ℕ) (row row' : SideRow) (h : Host) (a : SideState) (steady : RunsAreSteady b) (context : kind.context ≡ CONTEXT) (target : kind.target ≡ h.machine.target) (for : IsAlike s row h a)
    (l : Leaves row row' (its_event b kind row limit h)) where
  abbrev Goal : SideRun → Type 0
  Goal w = Resumed s (its_event b kind row limit h) (its_output b kind row limit h) row' (host_behind b kind row limit h) w

  breaks_still : a.breaks ≡ map (row_in s) row'.breaks.items
  breaks_still = for.breaks ∙ ap (λ (v : _). map (row_in s) v.items) (sym l.breaks)

  kept_still : a.kept ≡ events_in s row'.kept
  kept_still = for.kept ∙ ap (events_in s) (sym l.kept)

  -- the words, by whether they are kept
  words_by : (keep : Bool) (there : Host) (x : SideState) → keep ≡ keeps_words row.words_stay row.kept (its_event b kind row limit h) → host_at_event b kind row limit h ≡ there
      → Placed s row.words_stay (if keep then row.step_words.items else []) (behind keep kind.target row.step_words.items there) x
      → IsPlanted s row' (host_behind b kind row limit h) x ⊎ IsLeft row' (host_behind b kind row limit h) x
  words_by keep there x k e p =
      let qs : row'.step_words.items ≡ (if keep then row.step_words.items else []) = l.words ∙ ap (λ (z : Bool). if z then row.step_words.items else []) (sym k) in
      let hs : behind keep kind.target row.step_words.items there ≡ host_behind b kind row limit h =
      ap (λ (g : Host). behind keep kind.target row.step_words.items g) (sym e) ∙ ap (λ (z : Bool). behind z kind.target row.step_words.items (host_at_event b kind row limit h)) k in
      to_words s row' (host_behind b kind row limit h) x row.words_stay (if keep then row.step_words.items else []) l.stay qs (subst (λ (g : Host). Placed s row.words_stay (if keep then row.step_words.items else []) g x) hs p)

  -- a side that has no event yet is run
  module _ (k : row.kept ≡ None) (p : IsPlanted s row h a) where
    abbrev its_whole : Whole
    its_whole = its_run b kind row limit h

    abbrev at_its_end : SideState
    at_its_end = record a { machine = its_whole.machine }

    its_event_meets : event_in s (its_event b kind row limit h) ≡ event_by a its_whole.ending
    its_event_meets =
        ap (λ (z : Option Event). event_in s (came z row its_whole)) k ∙ events_meet s row.breaks.items row.step_words.items a for.breaks p.words its_whole.ending

    is_run : resume_side b limit a ≡ ran_by a its_whole
    is_run =
        let begins : (moved_there b kind row limit h).machine ≡ past_no_op a.stands_at a.machine =
        moved_machine kind.context row.stands_at h context
        ∙ (ap (λ (at : Option ℕ). past_no_op at h.machine) (sym for.stands_at) ∙ ap (past_no_op a.stands_at) (sym p.machine)) in
        run_side b limit a (for.kept ∙ ap (events_in s) k) ∙ ap (λ (m : MachineState). ran_by a (run_from b limit m)) (sym begins)

    is_final_side : side_by at_its_end (event_by a its_whole.ending) ≡ final_by row.step_words.items (is_turns (its_event b kind row limit h)) (stop_address (its_event b kind row limit h)) at_its_end
    is_final_side = side_is s row.step_words.items at_its_end (event_by a its_whole.ending) (its_event b kind row limit h) p.words its_event_meets

  runs : row.kept ≡ None → IsPlanted s row h a → Goal (resume_side b limit a)
  runs k p =
      let w : Whole = its_run b kind row limit h in
      let e : Event = its_event b kind row limit h in
      let x : SideState = record a { machine = w.machine } in
      let ps : List Point = row.step_words.items in
      let meets : event_in s e ≡ event_by a w.ending = its_event_meets k p in
      let is : resume_side b limit a ≡ ran_by a w = is_run k p in
      let side : side_by x (event_by a w.ending) ≡ final_by ps (is_turns e) (stop_address e) x = is_final_side k p in
      let same : kind.target ≡ w.machine.target = target ∙ sym (steady limit (moved_there b kind row limit h).machine).target in
      let keep : (if row.words_stay then true else is_turns e) ≡ keeps_words row.words_stay row.kept e = keep_none row.words_stay e ∙ ap (λ (z : Option Event). keeps_words row.words_stay z e) (sym k) in
      let there : host_at_event b kind row limit h ≡ after_run w (moved_there b kind row limit h) = ap (λ (z : Option Event). at_event z w h (moved_there b kind row limit h)) k in
      let at : stop_address e ≡ row'.stands_at = sym (l.stands_at ∙ ap (λ (z : Option Event). stood z row.stands_at e) k) in
      let words = words_by (if row.words_stay then true else is_turns e) (after_run w (moved_there b kind row limit h)) (final_by ps (is_turns e) (stop_address e) x) keep there
      (placed_final s row.words_stay (if (if row.words_stay then true else is_turns e) then ps else []) ps (behind (if row.words_stay then true else is_turns e) kind.target ps (after_run w (moved_there b kind row limit h))) (is_turns e) (stop_address e) x
      (placed s ps (after_run w (moved_there b kind row limit h)) kind.target x p.words refl same row.words_stay (is_turns e))) in
      let stands : IsAlike s row' (host_behind b kind row limit h) (final_by ps (is_turns e) (stop_address e) x) =
      stands_final s row' (host_behind b kind row limit h) ps (is_turns e) (stop_address e) x breaks_still at kept_still words in
      subst Goal (sym is)
      (record {
        event_is = meets;
        output_is = ap (λ (z : Option Event). put_by z w) k;
        alike = subst (IsAlike s row' (host_behind b kind row limit h)) (sym side) stands;
      })

  left_where : (turns : Bool) → turns ≡ true → (at : Option ℕ) (x : SideState) → (final_by row.step_words.items turns at x).step_words ≡ x.step_words × ((final_by row.step_words.items turns at x).machine ≡ x.machine)
  left_where true t at x = (refl, refl)
  left_where false t at x = cc

  -- where the turns were used up the words stay known
  pub planted_after : row.kept ≡ None → IsPlanted s row h a → its_event b kind row limit h ≡ event.OutOfTurns → IsPlanted s row' (host_behind b kind row limit h) (resume_side b limit a).side
  planted_after k p turns =
      let w : Whole = its_run b kind row limit h in
      let e : Event = its_event b kind row limit h in
      let x : SideState = record a { machine = w.machine } in
      let stays = left_where (is_turns e) (ap is_turns turns) (stop_address e) x in
      let side : (resume_side b limit a).side ≡ final_by row.step_words.items (is_turns e) (stop_address e) x = ap (λ (r : SideRun). r.side) (is_run k p) ∙ is_final_side k p in
      let keep : keeps_words row.words_stay row.kept e ≡ true = keeps_turns row.words_stay row.kept e k turns in
      let there : host_behind b kind row limit h ≡ after_run w (moved_there b kind row limit h) =
      ap (λ (z : Bool). behind z kind.target row.step_words.items (host_at_event b kind row limit h)) keep
      ∙ ap (λ (z : Option Event). at_event z w h (moved_there b kind row limit h)) k in
      record {
        words = ap (λ (y : SideState). y.step_words) side
            ∙ (stays.0 ∙ (p.words ∙ ap (map (row_in s)) (sym (l.words ∙ ap (λ (z : Bool). if z then row.step_words.items else []) keep))));
        machine = ap (λ (y : SideState). y.machine) side ∙ (stays.1 ∙ ap (λ (g : Host). g.machine) (sym there));
      }

  there_kept : (k : Event) → row.kept ≡ Some k → host_at_event b kind row limit h ≡ h
  there_kept k e = ap (λ (z : Option Event). at_event z (its_run b kind row limit h) h (moved_there b kind row limit h)) e

  keep_kept : (k : Event) → row.kept ≡ Some k → (if row.words_stay then true else false) ≡ keeps_words row.words_stay row.kept (its_event b kind row limit h)
  keep_kept k e = keep_some row.words_stay k (its_event b kind row limit h) ∙ ap (λ (z : Option Event). keeps_words row.words_stay z (its_event b kind row limit h)) (sym e)

  stands_kept : (ps : List Point) → a.step_words ≡ map (row_in s) ps → a.stands_at ≡ row'.stands_at
      → IsPlanted s row' (host_behind b kind row limit h) (unworded ps a) ⊎ IsLeft row' (host_behind b kind row limit h) (unworded ps a) → IsAlike s row' (host_behind b kind row limit h) (remove_step_words a)
  stands_kept ps e at w =
      subst (IsAlike s row' (host_behind b kind row limit h)) (sym (all_removed s ps a e)) (record { breaks = breaks_still; stands_at = at; kept = kept_still; words = w })

  keeps_words_by : (k : Event) → row.kept ≡ Some k → a.stands_at ≡ row'.stands_at → IsPlanted s row h a ⊎ IsLeft row h a → IsAlike s row' (host_behind b kind row limit h) (remove_step_words a)
  keeps_words_by k e at (inl p) =
      stands_kept row.step_words.items p.words at
      (words_by (if row.words_stay then true else false) h (unworded row.step_words.items a) (keep_kept k e) (there_kept k e) (placed s row.step_words.items h kind.target a p.words p.machine target row.words_stay false))
  keeps_words_by k e at (inr q) =
      stands_kept [] q.words at
      (words_by true h (unworded [] a) (ap (λ (z : Bool). if z then true else false) (sym q.stay) ∙ keep_kept k e) (there_kept k e) (inr (q.stay, refl, q.machine)))

  keeps : (k : Event) → row.kept ≡ Some k → Goal (resume_side b limit a)
  keeps k e =
      let is : resume_side b limit a ≡ kept_by a (event_in s k) = kept_side b limit a (event_in s k) (for.kept ∙ ap (events_in s) e) in
      let at : a.stands_at ≡ row'.stands_at = for.stands_at ∙ sym (l.stands_at ∙ ap (λ (z : Option Event). stood z row.stands_at (its_event b kind row limit h)) e) in
      subst Goal (sym is)
      (record {
        event_is = ap (λ (z : Option Event). event_in s (came z row (its_run b kind row limit h))) e;
        output_is = ap (λ (z : Option Event). put_by z (its_run b kind row limit h)) e;
        alike = keeps_words_by k e at for.words;
      })

  by_kept : (row.kept ≡ None → IsPlanted s row h a) → (k : Option Event) → row.kept ≡ k → Goal (resume_side b limit a)
  by_kept may None e = runs e (may e)
  by_kept may (Some k) e = keeps k e

  pub alike_after : (row.kept ≡ None → IsPlanted s row h a) → Goal (resume_side b limit a)
  alike_after may = by_kept may row.kept refl
