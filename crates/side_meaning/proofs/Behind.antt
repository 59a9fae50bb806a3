-- What a resume leaves of a side, and of that of the machine session.
use Rattle.std.proofs.Common.{◌≡◌, ◌≢◌, ◌⊎◌, ◌∙◌, refl, sym, ap, subst, inl, inr, ℕ, Bool, true, false, if◌then◌else◌, List, [], ◌∷◌, map, Option, Some, None, Ok}
use Rattle.std.specs.List.{list_all}
use Rattle.machine_state.specs.declared.layout.TheConstants.{CONTEXT}
use Rattle.machine_state.specs.Regions.{Regions}
use Rattle.machine_state.specs.State.{Behaviour, order_of, order_of_target}
use Rattle.machine_state.specs.Sound.{IsMemory}
use Rattle.nub_wire.specs.declared.message.Ending.{Ending}
use Rattle.nub_wire.specs.declared.message.Ending.TheVariants as ending
use Rattle.nub_wire.specs.Nub.{NubState, Host}
use Rattle.nub_wire.specs.Resumes.{Whole, run_from, shut_by}
use Rattle.frame_bytes.specs.Bytes.{Bytes, bytes_of, no_places}
use Rattle.ps_store.specs.StoreState.{StoreState}
use Rattle.table_model.specs.Rows.{PointRow}
use Rattle.table_model.specs.Places.{all_points}
use Rattle.table_points.specs.declared.row.Point.{Point}
use Rattle.table_points.specs.Rows.{row_in}
use Rattle.break_plant.specs.Planted.{noop_of}
use Rattle.steady_machines.specs.Steady.{RunsAreSteady}
use Rattle.debug_side.specs.declared.event.Event.{Event}
use Rattle.debug_side.specs.declared.event.Event.TheVariants as event
use Rattle.debug_side.specs.declared.point.MachineKind.{MachineKind}
use Rattle.debug_side.specs.declared.point.SideRow.{SideRow}
use Rattle.debug_side.specs.Meant.{address_of, event_of, keeps_words, stands_in_text}
use Rattle.debug_side.specs.Wrote.{word_put, words_put}
use Rattle.debug_side.specs.Planting.{PutsWords}
use Rattle.debug_side.specs.Told.{MayRun, behind, at_event, came, moved_there, its_run, its_event, its_output, host_at_event, host_behind}
use Rattle.claims.specs.Side.{SideEvent, Stops, Pauses, Exits, Faults, OutOfTurns, OutOfStack, is_final, SideState, with_memory}
use Rattle.claims.specs.Breaks.{with_word, words_removed, remove_step_words}
use Rattle.claims.specs.Resumes.{SideRun, past_no_op, after_event, resume_side, keeps, frame_after, side_after, event_by}
use Rattle.side_meaning.specs.Standing.{Debugged, event_in, events_in, EndsWith, IsTable, cleared, IsPlanted, IsLeft, IsAgain, StaysAgain, IsAlike, StandsFor, MayResume}
use Rattle.side_meaning.specs.Stepping.{StepsAreAgain}
use Rattle.side_meaning.specs.Resuming.{IsResumed, IsMeant, ResumesAreMeant, TheyMayRun}
use Rattle.side_meaning.proofs.Resuming.{or_side, one_removed, run_side, kept_side, Leaves, Resumed, alike_after, planted_after}
use Rattle.side_meaning.proofs.Memories.{words_memory, passed_text}

-- ---- its table and its chosen frame stay

module _ {T : Type 0} (of : SideState → T) (words : (ws : List PointRow) (a : SideState) → of (record a { step_words = ws }) ≡ of a) (memory : (r : Regions) (a : SideState) → of (with_memory r a) ≡ of a) where
  kept_removed : (ps : List PointRow) (a : SideState) → of (words_removed ps a) ≡ of a
  kept_removed [] a = refl
  kept_removed (p ∷ ps) a =
      kept_removed ps (or_side a (with_word a p.at (noop_of a.machine.target)))
      ∙ (ap of (one_removed a p.at (noop_of a.machine.target)) ∙ memory (word_put (order_of a.machine) (noop_of a.machine.target) p.at a.machine.memory) a)

  kept_cleaned : (a : SideState) → of (remove_step_words a) ≡ of a
  kept_cleaned a = words [] (words_removed a.step_words a) ∙ kept_removed a.step_words a

  kept_after : (e : SideEvent) (a : SideState) → of (after_event e a) ≡ of a
  kept_after (Stops p) a = kept_cleaned a
  kept_after (Pauses pc) a = kept_cleaned a
  kept_after (Exits status) a = kept_cleaned a
  kept_after (Faults fault pc) a = kept_cleaned a
  kept_after OutOfTurns a = refl
  kept_after OutOfStack a = kept_cleaned a

table_run : (b : Behaviour) (limit : ℕ) (a : SideState) (k : Option SideEvent) → a.kept ≡ k → (resume_side b limit a).side.table ≡ a.table
table_run b limit a None e =
    let w : Whole = run_from b limit (past_no_op a.stands_at a.machine) in
    ap (λ (r : SideRun). r.side.table) (run_side b limit a e)
    ∙ kept_after (λ (x : SideState). x.table) (λ ws x. refl) (λ r x. refl) (event_by a w.ending) (record a { machine = w.machine })
table_run b limit a (Some k) e = ap (λ (w : SideRun). w.side.table) (kept_side b limit a k e) ∙ kept_cleaned (λ (x : SideState). x.table) (λ ws x. refl) (λ r x. refl) a

frame_run : (b : Behaviour) (limit : ℕ) (a : SideState) (k : Option SideEvent) → a.kept ≡ k → (resume_side b limit a).side.frame ≡ a.frame
frame_run b limit a None e =
    let w : Whole = run_from b limit (past_no_op a.stands_at a.machine) in
    ap (λ (r : SideRun). r.side.frame) (run_side b limit a e)
    ∙ kept_after (λ (x : SideState). x.frame) (λ ws x. refl) (λ r x. refl) (event_by a w.ending) (record a { machine = w.machine })
frame_run b limit a (Some k) e = ap (λ (w : SideRun). w.side.frame) (kept_side b limit a k e) ∙ kept_cleaned (λ (x : SideState). x.frame) (λ ws x. refl) (λ r x. refl) a

-- ---- the end of a nub's run

ends_open : (k : Option SideEvent) → EndsWith k None
ends_open None = refl
ends_open (Some k) = inl refl

-- an event after which nothing runs is kept
final_kept : (all v : SideEvent) → is_final v ≡ true → keeps all v ≡ Some v
final_kept OutOfTurns (Stops p) e = cc
final_kept OutOfTurns (Pauses pc) e = cc
final_kept OutOfTurns (Exits status) e = refl
final_kept OutOfTurns (Faults fault pc) e = refl
final_kept OutOfTurns OutOfStack e = refl
final_kept (Stops q) (Stops p) e = cc
final_kept (Stops q) (Pauses pc) e = cc
final_kept (Stops q) (Exits status) e = refl
final_kept (Stops q) (Faults fault pc) e = refl
final_kept (Stops q) OutOfStack e = refl
final_kept (Pauses q) (Stops p) e = cc
final_kept (Pauses q) (Pauses pc) e = cc
final_kept (Pauses q) (Exits status) e = refl
final_kept (Pauses q) (Faults fault pc) e = refl
final_kept (Pauses q) OutOfStack e = refl
final_kept (Exits q) (Stops p) e = cc
final_kept (Exits q) (Pauses pc) e = cc
final_kept (Exits q) (Exits status) e = refl
final_kept (Exits q) (Faults fault pc) e = refl
final_kept (Exits q) OutOfStack e = refl
final_kept (Faults f q) (Stops p) e = cc
final_kept (Faults f q) (Pauses pc) e = cc
final_kept (Faults f q) (Exits status) e = refl
final_kept (Faults f q) (Faults fault pc) e = refl
final_kept (Faults f q) OutOfStack e = refl
final_kept OutOfStack (Stops p) e = cc
final_kept OutOfStack (Pauses pc) e = cc
final_kept OutOfStack (Exits status) e = refl
final_kept OutOfStack (Faults fault pc) e = refl
final_kept OutOfStack OutOfStack e = refl
final_kept all OutOfTurns e = cc

ends_final : (all v : SideEvent) (ended : Option Ending) → is_final v ≡ true → EndsWith (keeps all v) ended
ends_final all v ended e = subst (λ (k : Option SideEvent). EndsWith k ended) (sym (final_kept all v e)) (inr e)

ends_by : (s : StoreState) (all : SideEvent) (breaks words : List Point) (nub : NubState) (end : Ending) → EndsWith (keeps all (event_in s (event_of breaks words end))) (shut_by end nub).ended
ends_by s all breaks words nub (ending.Stopped why pc) = ends_open (keeps all (event_in s (event_of breaks words (ending.Stopped why pc))))
ends_by s all breaks words nub (ending.Exited status) = ends_final all (Exits status) (Some (ending.Exited status)) refl
ends_by s all breaks words nub (ending.Faulted fault pc) = ends_final all (Faults fault pc) (Some (ending.Faulted fault pc)) refl
ends_by s all breaks words nub ending.Turns = ends_open (keeps all OutOfTurns)
ends_by s all breaks words nub ending.Stack = ends_final all OutOfStack (Some ending.Stack) refl

ends_still : (all v : SideEvent) (ended : Option Ending) → EndsWith (Some v) ended → EndsWith (keeps all v) ended
ends_still all v ended (inl e) = subst (EndsWith (keeps all v)) (sym e) (ends_open (keeps all v))
ends_still all v ended (inr e) = ends_final all v ended e

behind_nub : (left : Bool) (target : ℕ) (ps : List Point) (h : Host) → (behind left target ps h).nub ≡ h.nub
behind_nub true target ps h = refl
behind_nub false target ps h = refl

may_run : (s : StoreState) (k : Option Event) (o : Option SideEvent) (h : Host) → o ≡ events_in s k → EndsWith o h.nub.ended → MayRun k h
may_run s None None h e w = w
may_run s None (Some v) h e w = cc
may_run s (Some k) o h e w = tt

pub they_may_run : TheyMayRun
they_may_run d a for = may_run d.table d.row.kept a.kept d.host for.alike.kept for.ended

-- ---- that its turns were used up is never kept

never_kept : (all v : SideEvent) → keeps all v ≢ Some OutOfTurns
never_kept OutOfTurns (Stops p) e = cc
never_kept OutOfTurns (Pauses pc) e = cc
never_kept OutOfTurns (Exits status) e = cc
never_kept OutOfTurns (Faults fault pc) e = cc
never_kept OutOfTurns OutOfStack e = cc
never_kept (Stops q) (Stops p) e = cc
never_kept (Stops q) (Pauses pc) e = cc
never_kept (Stops q) (Exits status) e = cc
never_kept (Stops q) (Faults fault pc) e = cc
never_kept (Stops q) OutOfStack e = cc
never_kept (Pauses q) (Stops p) e = cc
never_kept (Pauses q) (Pauses pc) e = cc
never_kept (Pauses q) (Exits status) e = cc
never_kept (Pauses q) (Faults fault pc) e = cc
never_kept (Pauses q) OutOfStack e = cc
never_kept (Exits q) (Stops p) e = cc
never_kept (Exits q) (Pauses pc) e = cc
never_kept (Exits q) (Exits status) e = cc
never_kept (Exits q) (Faults fault pc) e = cc
never_kept (Exits q) OutOfStack e = cc
never_kept (Faults f q) (Stops p) e = cc
never_kept (Faults f q) (Pauses pc) e = cc
never_kept (Faults f q) (Exits status) e = cc
never_kept (Faults f q) (Faults fault pc) e = cc
never_kept (Faults f q) OutOfStack e = cc
never_kept OutOfStack (Stops p) e = cc
never_kept OutOfStack (Pauses pc) e = cc
never_kept OutOfStack (Exits status) e = cc
never_kept OutOfStack (Faults fault pc) e = cc
never_kept OutOfStack OutOfStack e = cc
never_kept all OutOfTurns e = cc

-- where all ran out of turns and no event is kept, the side ran out of them
turns_of : (s : StoreState) (e : Event) → keeps OutOfTurns (event_in s e) ≡ None → e ≡ event.OutOfTurns
turns_of s (event.Stops p) k = cc
turns_of s (event.Pauses pc) k = cc
turns_of s (event.Exits status) k = cc
turns_of s (event.Faults fault pc) k = cc
turns_of s event.OutOfTurns k = refl
turns_of s event.OutOfStack k = cc

-- ---- words that stay

abbrev words_of : ℕ → Regions → Bytes
words_of t r = record { order = order_of_target t; regions = r; registers = no_places; cell = Some 0 }

-- behind what leaves the target and the text
again_there : StepsAreAgain → (h g : Host) (ps ws : List Point) → IsMemory h.machine.memory → g.machine.target ≡ h.machine.target → g.machine.memory.text_bytes ≡ h.machine.memory.text_bytes → list_all stands_in_text ps ≡ true
    → PutsWords h.machine.target (bytes_of (behind false h.machine.target ws h).machine) ps ws (bytes_of h.machine) → PutsWords g.machine.target (bytes_of (behind false g.machine.target ws g).machine) ps ws (bytes_of g.machine)
again_there again h g ps ws m target text inside puts =
    let t : ℕ = h.machine.target in
    let r : Regions = g.machine.memory in
    let whole : IsMemory (words_put (order_of h.machine) (noop_of t) (map address_of ws) h.machine.memory) = words_memory (order_of h.machine) (noop_of t) (map address_of ws) h.machine.memory m in
    subst (λ (x : ℕ). PutsWords x (words_of x (words_put (order_of_target x) (noop_of x) (map address_of ws) r)) ps ws (words_of x r)) (sym target)
    (again t ps ws (bytes_of (behind false t ws h).machine) (bytes_of h.machine) r whole inside puts text)

-- ---- a resume

module _ (again : StepsAreAgain) (b : Behaviour) (kind : MachineKind) (limit : ℕ) (all : SideEvent) (d d' : Debugged) (a : SideState) (steady : RunsAreSteady b) (context : kind.context ≡ CONTEXT) (target : kind.target ≡ d.host.machine.target) (memory : IsMemory d.host.machine.memory)
    (for : StandsFor d a) (may : MayResume d a) (g : IsResumed b kind limit all d d') where
  abbrev its : Event
  its = its_event b kind d.row limit d.host

  abbrev there : Host
  there = host_behind b kind d.row limit d.host

  abbrev there_then : Host
  there_then = host_at_event b kind d.row limit d.host

  abbrev come : SideRun
  come = resume_side b limit a

  -- what is kept of it, but for the event
  abbrev row_now : SideRow
  row_now = record d'.row { kept = d.row.kept }

  leaves : Leaves d.row row_now its
  leaves = record { stands_at = g.stands_at; words = g.words; kept = refl; breaks = g.breaks; stay = g.stay }

  comes : Resumed d.table its (its_output b kind d.row limit d.host) row_now there come
  comes = alike_after b kind d.table limit d.row row_now d.host a steady context target for.alike leaves may

  words_now : IsPlanted d.table row_now there come.side ⊎ IsLeft row_now there come.side → IsPlanted d.table d'.row there (side_after all come) ⊎ IsLeft d'.row there (side_after all come)
  words_now (inl p) = inl (record { words = p.words; machine = p.machine })
  words_now (inr q) = inr (record { stay = q.stay; words = q.words; machine = q.machine })

  kept_now : keeps all come.event ≡ events_in d'.table d'.row.kept
  kept_now = ap (keeps all) (sym comes.event_is) ∙ sym g.kept

  alike_now : IsAlike d'.table d'.row d'.host (side_after all come)
  alike_now =
      subst (λ (h : Host). IsAlike d'.table d'.row h (side_after all come)) (sym g.host)
      (subst (λ (s : StoreState). IsAlike s d'.row there (side_after all come)) (sym g.table) (record {
        breaks = comes.alike.breaks;
        stands_at = comes.alike.stands_at;
        kept = ap (keeps all) (sym comes.event_is) ∙ (sym g.kept ∙ ap (λ (s : StoreState). events_in s d'.row.kept) g.table);
        words = words_now comes.alike.words;
      }))

  table_now : come.side.table ≡ a.table
  table_now = table_run b limit a a.kept refl

  frame_now : frame_after come.side.frame all ≡ d'.frame
  frame_now = ap (λ (n : ℕ). frame_after n all) (frame_run b limit a a.kept refl ∙ for.frame) ∙ sym g.frame

  -- by the event that was kept before
  nub_now : d'.host.nub.ended ≡ (host_at_event b kind d.row limit d.host).nub.ended
  nub_now = ap (λ (h : Host). h.nub.ended) g.host ∙ ap (λ (n : NubState). n.ended) (behind_nub (keeps_words d.row.words_stay d.row.kept its) kind.target d.row.step_words.items (host_at_event b kind d.row limit d.host))

  ended_by : (k : Option Event) → d.row.kept ≡ k → EndsWith (keeps all (event_in d.table (came k d.row (its_run b kind d.row limit d.host)))) (at_event k (its_run b kind d.row limit d.host) d.host (moved_there b kind d.row limit d.host)).nub.ended
  ended_by None e = ends_by d.table all d.row.breaks.items d.row.step_words.items (moved_there b kind d.row limit d.host).nub (its_run b kind d.row limit d.host).ending
  ended_by (Some k) e = ends_still all (event_in d.table k) d.host.nub.ended (subst (λ (o : Option SideEvent). EndsWith o d.host.nub.ended) (for.alike.kept ∙ ap (events_in d.table) e) for.ended)

  ended_now : EndsWith (keeps all come.event) d'.host.nub.ended
  ended_now =
      subst (λ (v : SideEvent). EndsWith (keeps all v) d'.host.nub.ended) comes.event_is
      (subst (EndsWith (keeps all (event_in d.table its))) (sym nub_now) (ended_by d.row.kept refl))

  -- ---- words that stay

  text_run : (its_run b kind d.row limit d.host).machine.memory.text_bytes ≡ d.host.machine.memory.text_bytes
  text_run =
      (steady limit (moved_there b kind d.row limit d.host).machine).text
      ∙ passed_text kind.context d.row.stands_at (order_of d.host.machine) d.host.machine.memory context memory

  same_there : (k : Option Event) → let x = at_event k (its_run b kind d.row limit d.host) d.host (moved_there b kind d.row limit d.host) in (x.machine.target ≡ d.host.machine.target) × (x.machine.memory.text_bytes ≡ d.host.machine.memory.text_bytes)
  same_there None = ((steady limit (moved_there b kind d.row limit d.host).machine).target, text_run)
  same_there (Some k) = (refl, refl)

  keeps_stay : (stay : Bool) (k : Option Event) (e : Event) → stay ≡ true → keeps_words stay k e ≡ true
  keeps_stay true k e h = refl
  keeps_stay false k e h = cc

  -- where they stay the points are those of before
  module _ (words : d'.row.step_words.items ≡ d.row.step_words.items) (host : d'.host ≡ host_at_event b kind d.row limit d.host) where
    again_made : IsAgain d a.table → IsAgain d' come.side.table
    again_made x =
        let same = same_there d.row.kept in
        let puts = again_there again d.host (host_at_event b kind d.row limit d.host) x.points d.row.step_words.items memory same.0 same.1 x.in_text x.puts in
        record {
          points = x.points;
          all = ap all_points table_now ∙ (x.all ∙ ap (λ (s : StoreState). Ok (map (row_in s) x.points)) (sym g.table));
          in_text = x.in_text;
          puts = subst (λ (h : Host). PutsWords h.machine.target (bytes_of (cleared d'.row h).machine) x.points d'.row.step_words.items (bytes_of h.machine)) (sym host)
              (subst (λ (ws : List Point). PutsWords there_then.machine.target (bytes_of (behind false there_then.machine.target ws there_then).machine) x.points ws (bytes_of there_then.machine)) (sym words) puts);
        }

    again_with : (d.row.step_words.items ≡ []) ⊎ IsAgain d a.table → (d'.row.step_words.items ≡ []) ⊎ IsAgain d' come.side.table
    again_with (inl none) = inl (words ∙ none)
    again_with (inr x) = inr (again_made x)

  again_now : StaysAgain d' come.side.table
  again_now stay =
      let before : d.row.words_stay ≡ true = sym g.stay ∙ stay in
      let keep : keeps_words d.row.words_stay d.row.kept its ≡ true = keeps_stay d.row.words_stay d.row.kept its before in
      again_with (g.words ∙ ap (λ (z : Bool). if z then d.row.step_words.items else []) keep)
      (g.host ∙ ap (λ (z : Bool). behind z kind.target d.row.step_words.items there_then) keep) (for.again before)

  -- ---- all

  stands_now : StandsFor d' (side_after all come)
  stands_now = record {
    table = subst (IsTable d'.table) (sym table_now) (subst (λ (s : StoreState). IsTable s a.table) (sym g.table) for.table);
    frame = frame_now;
    alike = alike_now;
    ended = ended_now;
    unended = never_kept all come.event;
    again = again_now;
  }

  -- a side that ran out of its turns had no event before
  no_turns : (k : Option Event) → d.row.kept ≡ k → came k d.row (its_run b kind d.row limit d.host) ≡ event.OutOfTurns → d.row.kept ≡ None
  no_turns None e t = e
  no_turns (Some k) e t = absurd (for.unended (for.alike.kept ∙ (ap (events_in d.table) e ∙ ap (λ (x : Event). Some (event_in d.table x)) t)))

  goes_on : all ≡ OutOfTurns → MayResume d' (side_after all come)
  goes_on turns none =
      let e : its ≡ event.OutOfTurns =
      turns_of d.table its (ap (λ (v : SideEvent). keeps v (event_in d.table its)) (sym turns) ∙ (sym g.kept ∙ ap (events_in d'.table) none)) in
      let k : d.row.kept ≡ None = no_turns d.row.kept refl e in
      let p : IsPlanted d.table row_now there come.side = planted_after b kind d.table limit d.row row_now d.host a steady context target for.alike leaves k (may k) e in
      subst (λ (h : Host). IsPlanted d'.table d'.row h (side_after all come)) (sym g.host)
      (subst (λ (s : StoreState). IsPlanted s d'.row there (side_after all come)) (sym g.table) (record { words = p.words; machine = p.machine }))

  pub is_meant : IsMeant b kind limit all d d' come
  is_meant = record { event = comes.event_is; output = comes.output_is; stands = stands_now; goes_on = goes_on }

pub resumes : StepsAreAgain → ResumesAreMeant
resumes again b kind limit all d d' a steady fit for may g = is_meant again b kind limit all d d' a steady fit.context fit.target fit.memory for may g
