-- What a resume of a side comes to over nubs that meet their definition, part by part.
use Rattle.std.proofs.Common.{◌≡◌, ◌∙◌, sym, ap, subst, ℕ, Bool, true, false, List, [], map, Option, Some, None, Ok, Err, append-nil}
use Rattle.ldb_words.specs.declared.kinds.Order.{Order}
use Rattle.machine_state.specs.Regions.{Regions}
use Rattle.machine_state.specs.State.{MachineState, Behaviour, order_of}
use Rattle.nub_wire.specs.declared.message.Ending.{Ending}
use Rattle.nub_wire.specs.declared.link.Side.{Side}
use Rattle.nub_wire.specs.Nub.{Host}
use Rattle.nub_wire.specs.Delivery.{Conduct, World}
use Rattle.nub_wire.specs.Fits.{begins}
use Rattle.nub_wire.specs.Resumes.{Whole, run_from}
use Rattle.frame_bytes.specs.Bytes.{Bytes}
use Rattle.abs_mem.specs.WireMeaning.{wire_seen}
use Rattle.wire_talk.specs.declared.fault.TalkFault.{TalkFault}
use Rattle.wire_talk.specs.declared.fault.TalkFault.TheVariants as talk
use Rattle.resuming.specs.declared.fault.RunFault.{RunFault}
use Rattle.resuming.specs.declared.fault.RunFault.TheVariants as fault
use Rattle.resuming.specs.Runs.{RunTold}
use Rattle.resuming.specs.Standing.{Stands}
use Rattle.resuming.proofs.Taken.{known_none, none_taken}
use Rattle.break_plant.specs.Planted.{noop_of}
use Rattle.table_points.specs.declared.row.Point.{Point}
use Rattle.debug_side.specs.declared.event.Event.{Event}
use Rattle.debug_side.specs.declared.point.SideRow.{SideRow}
use Rattle.debug_side.specs.Meant.{address_of, event_of, keeps_words}
use Rattle.debug_side.specs.Wrote.{Wrote, words_put, passed, Puts}
use Rattle.debug_side.specs.Told.{KeepsOrder, MayRun, with_regions, moved, behind, put_by, came, at_event, CameTold}
use Rattle.debug_side.proofs.Told.{put_stands, never_bad, run_reached, reached_from}

module _ (b : Behaviour) (c : Conduct) (side : Side) (beside : Option Host) where
  -- a side that keeps its event
  pub kept_told : (k : Option Event) (e : Event) (row : SideRow) (w : Whole) (h m : Host) (o : Option World) (order : Order) (taken : Option (List ℕ)) → k ≡ Some e
      → Stands b c side o h beside → order ≡ order_of h.machine → CameTold b c side (came k row w) (put_by k w) (at_event k w h m) beside (Ok e) o order taken taken
  kept_told (Some k) e row w h m o order taken is x same = (cc, known_none taken, x, same)
  kept_told None e row w h m o order taken is x same = cc

  -- a fault before the run, of which nothing was put
  pub not_moved : (event : Event) (output : List ℕ) (there h : Host) (x : TalkFault) (o o' : Option World) (f f' : ℕ) (side' : Side) (order order' : Order) (P : Bytes → Regions → Type 0) (taken : Option (List ℕ))
      → Stands b c side o h beside → order ≡ order_of h.machine → Puts (wire_seen c o f side order) (Err x) P (wire_seen c o' f' side' order')
      → CameTold b c side event output there beside (Err (fault.Talk x)) o' order' taken taken
  not_moved event output there h talk.LinkFault o o' f f' side' order order' P taken x same puts = none_taken taken output
  not_moved event output there h (talk.BadReply frame) o o' f f' side' order order' P taken x same puts = never_bad b c o side order h beside x same f f' side' order' o' P frame puts

  -- a fault says nothing of where the side would stand
  pub came_err : (event : Event) (output : List ℕ) (there there' : Host) (x : RunFault) (o o' : Option World) (order order' : Order) (taken taken' : Option (List ℕ))
      → CameTold b c side event output there beside (Err x) o order taken taken' → CameTold b c side event output there' beside (Err x) o' order' taken taken'
  came_err event output there there' (fault.Talk talk.LinkFault) o o' order order' taken taken' h = h
  came_err event output there there' (fault.Talk (talk.BadReply frame)) o o' order order' taken taken' h = h
  came_err event output there there' fault.Output o o' order order' taken taken' h = h

  -- ---- a run

  pub run_failed : (k : Option Event) (event : Event) (turns : ℕ) (h there : Host) (x : RunFault) (o : Option World) (order : Order) (taken taken' : Option (List ℕ)) → k ≡ None
      → RunTold b c side turns h beside (Err x) o taken taken' → CameTold b c side event (put_by k (run_from b turns h.machine)) there beside (Err x) o order taken taken'
  run_failed None event turns h there (fault.Talk talk.LinkFault) o order taken taken' none r = r
  run_failed None event turns h there (fault.Talk (talk.BadReply frame)) o order taken taken' none r = r
  run_failed None event turns h there fault.Output o order taken taken' none r = r
  run_failed (Some k) event turns h there x o order taken taken' none r = cc

  pub run_came : (k : Option Event) (row : SideRow) (turns : ℕ) (g h : Host) (e : Event) (end : Ending) (o : Option World) (order : Order) (taken taken' : Option (List ℕ)) → k ≡ None
      → e ≡ event_of row.breaks.items row.step_words.items end → order ≡ order_of h.machine → KeepsOrder b h.machine
      → RunTold b c side turns h beside (Ok end) o taken taken'
      → CameTold b c side (came k row (run_from b turns h.machine)) (put_by k (run_from b turns h.machine)) (at_event k (run_from b turns h.machine) g h) beside (Ok e) o order taken taken'
  run_came None row turns g h e end o order taken taken' none is same keeps r =
      (is ∙ ap (event_of row.breaks.items row.step_words.items) r.0, r.1, r.2, same ∙ sym (keeps (run_from b turns h.machine).machine (run_reached b h.machine turns h.machine begins)))
  run_came (Some k) row turns g h e end o order taken taken' none is same keeps r = cc

  pub may_run : (k : Option Event) (h : Host) → k ≡ None → MayRun k h → h.nub.ended ≡ None
  may_run None h e may = may
  may_run (Some k) h e may = cc

  -- ---- past the no-op

  pub record PassedOn (there : Host) (o' : Option World) (order' : Order) : Type 0 where
    pub stands : Stands b c side o' there beside
    pub order_is : order' ≡ order_of there.machine
    pub keeps : KeepsOrder b there.machine

  passed_by : (h : Host) (r r' : Regions) (o' : Option World) (order' : Order) → r ≡ r' → PassedOn (with_regions h r) o' order' → PassedOn (with_regions h r') o' order'
  passed_by h r r' o' order' e x = subst (λ (z : Regions). PassedOn (with_regions h z) o' order') e x

  pub passed_on : (context : ℕ) (at : Option ℕ) (h : Host) (o o' : Option World) (f f' : ℕ) (side' : Side) (order order' : Order) → Stands b c side o h beside → order ≡ order_of h.machine → KeepsOrder b h.machine
      → Puts (wire_seen c o f side order) (Ok tt) (λ (z : Bytes) r. r ≡ passed context at z.order z.regions) (wire_seen c o' f' side' order') → PassedOn (moved context at h) o' order'
  passed_on context at h o o' f f' side' order order' x same keeps puts =
      let y = put_stands b c o side order h beside x same f f' side' order' o' (λ (z : Bytes) r. r ≡ passed context at z.order z.regions) puts in
      passed_by h y.regions (passed context at (order_of h.machine) h.machine.memory) o' order' y.put (record {
        stands = y.stands;
        order_is = y.order_is ∙ same;
        keeps = λ (n : MachineState) r. keeps n (reached_from y.reached r);
      })

  -- ---- the words of a step

  left_there : (t : Bool) (target : ℕ) (words : List Point) (there : Host) (o : Option World) (order : Order) → t ≡ true → Stands b c side o there beside → order ≡ order_of there.machine
      → Stands b c side o (behind t target words there) beside × (order ≡ order_of (behind t target words there).machine)
  left_there true target words there o order e x same = (x, same)
  left_there false target words there o order e x same = cc

  cleared_there : (t : Bool) (target : ℕ) (words : List Point) (there : Host) (o : Option World) (order : Order) (r : Regions) → t ≡ false
      → r ≡ words_put (order_of there.machine) (noop_of target) (map address_of words) there.machine.memory → Stands b c side o (with_regions there r) beside → order ≡ order_of there.machine
      → Stands b c side o (behind t target words there) beside × (order ≡ order_of (behind t target words there).machine)
  cleared_there true target words there o order r e is x same = cc
  cleared_there false target words there o order r e is x same = (subst (λ (z : Regions). Stands b c side o (with_regions there z) beside) is x, same)

  module _ (event : Event) (output : List ℕ) (there : Host) (stay : Bool) (k : Option Event) (target : ℕ) (words : List Point) where
    abbrev there_behind : Host
    there_behind = behind (keeps_words stay k event) target words there

    pub came_left : (e : Event) (o : Option World) (order : Order) (taken taken' : Option (List ℕ)) → keeps_words stay k e ≡ true → CameTold b c side event output there beside (Ok e) o order taken taken'
        → CameTold b c side event output there_behind beside (Ok e) o order taken taken'
    came_left e o order taken taken' left h =
        let y = left_there (keeps_words stay k event) target words there o order (ap (keeps_words stay k) (sym h.0) ∙ left) h.2 h.3 in
        (h.0, h.1, y.0, y.1)

    pub came_cleared : (e : Event) (o o' : Option World) (f f' : ℕ) (now side' : Side) (order order' : Order) (taken taken' : Option (List ℕ)) (points : List Point) → now ≡ side → points ≡ words → keeps_words stay k e ≡ false
        → CameTold b c side event output there beside (Ok e) o order taken taken'
        → Puts (wire_seen c o f now order) (Ok tt) (λ (z : Bytes) r. r ≡ words_put z.order (noop_of target) (map address_of points) z.regions) (wire_seen c o' f' side' order')
        → CameTold b c side event output there_behind beside (Ok e) o' order' taken taken'
    came_cleared e o o' f f' now side' order order' taken taken' points here all gone h puts =
        let P : Bytes → Regions → Type 0 = λ (z : Bytes) r. r ≡ words_put z.order (noop_of target) (map address_of points) z.regions in
        let w = put_stands b c o side order there beside h.2 h.3 f f' side' order' o' P (subst (λ (s : Side). Wrote (wire_seen c o f s order) (wire_seen c o' f' side' order') P) here puts) in
        let put : w.regions ≡ words_put (order_of there.machine) (noop_of target) (map address_of words) there.machine.memory =
        w.put ∙ ap (λ (ps : List Point). words_put (order_of there.machine) (noop_of target) (map address_of ps) there.machine.memory) all in
        let y = cleared_there (keeps_words stay k event) target words there o' order' w.regions (ap (keeps_words stay k) (sym h.0) ∙ gone) put w.stands (w.order_is ∙ h.3) in
        (h.0, h.1, y.0, y.1)

    pub not_cleared : (e : Event) (x : TalkFault) (o o' : Option World) (f f' : ℕ) (now side' : Side) (order order' : Order) (P : Bytes → Regions → Type 0) (taken taken' : Option (List ℕ)) → now ≡ side
        → CameTold b c side event output there beside (Ok e) o order taken taken' → Puts (wire_seen c o f now order) (Err x) P (wire_seen c o' f' side' order')
        → CameTold b c side event output there_behind beside (Err (fault.Talk x)) o' order' taken taken'
    not_cleared e talk.LinkFault o o' f f' now side' order order' P taken taken' here h puts = record { front = output; back = []; whole = append-nil output; taken = h.1 }
    not_cleared e (talk.BadReply frame) o o' f f' now side' order order' P taken taken' here h puts =
        never_bad b c o side order there beside h.2 h.3 f f' side' order' o' P frame (subst (λ (s : Side). Puts (wire_seen c o f s order) (Err (talk.BadReply frame)) P (wire_seen c o' f' side' order')) here puts)
