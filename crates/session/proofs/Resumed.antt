-- Sides that a resume leaves, over a link whose nubs meet their definition.
use Rattle.std.proofs.Common.{◌≡◌, ◌⊎◌, ◌∙◌, refl, sym, ap, subst, inl, inr, ℕ, Bool, true, false, List, Option, Some, None, Result, Ok, Err}
use Rattle.ldb_words.specs.declared.kinds.Order.{Order}
use Rattle.ldb_edge.specs.Known.{known_and}
use Rattle.machine_state.specs.State.{Behaviour, order_of_target, order_of as machine_order}
use Rattle.nub_wire.specs.declared.link.Side.{Side}
use Rattle.nub_wire.specs.declared.link.Side.TheVariants.{First, Second}
use Rattle.nub_wire.specs.Nub.{Host}
use Rattle.nub_wire.specs.Rest.{other}
use Rattle.nub_wire.specs.Delivery.{Conduct, World}
use Rattle.nub_wire.specs.Resumes.{Whole}
use Rattle.wire_talk.specs.declared.fault.TalkFault.{TalkFault}
use Rattle.wire_talk.specs.declared.fault.TalkFault.TheVariants as talk
use Rattle.abs_mem.specs.declared.wire.Wire.{Wire}
use Rattle.ps_ops.specs.declared.dialect.Operators.{Operators}
use Rattle.resuming.specs.declared.fault.RunFault.{RunFault}
use Rattle.resuming.specs.declared.fault.RunFault.TheVariants.{Talk, Output}
use Rattle.resuming.specs.Runs.{CountsRun}
use Rattle.resuming.specs.Standing.{Stands}
use Rattle.ldb_edge.specs.Count.{Rose}
use Rattle.ps_store.specs.StoreState.{StoreState}
use Rattle.table_points.specs.declared.row.Point.{Point}
use Rattle.debug_side.specs.declared.event.Event.{Event}
use Rattle.debug_side.specs.declared.event.Event.TheVariants as event
use Rattle.debug_side.specs.declared.point.MachineKind.{MachineKind}
use Rattle.debug_side.specs.declared.point.SideRow.{SideRow}
use Rattle.debug_side.specs.Told.{KeepsOrder, MayRun, CameTold, behind, at_event, its_run, moved_there, its_event, its_output, host_at_event, host_behind}
use Rattle.steady_machines.specs.Steady.{RunsAreSteady}
use Rattle.claims.specs.Side.{SideEvent}
use Rattle.claims.specs.Resumes.{merged, keeps, frame_after}
use Rattle.side_meaning.specs.Standing.{Debugged}
use Rattle.side_meaning.specs.Telling.{Keeps}
use Rattle.side_meaning.specs.Resuming.{IsResumed}
use Rattle.side_meaning.specs.Sessions as sides
use Rattle.side_meaning.proofs.Telling as told
use Rattle.side_meaning.proofs.Asking.{names_go_on}
use Rattle.session.specs.declared.sides.SideRecord.{SideRecord}
use Rattle.session.specs.Events.{event_in, events_in}
use Rattle.session.specs.Turned.{byte_of, order_of, turned}
use Rattle.session.specs.Resuming.{Came, IsNoneOr, event_on}
use Rattle.session.specs.Meant.{debugged, kind_of, other_kind, second_of, IsThere, IsSecond, Hosts, AreThere, AreSteady, AllResumed, ResumesAll, MayAlsoRun}
use Rattle.session.proofs.Beside.{stands_beside, second_beside, first_beside}

-- ---- the target stays

behind_target : (left : Bool) (target : ℕ) (ps : List Point) (h : Host) → (behind left target ps h).machine.target ≡ h.machine.target
behind_target true target ps h = refl
behind_target false target ps h = refl

module _ (b : Behaviour) (steady : RunsAreSteady b) (kind : MachineKind) (row : SideRow) (limit : ℕ) (h : Host) where
  at_target : (k : Option Event) → (at_event k (its_run b kind row limit h) h (moved_there b kind row limit h)).machine.target ≡ h.machine.target
  at_target None = (steady limit (moved_there b kind row limit h).machine).target
  at_target (Some k) = refl

  same_target : (host_behind b kind row limit h).machine.target ≡ h.machine.target
  same_target = behind_target _ kind.target row.step_words.items (host_at_event b kind row limit h) ∙ at_target row.kept

-- ---- one side

own_by : (e : Event) (k : Option Event) → IsNoneOr e k → (k ≡ None) ⊎ (k ≡ Some e)
own_by e None h = inl refl
own_by e (Some k) h = inr (ap Some h)

-- a side that was resumed to an event, and what is kept of it then, where this is the event of all sides
pub record Went (all : SideEvent) (e : Event) (side mid side' : SideRecord) : Type 0 where
  pub came : Came e side mid
  pub row : mid ≡ record side { row = mid.row }
  pub stay : mid.row.words_stay ≡ side.row.words_stay
  pub kept : events_in side.inquiry.core.store side'.row.kept ≡ keeps all (event_in side.inquiry.core.store e)
  pub own : IsNoneOr e side'.row.kept
  pub frame : side'.frame ≡ frame_after mid.frame all
  pub other : side' ≡ record mid { row = record mid.row { kept = side'.row.kept }; frame = side'.frame }

module _ (all : SideEvent) (e : Event) (side mid side' : SideRecord) (w : Went all e side mid side') where
  which_stays : side'.which ≡ side.which
  which_stays = ap (λ (s : SideRecord). s.which) w.other ∙ ap (λ (s : SideRecord). s.which) w.row

  table_stays : side'.inquiry.core.store ≡ side.inquiry.core.store
  table_stays = ap (λ (s : SideRecord). s.inquiry.core.store) w.other ∙ ap (λ (s : SideRecord). s.inquiry.core.store) w.row

  keeps_it : (h : Host) → Keeps all e (debugged side h) side'.frame side'.row
  keeps_it h = record {
    frame_is = w.frame ∙ ap (λ (n : ℕ). frame_after n all) w.came.frame;
    breaks = ap (λ (s : SideRecord). s.row.breaks) w.other ∙ w.came.breaks;
    stands_at = ap (λ (s : SideRecord). s.row.stands_at) w.other ∙ w.came.stands_at;
    words = ap (λ (s : SideRecord). s.row.step_words.items) w.other ∙ w.came.words;
    stay = ap (λ (s : SideRecord). s.row.words_stay) w.other ∙ w.stay;
    kept = w.kept;
    own = own_by e side'.row.kept w.own;
  }

module _ (b : Behaviour) (c : Conduct) (steady : RunsAreSteady b) (limit : ℕ) where
  -- the side stands again, and is resumed; and its output was put
  pub record Stood (all : SideEvent) (o : Option World) (side side' : SideRecord) (h : Host) (beside : Option Host) (taken taken' : Option (List ℕ)) : Type 0 where
    pub which : side'.which ≡ side.which
    pub there : IsThere b c o side' (host_behind b (kind_of side) side.row limit h) beside
    pub resumed : IsResumed b (kind_of side) limit all (debugged side h) (debugged side' (host_behind b (kind_of side) side.row limit h))
    pub put : taken' ≡ known_and taken (its_output b (kind_of side) side.row limit h)

  pub stood : (all : SideEvent) (e : Event) (o o' : Option World) (side mid side' : SideRecord) (h : Host) (beside : Option Host) (order : Order) (taken taken' : Option (List ℕ))
      → Went all e side mid side' → IsThere b c o side h beside
      → CameTold b c side.which (its_event b (kind_of side) side.row limit h) (its_output b (kind_of side) side.row limit h) (host_behind b (kind_of side) side.row limit h) beside (Ok e) o' order taken taken'
      → Stood all o' side side' h beside taken taken'
  stood all e o o' side mid side' h beside order taken taken' w x came =
      let kind : MachineKind = kind_of side in
      let there : Host = host_behind b kind side.row limit h in
      let d : Debugged = debugged side h in
      let r = told.resumed b c side.which kind limit all e d beside side'.frame side'.row o' order taken taken' came (keeps_it all e side mid side' w h) in
      let which : side'.which ≡ side.which = which_stays all e side mid side' w in
      let target : there.machine.target ≡ h.machine.target = same_target b steady kind side.row limit h in
      let is : IsResumed b kind limit all d (debugged side' there) =
      subst (λ (t : StoreState). IsResumed b kind limit all d (record { table = t; frame = side'.frame; row = side'.row; host = there })) (sym (table_stays all e side mid side' w)) r.0 in
      let machine : side'.machine ≡ side.machine = ap (λ (s : SideRecord). s.machine) w.other ∙ ap (λ (s : SideRecord). s.machine) w.row in
      record {
        which = which;
        there = record {
          stands = subst (λ (s : Side). Stands b c s o' there beside) (sym which) r.1;
          context = ap (λ (s : SideRecord). s.context) w.other ∙ (ap (λ (s : SideRecord). s.context) w.row ∙ x.context);
          target = ap byte_of machine ∙ (x.target ∙ sym target);
          order = ap order_of machine ∙ (x.order ∙ ap order_of_target (sym target));
          names = names_go_on b kind limit all d (debugged side' there) x.names is;
        };
        resumed = is;
        put = r.2;
      }

-- ---- the operators, turned to a side

module _ {L : Type 0} (world : L → Option World) (b : Behaviour) (c : Conduct) (side : SideRecord) (limit : ℕ) (r : Result Event RunFault) (o : Option World) (order : Order) (taken taken' : Option (List ℕ)) where
  -- what a resume over a wire comes to
  abbrev Tells : Wire L → MachineKind → Type 0
  Tells w kind =
      (h : Host) (beside : Option Host) → Stands b c w.side (world w.link) h beside → w.order ≡ machine_order h.machine → KeepsOrder b h.machine → MayRun side.row.kept h
      → CameTold b c w.side (its_event b kind side.row limit h) (its_output b kind side.row limit h) (host_behind b kind side.row limit h) beside r o order taken taken'

  pub told_turned : (t t' : Operators (Wire L)) (kind : MachineKind) → t' ≡ turned side t → kind ≡ kind_of side → Tells t'.memory.below.below.below kind → Tells (turned side t).memory.below.below.below (kind_of side)
  told_turned t t' kind e f h =
      subst (λ (k : MachineKind). Tells (turned side t).memory.below.below.below k) f (subst (λ (z : Operators (Wire L)). Tells z.memory.below.below.below kind) e h)

-- ---- one side or two

no_second : (b : Behaviour) (c : Conduct) (o o' : Option World) (one one' : Host) (h : Option Host) → sides.OnSecond (IsSecond b c o one) None h → sides.OnSecond (IsSecond b c o' one') None h
no_second b c o o' one one' None x = tt
no_second b c o o' one one' (Some h) x = absurd x

module _ (b : Behaviour) (c : Conduct) (steady : AreSteady b) (limit : ℕ) where
  module _ (side side' : SideRecord) (second second' : Option SideRecord) (hs : Hosts) (beside : Option Host) (o : Option World) (order : Order) (f f' g g' : ℕ) (taken taken' : Option (List ℕ)) where
    -- a fault of the side whose output is put
    pub first_failed : (x : RunFault) → CameTold b c side.which (its_event b (kind_of side) side.row limit hs.first) (its_output b (kind_of side) side.row limit hs.first) (host_behind b (kind_of side) side.row limit hs.first) beside (Err x) o order taken taken' → CountsRun {A = Event} f f' g g' (Err x)
        → ResumesAll b c o side side' second second' hs limit f f' taken taken' (Err x)
    first_failed (Talk talk.LinkFault) came counts = counts.0
    first_failed (Talk (talk.BadReply frame)) came counts = came
    first_failed Output came counts = came

  pub one_done : (first mid first' : SideRecord) (hs : Hosts) (event : Event) (o o' : Option World) (order : Order) (f f' : ℕ) (taken taken' : Option (List ℕ)) → AreThere b c o first None hs
      → CameTold b c first.which (its_event b (kind_of first) first.row limit hs.first) (its_output b (kind_of first) first.row limit hs.first) (host_behind b (kind_of first) first.row limit hs.first) hs.second (Ok event) o' order taken taken'
      → Went (event_on first event) event first mid first' → ResumesAll b c o' first first' None None hs limit f f' taken taken' (Ok event)
  one_done first mid first' hs event o o' order f f' taken taken' x came w =
      let s = stood b c steady.runs limit (event_on first event) event o o' first mid first' hs.first hs.second order taken taken' w x.first_there came in
      record {
        hosts = record { first = host_behind b (kind_of first) first.row limit hs.first; second = hs.second };
        there = record { first_is = s.which ∙ x.first_is; first_there = s.there; second_there = no_second b c o o' hs.first (host_behind b (kind_of first) first.row limit hs.first) hs.second x.second_there };
        resumed = record { merges = ap (event_on first) came.0; first = s.resumed; second = tt };
        put = s.put;
      }

  -- ---- two sides

  module _ (first second : SideRecord) (one : Host) (event : Event) (o o1 o2 : Option World) (order1 order2 : Order) (taken taken1 t2 t3 : Option (List ℕ)) where
    abbrev there_one : Host
    there_one = host_behind b (kind_of first) first.row limit one

    abbrev there_two : Host → Host
    there_two h = host_behind b (kind_of second) second.row limit h

    abbrev AllThere : Option Host → Type 0
    AllThere z = AreThere b c o first (Some second) (record { first = one; second = z })

    -- the first side came to its event,
    abbrev FirstCame : Option Host → Type 0
    FirstCame z = CameTold b c first.which (its_event b (kind_of first) first.row limit one) (its_output b (kind_of first) first.row limit one) there_one z (Ok event) o1 order1 taken taken1

    -- and the second one comes to this, wherever it stands then
    abbrev SecondCame : Result Event RunFault → Host → Option Host → Type 0
    SecondCame r h beside = CameTold b c second.which (its_event b (kind_of second) second.row limit h) (its_output b (kind_of second) second.row limit h) (there_two h) beside r o2 order2 t2 t3

    abbrev SecondComes : Result Event RunFault → Type 0
    SecondComes r =
        (h : Host) (beside : Option Host) → Stands b c second.which o1 h beside → order_of second.machine ≡ machine_order h.machine → KeepsOrder b h.machine → MayRun second.row.kept h → SecondCame r h beside

    second_came : (two : Host) (r : Result Event RunFault) → AllThere (Some two) → FirstCame (Some two) → MayRun second.row.kept two → SecondComes r → SecondCame r two (Some there_one)
    second_came two r x came may comes =
        comes two (Some there_one)
        (stands_beside b c o o1 two there_one (Some one) second.which x.second_there.1.stands
        (subst (λ (z : Side). Stands b c z o1 there_one (Some two)) (x.first_is ∙ ap other (sym x.second_there.0)) came.2))
        x.second_there.1.order (steady.orders two.machine) may

    second_failed : (z : Option Host) (first' second' : SideRecord) (x : TalkFault) (f f1 f2 g g' : ℕ) (taken' : Option (List ℕ)) → AllThere z → FirstCame z → MayAlsoRun (Some second) z → SecondComes (Err (Talk x))
        → f1 ≡ f → CountsRun {A = Event} f1 f2 g g' (Err (Talk x)) → ResumesAll b c o2 first first' (Some second) (Some second') (record { first = one; second = z }) limit f f2 taken taken' (Err (Talk x))
    second_failed z first' second' talk.LinkFault f f1 f2 g g' taken' x came may comes e counts = subst (λ (n : ℕ). Rose n f2) e counts.0
    second_failed (Some two) first' second' (talk.BadReply frame) f f1 f2 g g' taken' x came may comes e counts = second_came two (Err (Talk (talk.BadReply frame))) x came may comes
    second_failed None first' second' (talk.BadReply frame) f f1 f2 g g' taken' x came may comes e counts = x.second_there

    pub second_failed_so : (z : Option Host) (first' second' : SideRecord) (y : RunFault) (x : TalkFault) (f f1 f2 g g' : ℕ) (taken' : Option (List ℕ)) → y ≡ Talk x → AllThere z → FirstCame z → MayAlsoRun (Some second) z → SecondComes (Err y)
        → f1 ≡ f → CountsRun {A = Event} f1 f2 g g' (Err y) → ResumesAll b c o2 first first' (Some second) (Some second') (record { first = one; second = z }) limit f f2 taken taken' (Err (Talk x))
    second_failed_so z first' second' y x f f1 f2 g g' taken' is there came may comes e counts =
        second_failed z first' second' x f f1 f2 g g' taken' there came may (subst (λ (v : RunFault). SecondComes (Err v)) is comes) e (subst (λ (v : RunFault). CountsRun {A = Event} f1 f2 g g' (Err v)) is counts)

    pub both_done : (z : Option Host) (mid first' mid2 second' : SideRecord) (next all : Event) (f f' : ℕ) → AllThere z → FirstCame z → MayAlsoRun (Some second) z → SecondComes (Ok next)
        → event_on first all ≡ merged (event_on first event) (Some (event_on second next)) → Went (event_on first all) event first mid first' → Went (event_on first all) next second mid2 second'
        → ResumesAll b c o2 first first' (Some second) (Some second') (record { first = one; second = z }) limit f f' taken taken1 (Ok all)
    both_done None mid first' mid2 second' next all f f' x came may comes e w w2 = absurd x.second_there
    both_done (Some two) mid first' mid2 second' next all f f' x came may comes e w w2 =
        let both : SideEvent = event_on first all in
        let its : Event = its_event b (kind_of first) first.row limit one in
        let came2 : SecondCame (Ok next) two (Some there_one) = second_came two (Ok next) x came may comes in
        let s = stood b c steady.runs limit both event o o1 first mid first' one (Some two) order1 taken taken1 w x.first_there came in
        let is_first : first'.which ≡ First = s.which ∙ x.first_is in
        let waits : IsThere b c o1 second two (Some there_one) = second_beside b c o o1 first' second two there_one (Some one) x.second_there.0 x.second_there.1 is_first s.there in
        let s2 = stood b c steady.runs limit both next o1 o2 second mid2 second' two (Some there_one) order2 t2 t3 w2 waits came2 in
        let is_second : second'.which ≡ Second = s2.which ∙ x.second_there.0 in
        record {
          hosts = record { first = there_one; second = Some (there_two two) };
          there = record {
            first_is = is_first;
            first_there = first_beside b c o1 o2 first' second' there_one (there_two two) (Some two) is_first s.there is_second s2.there;
            second_there = (is_second, s2.there);
          };
          resumed = record {
            merges = e ∙ (ap (λ (v : Event). merged (event_on first v) (Some (event_on second next))) came.0 ∙ ap (λ (v : Event). merged (event_on first its) (Some (event_on second v))) came2.0);
            first = s.resumed;
            second = s2.resumed;
          };
          put = s.put;
        }
