-- Sides in whose targets a text of PostScript stored numbers.
use Rattle.std.proofs.Common.{◌≡◌, ◌∙◌, refl, sym, ap, subst, ℕ, true, List, [], map, Option, Some, None, Result, Ok, Err, IfErr}
use Rattle.std.specs.Global.{Vec}
use Rattle.std.specs.List.{AllByRecursion}
use Rattle.ldb_words.specs.declared.kinds.Order.{Order}
use Rattle.machine_state.specs.Regions.{Regions}
use Rattle.machine_state.specs.State.{MachineState, Behaviour, order_of as machine_order}
use Rattle.nub_wire.specs.declared.link.Side.{Side}
use Rattle.nub_wire.specs.declared.link.Side.TheVariants.{First, Second}
use Rattle.nub_wire.specs.Nub.{Host}
use Rattle.nub_wire.specs.Delivery.{Conduct, World}
use Rattle.resuming.specs.Standing.{Stands}
use Rattle.frame_bytes.specs.Bytes.{no_places}
use Rattle.abs_mem.specs.declared.wire.Wire.{Wire}
use Rattle.abs_mem.specs.WireMeaning.{WireRest, WireTells, rest_of}
use Rattle.ps_store.specs.StoreState.{StoreState}
use Rattle.ps_store.specs.declared.object.Part.TheVariants.{Command as CommandPart}
use Rattle.table_points.specs.declared.row.Point.{Point}
use Rattle.table_points.specs.Rows.{row_in}
use Rattle.table_points.specs.Named.{IsNamed}
use Rattle.debug_side.specs.Told.{with_regions}
use Rattle.dialect_model.specs.Dial.{Target}
use Rattle.dialect_model.specs.TableUse.{use_of, Trouble, Kind}
use Rattle.dialect_model.specs.TableUse.{Spent as StepsSpent}
use Rattle.ps_ops.specs.declared.dialect.Operators.{Operators}
use Rattle.ps_ops.specs.declared.view.Standing.TheVariants as standing
use Rattle.ps_ops.specs.Desk.{dial_of}
use Rattle.told_runs.specs.Told.{desk, Tells}
use Rattle.table_asks.specs.declared.fault.Cause.{Cause}
use Rattle.table_asks.specs.Asking.{left_of}
use Rattle.asking.specs.Doing.{talk_in}
use Rattle.asking.specs.Raw as asked_raw
use Rattle.asking.specs.Raw.{PsOver}
use Rattle.table_asks.specs.declared.fault.AskFault.{AskFault}
use Rattle.table_asks.specs.declared.fault.AskFault.TheVariants.{Refused, Raised, Spent, NoMemory, Broken}
use Rattle.table_asks.specs.declared.inquiry.Inquiry.{Inquiry}
use Rattle.table_asks.specs.Faults.{IsUnbroken}
use Rattle.claims.specs.Side.{SideState, SessionState, State}
use Rattle.side_meaning.specs.Standing.{Debugged}
use Rattle.side_meaning.specs.Stepping.{IsStill, IsReady}
use Rattle.side_meaning.specs.Asking.{HasNames, IsAsked}
use Rattle.side_meaning.specs.Sessions as sessions
use Rattle.side_meaning.specs.Sessions.{OnSecond, StandsIn, SecondAsked}
use Rattle.side_meaning.specs.Storing.{StoresNumbers, none_stored, KeepsTarget}
use Rattle.side_meaning.proofs.Starting.{asks_stand, no_words}
use Rattle.session.specs.declared.sides.SideRecord.{SideRecord}
use Rattle.session.specs.Kept.{IsFailure, IsUndone}
use Rattle.session.specs.Meant.{debugged, second_of, sides_of, Hosts, IsThere, AreThere, AreReadyFor, StoredThere}
use Rattle.session.specs.Wanting.{TableStays, StoresOne, WithNumbers, StandAgain}
use Rattle.session.specs.Turned.{order_of, turned}
use Rattle.session.proofs.Asking.{none_mapped, target_told, seen_by}
use Rattle.session.proofs.AskingText.{text_keeps, text_keeps_so_far, stands_stored}
use Rattle.session.proofs.AskingBoth.{asked_none}
use Rattle.session.proofs.Beside.{second_beside, first_beside}
use Rattle.session.proofs.Readying.{second_stays}
use Rattle.session.proofs.Wanting.{settles_for, second_all, same_numbers}

-- ---- a side

module _ (b : Behaviour) (c : Conduct) (o o' : Option World) (side : SideRecord) (h : Host) (beside : Option Host) (x : IsThere b c o side h beside) (a : SideState) (ready : IsReady (debugged side h) a) (none : a.step_words ≡ []) (i : Inquiry) (table : TableStays side.inquiry.core.store i.core.store) where
  abbrev after : SideRecord
  after = record side { inquiry = i }

  names : IsStill (debugged side h) (record (debugged side h) { table = i.core.store }) × HasNames (record (debugged side h) { table = i.core.store })
  names = table.names (debugged side h) x.names

  module _ (regions : Regions) (stored : StoresNumbers (machine_order h.machine) h.machine.memory regions) (stands : Stands b c side.which o' (with_regions h regions) beside) where
    abbrev left : SideState
    left = record a { machine = record a.machine { memory = regions }; table = record i.core.store { part = CommandPart } }

    one_stored : StoresOne b c o' side after h beside a
    one_stored = record {
      host = with_regions h regions;
      after = left;
      there = record {
        stands = stands;
        context = x.context;
        target = x.target;
        order = x.order;
        names = record { breaks = names.1.breaks; words = names.1.words; kept = names.1.kept };
      };
      alike = record {
        words = none_mapped (row_in side.inquiry.core.store) side.row.step_words.items (sym ready.planted.words ∙ none);
        table = record { same = refl; command = table.settles.nothing ready.stands.table.command };
        frame = ready.stands.frame;
        breaks = ready.stands.alike.breaks ∙ sym names.0.breaks;
        stands_at = refl;
        kept = names.0.kept;
        host = refl;
        side = refl;
      };
      numbers = record {
        same = refl;
        stores = subst (λ (m : MachineState). StoresNumbers (machine_order m) m.memory regions) (sym ready.planted.machine) stored;
        settles = settles_for side.inquiry.core.store i.core.store a.table (record i.core.store { part = CommandPart }) ready.stands.table.same refl table.settles;
      };
    }

    pub one_stores : (side' : SideRecord) → side' ≡ after → StoresOne b c o' side side' h beside a
    one_stores side' e = subst (λ (z : SideRecord). StoresOne b c o' side z h beside a) (sym e) one_stored

  -- nothing was stored
  pub none_stores : Stands b c side.which o' h beside → (side' : SideRecord) → side' ≡ after → StoresOne b c o' side side' h beside a
  none_stores stands side' e = one_stores h.machine.memory none_stored stands side' e

-- an assignment was stored
pub put_stores : (b : Behaviour) (c : Conduct) (o o' : Option World) (side side' : SideRecord) (h : Host) (beside : Option Host) → IsThere b c o side h beside → (a : SideState) → IsReady (debugged side h) a → a.step_words ≡ [] → side' ≡ record side { inquiry = side'.inquiry }
    → TableStays side.inquiry.core.store side'.inquiry.core.store → StoredThere b c o' side' h beside → StoresOne b c o' side side' h beside a
put_stores b c o o' side side' h beside x a ready none same table put =
    one_stores b c o o' side h beside x a ready none side'.inquiry table put.regions put.stores (subst (λ (w : Side). Stands b c w o' (with_regions h put.regions) beside) (ap (λ (z : SideRecord). z.which) same) put.there.stands) side' same

-- ---- a text of PostScript

module _ {L : Type 0} (c : Conduct) (world : L → Option World) (faults : L → ℕ) (b : Behaviour) (side : SideRecord) (old talk new : Operators (Wire L)) (text : List ℕ) (begun mid : Inquiry) (turned_is : talk ≡ turned side old) (store : begun.core.store ≡ record side.inquiry.core.store { part = CommandPart })
    (h : Host) (beside : Option Host) (there : IsThere b c (world old.memory.below.below.below.link) side h beside) where
  abbrev start : Operators (Wire L)
  start = talk_in (turned side old) (standing.Numbered side.frame) true

  abbrev world_after : Option World
  world_after = world new.memory.below.below.below.link

  abbrev regions : Regions
  regions = h.machine.memory

  abbrev rest : WireRest
  rest = rest_of side.which (order_of side.machine) h beside

  told : WireTells c (world old.memory.below.below.below.link) side.which (order_of side.machine) (record { order = order_of side.machine; regions = regions; registers = no_places; cell = None }) rest
  told = target_told b c (world old.memory.below.below.below.link) side.which (order_of side.machine) h beside there.stands there.order

  in_part : begun.core.store.part ≡ CommandPart
  in_part = ap (λ (s : StoreState). s.part) store

  -- numbers were put into its memory
  record Puts : Type 0 where
    regions' : Regions
    stored : StoresNumbers (order_of side.machine) regions regions'
    tells : Tells (seen_by c world faults) new regions' rest

  ended : (r : Result (List ℕ) (Trouble Cause)) (rg : Regions) → Tells (seen_by c world faults) new rg rest → asked_raw.RunsPs (dial_of (desk start) regions) text (use_of begun.core.store (left_of begun)) r (dial_of (desk new) rg) mid.core.store (left_of mid) → Puts
  ended r rg t runs = record { regions' = rg; stored = (text_keeps (dial_of (desk start) regions) (dial_of (desk new) rg) text (use_of begun.core.store (left_of begun)) r mid.core.store (left_of mid) runs).stores; tells = t }

  puts : (r : Result (List ℕ) AskFault) → IfErr r (λ (f : AskFault). IsUnbroken f) → PsOver (seen_by c world faults) text begun start r mid new → Puts
  puts (Ok said) u over = let y = over in_part regions rest told in ended (Ok said) y.0 y.1 y.2
  puts (Err (Raised e)) u over = let y = over in_part regions rest told in ended (Err (Kind e)) y.0 y.1 y.2
  puts (Err Spent) u over = let y = over in_part regions rest told in ended (Err StepsSpent) y.0 y.1 y.2
  puts (Err NoMemory) u over =
      let y = over in_part regions rest told in
      let kept = text_keeps_so_far (dial_of (desk start) regions) y.2 text (use_of begun.core.store (left_of begun)) y.3 in
      record { regions' = y.0; stored = (subst (λ (t : Option Target). KeepsTarget (dial_of (desk start) regions).target t) (sym y.4) kept).stores; tells = y.1 }
  puts (Err (Refused cause)) u over = absurd over
  puts (Err (Broken x)) u over = absurd u

  pub text_stored : (a : SideState) → IsReady (debugged side h) a → a.step_words ≡ [] → (i : Inquiry) → TableStays side.inquiry.core.store i.core.store → (r : Result (List ℕ) AskFault) → IfErr r (λ (f : AskFault). IsUnbroken f) → PsOver (seen_by c world faults) text begun (talk_in talk (standing.Numbered side.frame) true) r mid new
      → StoresOne b c world_after side (record side { inquiry = i }) h beside a
  text_stored a ready none i table r u over =
      let y = puts r u (subst (λ (z : Operators (Wire L)). PsOver (seen_by c world faults) text begun (talk_in z (standing.Numbered side.frame) true) r mid new) turned_is over) in
      let stored = subst (λ (o : Order). StoresNumbers o regions y.regions') there.order y.stored in
      let wire = new.memory.below.below.below in
      one_stores b c (world old.memory.below.below.below.link) world_after side h beside there a ready none i table y.regions' stored
      (stands_stored b c (world old.memory.below.below.below.link) side.which (order_of side.machine) h beside there.stands there.order world_after wire.side wire.order _ stored y.tells)
      (record side { inquiry = i }) refl

-- its breakpoints and its chosen frame were put back
module _ (b : Behaviour) (c : Conduct) (o : Option World) (side side' : SideRecord) (h : Host) (beside : Option Host) (a : SideState) (v : Vec Point) (n : ℕ) (breaks : v.items ≡ side'.row.breaks.items) (frame : n ≡ side'.frame) (x : StoresOne b c o side side' h beside a) where
  abbrev back : SideRecord
  back = record side' { row = record side'.row { breaks = v }; frame = n }

  back_so : StoresOne b c o side back h beside a
  back_so = record {
    host = x.host;
    after = x.after;
    there = record {
      stands = x.there.stands;
      context = x.there.context;
      target = x.there.target;
      order = x.there.order;
      names = record { breaks = subst (λ ps. AllByRecursion (IsNamed side'.inquiry.core.store) ps) (sym breaks) x.there.names.breaks; words = x.there.names.words; kept = x.there.names.kept };
    };
    alike = record {
      words = x.alike.words;
      table = x.alike.table;
      frame = x.alike.frame ∙ sym frame;
      breaks = x.alike.breaks ∙ ap (λ ps. map (row_in side'.inquiry.core.store) ps) (sym breaks);
      stands_at = x.alike.stands_at;
      kept = x.alike.kept;
      host = x.alike.host;
      side = x.alike.side;
    };
    numbers = x.numbers;
  }

  pub stored_back : (side'' : SideRecord) → side'' ≡ back → StoresOne b c o side side'' h beside a
  stored_back side'' e = subst (λ (z : SideRecord). StoresOne b c o side z h beside a) (sym e) back_so

-- ---- faults

pub undone_unbroken : (A : Type 0) (e : AskFault) → IsUndone {A = A} (Err e) → IsUnbroken e
undone_unbroken A (Refused cause) u = tt
undone_unbroken A (Raised x) u = tt
undone_unbroken A Spent u = tt
undone_unbroken A NoMemory u = tt
undone_unbroken A (Broken x) u = absurd u

pub result_unbroken : (A : Type 0) (r : Result A AskFault) → IsUndone r → IfErr r (λ (e : AskFault). IsUnbroken e)
result_unbroken A (Ok x) u = tt
result_unbroken A (Err e) u = undone_unbroken A e u

pub done_unbroken : (e : AskFault) → (IsFailure e → ⊥) → IsUnbroken e
done_unbroken (Refused cause) n = tt
done_unbroken (Raised x) n = tt
done_unbroken Spent n = tt
done_unbroken NoMemory n = tt
done_unbroken (Broken x) n = absurd (n tt)

-- ---- the session

second_unasked : (state : State) (d : Option Debugged) (a : Option SideState) → sessions.IsStill state → OnSecond (StandsIn state) d a → OnSecond IsReady d a → SecondAsked d d a a
second_unasked state None None still s r = tt
second_unasked state (Some d) (Some a) still s r = asked_none d a r (no_words state d a still s)
second_unasked state None (Some a) still s r = absurd s
second_unasked state (Some d) None still s r = absurd s

module _ (b : Behaviour) (c : Conduct) (o o1 : Option World) (first first' : SideRecord) (which : first'.which ≡ first.which) (st : SessionState) where
  -- the first side alone ran it
  pub first_numbers : (second : Option SideRecord) (hs : Hosts) → AreThere b c o first second hs → AreReadyFor first second hs st → StoresOne b c o1 first first' hs.first hs.second st.first → StandAgain WithNumbers b c o1 first' second st
  first_numbers second hs there ready x =
      let hosts : Hosts = record { first = x.host; second = hs.second } in
      let after : SessionState = record st { first = x.after } in
      record {
        after = after;
        hosts = hosts;
        there = record {
          first_is = which ∙ there.first_is;
          first_there = x.there;
          second_there = second_stays b c o o1 first' hs.first x.host second hs.second there.second_there (which ∙ there.first_is) x.there;
        };
        sides = (asks_stand (sides_of first second hs) (sides_of first' second hosts) st after ready.still ready.sides ready.ready refl x.alike (second_unasked st.state (second_of second hs.second) st.second ready.still ready.sides.second ready.ready.1)).0;
        changed = record { same = refl; first = x.numbers; second = second_all WithNumbers st.second same_numbers };
      }

  -- both did
  module _ (o2 : Option World) (second second' : SideRecord) (second_which : second'.which ≡ second.which)
      (stores : (h : Host) (beside : Option Host) (a : SideState) → IsThere b c o1 second h beside → IsReady (debugged second h) a → a.step_words ≡ [] → StoresOne b c o2 second second' h beside a) where
    both_by : (g : Host) (k : Option Host) (s : Option SideState) → AreThere b c o first (Some second) (record { first = g; second = k }) → AreReadyFor first (Some second) (record { first = g; second = k }) (record st { second = s })
        → StoresOne b c o1 first first' g k st.first → StandAgain WithNumbers b c o2 first' (Some second') (record st { second = s })
    both_by g None s there ready x = absurd there.second_there
    both_by g (Some h) None there ready x = absurd ready.ready.1
    both_by g (Some h) (Some s) there ready x =
        let waits : IsThere b c o1 second h (Some x.host) = second_beside b c o o1 first' second h x.host (Some g) there.second_there.0 there.second_there.1 (which ∙ there.first_is) x.there in
        let y = stores h (Some x.host) s waits ready.ready.1 (no_words st.state (debugged second h) s ready.still ready.sides.second) in
        let hosts : Hosts = record { first = x.host; second = Some y.host } in
        let after : SessionState = record st { first = x.after; second = Some y.after } in
        record {
          after = after;
          hosts = hosts;
          there = record {
            first_is = which ∙ there.first_is;
            first_there = first_beside b c o1 o2 first' second' x.host y.host (Some h) (which ∙ there.first_is) x.there (second_which ∙ there.second_there.0) y.there;
            second_there = (second_which ∙ there.second_there.0, y.there);
          };
          sides = (asks_stand (sides_of first (Some second) (record { first = g; second = Some h })) (sides_of first' (Some second') hosts) (record st { second = Some s }) after ready.still ready.sides ready.ready refl x.alike y.alike).0;
          changed = record { same = refl; first = x.numbers; second = y.numbers };
        }

    pub both_numbers : (hs : Hosts) → AreThere b c o first (Some second) hs → AreReadyFor first (Some second) hs st → StoresOne b c o1 first first' hs.first hs.second st.first → StandAgain WithNumbers b c o2 first' (Some second') st
    both_numbers hs there ready x = both_by hs.first hs.second st.second there ready x
