-- `ps` on a side, from its begin to its end, and what it is to the machine session.
use Rattle.std.proofs.Common.{◌≡◌, ◌≢◌, ◌≤◌, ◌∙◌, refl, sym, ap, subst, ℕ, true, List, [], map, Option, Some, None, Result, Ok, Err}
use Rattle.ldb_words.specs.declared.kinds.Order.{Order}
use Rattle.machine_state.specs.declared.layout.TheConstants.{CONTEXT}
use Rattle.machine_state.specs.Regions.{Regions}
use Rattle.machine_state.specs.State.{MachineState, Behaviour, order_of as machine_order}
use Rattle.nub_wire.specs.declared.link.Side.{Side}
use Rattle.nub_wire.specs.Fits.{TellsFitting}
use Rattle.nub_wire.specs.Nub.{NubState, Host, host}
use Rattle.nub_wire.specs.Delivery.{Conduct, World, side_of}
use Rattle.nub_wire.specs.Rest.{other}
use Rattle.frame_bytes.specs.Bytes.{Bytes, no_places}
use Rattle.abs_mem.specs.declared.wire.Wire.{Wire}
use Rattle.abs_mem.specs.declared.memory.MemFault.TheVariants.{Outside, LinkFault, BadReply}
use Rattle.abs_mem.specs.WireMeaning.{WireRest, IsBeside, rest_of, WireTells}
use Rattle.resuming.specs.Standing.{Stands}
use Rattle.ps_store.specs.declared.object.Part.{Part}
use Rattle.ps_store.specs.declared.object.Part.TheVariants.{Command as CommandPart}
use Rattle.ps_store.specs.declared.object.Mark.{Mark}
use Rattle.ps_store.specs.declared.object.StringId.{StringId}
use Rattle.ps_store.specs.StoreState.{StoreState}
use Rattle.ps_store.specs.Store.{Given, making_string, closed_part}
use Rattle.ps_store.specs.Cut.{mark_of, cut}
use Rattle.ps_store.specs.Settled.{Settled}
use Rattle.ps_store.proofs.Settling.{settled_same}
use Rattle.ps_step.specs.declared.machine.PsCore.{PsCore}
use Rattle.ps_run.specs.declared.dialect.Steps.{Steps}
use Rattle.table_model.specs.Frames.{row_of_target}
use Rattle.table_points.specs.Rows.{row_in}
use Rattle.debug_side.specs.Told.{with_regions}
use Rattle.debug_side.proofs.Told.{reached_from}
use Rattle.dialect_model.specs.Dial.{Dial, Numbered}
use Rattle.dialect_model.specs.Running.{Run}
use Rattle.dialect_model.specs.TableUse.{TableUse, use_of, Trouble, Kind, onward}
use Rattle.dialect_model.specs.TableUse.{Refused as RefusedFor, Spent as StepsSpent}
use Rattle.c_session.specs.declared.command.Command.TheVariants as command
use Rattle.ps_ops.specs.declared.dialect.Operators.{Operators}
use Rattle.ps_ops.specs.declared.view.Standing.TheVariants as standing
use Rattle.ps_ops.specs.Desk.{dial_of}
use Rattle.told_runs.specs.Told.{desk}
use Rattle.table_asks.specs.declared.fault.Cause.{Cause}
use Rattle.table_asks.specs.declared.fault.AskFault.{AskFault}
use Rattle.table_asks.specs.declared.fault.AskFault.TheVariants.{Refused, Raised, Spent, NoMemory, Broken}
use Rattle.table_asks.specs.declared.inquiry.Inquiry.{Inquiry}
use Rattle.table_asks.specs.Asking.{left_of}
use Rattle.table_asks.specs.Closing.{Settles}
use Rattle.table_asks.specs.Running.{RanOver}
use Rattle.asking.specs.Doing.{talk_in}
use Rattle.asking.specs.Raw as asked_raw
use Rattle.asking.specs.Raw.{PsOver}
use Rattle.asking.specs.Refusals.{refusal_of}
use Rattle.asking_meaning.specs.Meant.{Matches, Says, trouble_in, PsMeant, with_bytes_of}
use Rattle.asking_meaning.proofs.Texts.{ps_meant}
use Rattle.claims.specs.Side.{SideState, Change, Troubled, with_table_of}
use Rattle.claims.specs.Side.{dial_of as side_dial}
use Rattle.side_meaning.specs.Standing.{Debugged, events_in}
use Rattle.side_meaning.specs.Stepping.{IsStill, IsReady}
use Rattle.side_meaning.specs.Asking.{HasNames}
use Rattle.side_meaning.specs.Storing.{StoresNumbers, KeepsTarget}
use Rattle.side_meaning.proofs.Asking.{names_stay}
use Rattle.side_meaning.proofs.Storing.{reached, same_target, runs_kept, reaches_keep}
use Rattle.session.specs.declared.sides.SideRecord.{SideRecord}
use Rattle.session.specs.Turned.{byte_of, order_of, turned}
use Rattle.session.specs.Kept.{IsFailure}
use Rattle.session.specs.Meant.{debugged, IsThere, AskedOne, SaidOne, NotOne, RanOne, ComesTo}
use Rattle.session.specs.Undoing.{IsGivenUp}
use Rattle.session.proofs.Asking.{none_mapped, target_told, seen_by, ran_count}

-- ---- a side whose machine's memory has other numbers

machine_same : (m n : MachineState) (r : Regions) (none : Regions) → record m { memory = none } ≡ record n { memory = none } → r ≡ n.memory → n ≡ record m { memory = r }
machine_same m n r none e f = ap (λ (k : MachineState). record k { memory = n.memory }) (sym e) ∙ ap (λ (x : Regions). record m { memory = x }) (sym f)

host_same : (g : Host) (nub : NubState) (m : MachineState) → g.nub ≡ nub → g.machine ≡ m → g ≡ host nub m
host_same g nub m e f = ap (λ (x : NubState). host x g.machine) e ∙ ap (host nub) f

module _ (b : Behaviour) (c : Conduct) (o : Option World) (side : Side) (order : Order) (h : Host) (beside : Option Host) (x : Stands b c side o h beside) (same : order ≡ machine_order h.machine) where
  fits_stored : (m : Regions) → StoresNumbers (machine_order h.machine) h.machine.memory m → TellsFitting b (with_regions h m)
  fits_stored m w = record { machine = λ (k : MachineState) y. x.fits.machine k (reached_from (reached b h.machine m w) y); ended = x.fits.ended }

  pub stands_stored : (o' : Option World) (side' : Side) (order' : Order) (z : Bytes) → StoresNumbers (machine_order h.machine) h.machine.memory z.regions → WireTells c o' side' order' z (rest_of side order h beside)
      → Stands b c side o' (with_regions h z.regions) beside
  stands_stored o' side' order' z w t =
      let side_is : side' ≡ side = sym (ap (λ (r : WireRest). r.side) t.rest_is) in
      record {
        conduct = x.conduct;
        world = t.world;
        told = t.told;
        now = t.now;
        there = subst (λ (s : Side). side_of s t.world ≡ Some t.now) side_is t.there;
        rest = t.rest;
        host_is = host_same t.now.host h.nub (record h.machine { memory = z.regions }) (sym (ap (λ (r : WireRest). r.nub) t.rest_is))
            (machine_same h.machine t.now.host.machine z.regions _ (ap (λ (r : WireRest). r.machine) t.rest_is) (ap (λ (y : Bytes). y.regions) t.bytes_are));
        fits = fits_stored z.regions w;
        beside_is = subst (λ (s : Side). IsBeside (side_of (other s) t.world) beside) side_is t.beside;
      }

-- ---- what a text stores

abbrev ok_run : Run → Result Run (Trouble Cause)
ok_run x = Ok x

run_is : (x y : Run) → ok_run x ≡ ok_run y → x ≡ y
run_is x y e = cc

texted_dial : (d : Dial) (core : PsCore) (u t : TableUse) (g : Given StringId) (run : Run) → asked_raw.texted_by u d core g (Ok run) t → run.dial ≡ d
texted_dial d core u t (Ok (text, s)) run w = ap (λ (r : Run). r.dial) (run_is run _ w.0)
texted_dial d core u t (Err f) run w = absurd (let e = w.0 in cc)

ready_dial : (d : Dial) (text : List ℕ) (a : Result PsCore (Trouble Cause)) (u t : TableUse) (run : Run) → onward (asked_raw.texted text d) a u (Ok run) t → run.dial ≡ d
ready_dial d text (Ok core) u t run w = texted_dial d core u t (making_string u.store text) run w
ready_dial d text (Err e) u t run w = absurd (let h = w.0 in cc)

pub text_keeps : (d d' : Dial) (text : List ℕ) (t : TableUse) (r : Result (List ℕ) (Trouble Cause)) (s : StoreState) (n : ℕ) → asked_raw.RunsPs d text t r d' s n → KeepsTarget d.target d'.target
text_keeps d _ text t _ _ _ (asked_raw.not_begun w) = same_target d.target
text_keeps d _ text t _ _ _ (asked_raw.ended {run = run} {t' = t'} {answer = answer} {left = left} {d' = d'} {c = c} w runs) =
    subst (λ (x : Dial). KeepsTarget x.target d'.target) (ready_dial d text w.0 w.1 t' run w.3) (runs_kept t'.left left run.dial d' run.core c answer runs)

-- and where memory ran out
pub text_keeps_so_far : (d d' : Dial) (text : List ℕ) (t : TableUse) → asked_raw.RunsPsSoFar d text t d' → KeepsTarget d.target d'.target
text_keeps_so_far d _ text t asked_raw.not_run = same_target d.target
text_keeps_so_far d _ text t (asked_raw.so_far {run = run} {t' = t'} {left = left} {d' = d'} {c = c} w runs) =
    subst (λ (x : Dial). KeepsTarget x.target d'.target) (ready_dial d text w.0 w.1 t' run w.3) (reaches_keep t'.left left run.dial d' run.core c runs)

-- ---- the dial

abbrev dial_by : (target context : ℕ) → Order → Regions → (frame : ℕ) → Dial
dial_by t n order r f = record { target = Some (record { row = row_of_target t; context = n; order = order; regions = r }); standing = Numbered f; cell = 0; out = []; raw = true }

same_dial : (t t' n n' : ℕ) (o o' : Order) (r r' : Regions) (f f' : ℕ) → t ≡ t' → n ≡ n' → o ≡ o' → r ≡ r' → f ≡ f' → dial_by t n o r f ≡ dial_by t' n' o' r' f'
same_dial t t' n n' o o' r r' f f' e1 e2 e3 e4 e5 =
    ap (λ x. dial_by x n o r f) e1 ∙ (ap (λ x. dial_by t' x o r f) e2 ∙ (ap (λ (x : Order). dial_by t' n' x r f) e3 ∙ (ap (λ (x : Regions). dial_by t' n' o' x f) e4 ∙ ap (λ x. dial_by t' n' o' r' x) e5)))

-- ---- the command

module _ {L : Type 0} (c : Conduct) (world : L → Option World) (faults : L → ℕ) (leads : Wire L → Option (List ℕ) → Wire L → Type 0) (b : Behaviour) (side : SideRecord) (old talk new : Operators (Wire L)) (text : List ℕ) (begun mid ended : Inquiry) (mark : Mark) (h : Host) (beside : Option Host) (a : SideState)
    (there : IsThere b c (world old.memory.below.below.below.link) side h beside) (ready : IsReady (debugged side h) a) (none : a.step_words ≡ [])
    (turned_is : talk ≡ turned side old) (steps : begun.steps ≡ record { taken = 0; limit = 10000000 }) (store : begun.core.store ≡ record side.inquiry.core.store { part = CommandPart }) (mark_is : mark ≡ mark_of side.inquiry.core.store.command)
    (closed : Settles (closed_part begun.core.store) (closed_part mid.core.store)) (ends : ended.core.store ≡ record mid.core.store { part = CommandPart; command = cut mid.core.store.command mark }) where
  abbrev start : Operators (Wire L)
  start = talk_in (turned side old) (standing.Numbered side.frame) true

  abbrev world_after : Option World
  world_after = world new.memory.below.below.below.link

  abbrev k : StoreState
  k = mid.core.store

  abbrev first : StoreState
  first = record side.inquiry.core.store { part = CommandPart }

  abbrev last : StoreState
  last = record k { part = CommandPart; command = cut k.command (mark_of side.inquiry.core.store.command) }

  ends_so : ended.core.store ≡ last
  ends_so = ends ∙ ap (λ (m : Mark). record k { part = CommandPart; command = cut k.command m }) mark_is

  settled : Settled (closed_part first) (closed_part k)
  settled = closed (closed_part first) (subst (λ (s : StoreState). Settled (closed_part first) (closed_part s)) (sym store) (settled_same (closed_part first)))

  settled_last : Settled (closed_part k) (closed_part last)
  settled_last = subst (λ (p : Part). Settled (closed_part k) (record (closed_part k) { part = p })) settled.part (settled_same (closed_part k))

  abbrev at : StoreState → Host → Debugged
  at s g = record { table = s; frame = side.frame; row = side.row; host = g }

  -- the points that are kept are the same rows behind it
  names_first : IsStill (at first h) (at k h) × HasNames (at k h)
  names_first = names_stay (at first h) k settled (record { breaks = there.names.breaks; words = there.names.words; kept = there.names.kept })

  names_last : (g : Host) → IsStill (at k g) (at last g) × HasNames (at last g)
  names_last g = names_stay (at k g) last settled_last (record { breaks = names_first.1.breaks; words = names_first.1.words; kept = names_first.1.kept })

  abbrev after : SideRecord
  after = record side { inquiry = ended }

  abbrev regions : Regions
  regions = h.machine.memory

  told : WireTells c (world old.memory.below.below.below.link) side.which (order_of side.machine) (record { order = order_of side.machine; regions = regions; registers = no_places; cell = None }) (rest_of side.which (order_of side.machine) h beside)
  told = target_told b c (world old.memory.below.below.below.link) side.which (order_of side.machine) h beside there.stands there.order

  dial_is : dial_of (desk start) regions ≡ side_dial a (Numbered a.frame) true
  dial_is =
      let m : h.machine ≡ a.machine = sym ready.planted.machine in
      same_dial (byte_of side.machine) a.machine.target side.context CONTEXT (order_of side.machine) (machine_order a.machine) regions a.machine.memory side.frame a.frame (there.target ∙ ap (λ (n : MachineState). n.target) m) there.context
      (there.order ∙ ap (λ (n : MachineState). machine_order n) m) (ap (λ (n : MachineState). n.memory) m) (sym ready.stands.frame)

  in_part : begun.core.store.part ≡ CommandPart
  in_part = ap (λ (s : StoreState). s.part) store

  module _ (r : Result (List ℕ) (Trouble Cause)) (regions' : Regions) (runs : asked_raw.RunsPs (dial_of (desk start) regions) text (use_of begun.core.store (left_of begun)) r (dial_of (desk new) regions') k (left_of mid)) where
    meant : PsMeant a text r (dial_of (desk new) regions') mid ended
    meant =
        ps_meant a text side.inquiry begun mid ended r (dial_of (desk start) regions) (dial_of (desk new) regions') (record { table = ready.stands.table.same; nothing = ready.stands.table.command })
        (record { taken = ap (λ (s : Steps). s.taken) steps; limit = ap (λ (s : Steps). s.limit) steps; store = store }) dial_is runs ends_so

    stored : StoresNumbers (machine_order h.machine) regions regions'
    stored = subst (λ (o : Order). StoresNumbers o regions regions') there.order (text_keeps (dial_of (desk start) regions) (dial_of (desk new) regions') text (use_of begun.core.store (left_of begun)) r k (left_of mid) runs).stores

    abbrev g : Host
    g = with_regions h regions'

    abbrev left_side : SideState
    left_side = with_table_of (with_bytes_of (dial_of (desk new) regions').target a) k

    asked : WireTells c world_after new.memory.below.below.below.side new.memory.below.below.below.order (record { order = new.memory.below.below.order; regions = regions'; registers = no_places; cell = None }) (rest_of side.which (order_of side.machine) h beside)
        → AskedOne b c world_after side after h beside (command.Ps text) a meant.result
    asked t = record {
      host = g;
      after = meant.side;
      there = record {
        stands = stands_stored b c (world old.memory.below.below.below.link) side.which (order_of side.machine) h beside there.stands there.order world_after new.memory.below.below.below.side new.memory.below.below.below.order _ stored t;
        context = there.context;
        target = there.target;
        order = there.order;
        names = subst (λ (s : StoreState). HasNames (at s g)) (sym ends_so) (names_last g).1;
      };
      one = meant.comes;
      alike = record {
        words = none_mapped (row_in side.inquiry.core.store) side.row.step_words.items (sym ready.planted.words ∙ none);
        table = record { same = meant.stands.table; command = meant.stands.nothing };
        frame = ap (λ (x : SideState). x.frame) meant.side_is ∙ ready.stands.frame;
        breaks = ap (λ (x : SideState). x.breaks) meant.side_is ∙ (ready.stands.alike.breaks ∙ (sym names_first.0.breaks ∙ (sym (names_last g).0.breaks ∙ ap (λ (s : StoreState). map (row_in s) side.row.breaks.items) (sym ends_so))));
        stands_at = refl;
        kept = ap (λ (s : StoreState). events_in s side.row.kept) ends_so ∙ ((names_last g).0.kept ∙ names_first.0.kept);
        host = ap (λ (x : SideState). with_regions h x.machine.memory) (sym meant.side_is);
        side = subst (λ (z : SideState). z ≡ record a { machine = record a.machine { memory = z.machine.memory }; table = z.table; breaks = z.breaks; frame = z.frame }) (sym meant.side_is) refl;
      };
    }

  abbrev AskedAs : Result Change Troubled → Type 0
  AskedAs x = AskedOne b c world_after side after h beside (command.Ps text) a x

  said_by : (s : SideState) (said : List ℕ) (x : Result Change Troubled) → Matches (Says s) (Ok said) x → AskedAs x → SaidOne b c world_after side after h beside (command.Ps text) a said
  said_by s said (Ok change) m x = record { change = change; text_is = m.0; asked = x }
  said_by s said (Err e) m x = absurd m

  not_by : (s : SideState) (e : Trouble Cause) (x : Result Change Troubled) → Matches (Says s) (Err e) x → AskedAs x → AskedAs (Err (trouble_in e))
  not_by s e (Ok change) m x = absurd m
  not_by s e (Err f) m x = subst (λ (y : Troubled). AskedAs (Err y)) m x

  abbrev f0 : ℕ
  f0 = faults old.memory.below.below.below.link

  abbrev f1 : ℕ
  f1 = faults new.memory.below.below.below.link

  text_meant_by : (result : Result (List ℕ) AskFault) → PsOver (seen_by c world faults) text begun start result mid new → RanOver (seen_by c world faults) leads start.memory.below.below.below result new.memory.below.below.below
      → ComesTo f0 f1 (λ (said : List ℕ). SaidOne b c world_after side after h beside (command.Ps text) a said) (NotOne b c world_after side after h beside (command.Ps text) a) result
  text_meant_by (Ok said) over ran =
      let y = over in_part regions (rest_of side.which (order_of side.machine) h beside) told in
      let v = meant (Ok said) y.0 y.2 in
      said_by v.side said v.result v.matches (asked (Ok said) y.0 y.2 y.1)
  text_meant_by (Err (Raised e)) over ran =
      let y = over in_part regions (rest_of side.which (order_of side.machine) h beside) told in
      let v = meant (Err (Kind e)) y.0 y.2 in
      not_by v.side (Kind e) v.result v.matches (asked (Err (Kind e)) y.0 y.2 y.1)
  text_meant_by (Err Spent) over ran =
      let y = over in_part regions (rest_of side.which (order_of side.machine) h beside) told in
      let v = meant (Err StepsSpent) y.0 y.2 in
      not_by v.side StepsSpent v.result v.matches (asked (Err StepsSpent) y.0 y.2 y.1)
  text_meant_by (Err NoMemory) over ran = tt
  text_meant_by (Err (Refused cause)) over ran = absurd over
  text_meant_by (Err (Broken LinkFault)) over ran = ran
  text_meant_by (Err (Broken (BadReply frame))) over ran = over regions (rest_of side.which (order_of side.machine) h beside) told
  text_meant_by (Err (Broken (Outside p))) over ran = ran

-- over the operators that were turned to the side
pub text_meant : {L : Type 0} (c : Conduct) (world : L → Option World) (faults : L → ℕ) (leads : Wire L → Option (List ℕ) → Wire L → Type 0) (b : Behaviour) (side : SideRecord) (old talk new : Operators (Wire L)) (text : List ℕ) (begun mid ended : Inquiry) (mark : Mark) (h : Host) (beside : Option Host) (a : SideState)
    → IsThere b c (world old.memory.below.below.below.link) side h beside → IsReady (debugged side h) a → a.step_words ≡ []
    → talk ≡ turned side old → begun.steps ≡ record { taken = 0; limit = 10000000 } → begun.core.store ≡ record side.inquiry.core.store { part = CommandPart } → mark ≡ mark_of side.inquiry.core.store.command
    → Settles (closed_part begun.core.store) (closed_part mid.core.store) → ended.core.store ≡ record mid.core.store { part = CommandPart; command = cut mid.core.store.command mark }
    → (result : Result (List ℕ) AskFault) → PsOver (seen_by c world faults) text begun (talk_in talk (standing.Numbered side.frame) true) result mid new
    → RanOver (seen_by c world faults) leads talk.memory.below.below.below result new.memory.below.below.below
    → ComesTo (faults old.memory.below.below.below.link) (faults new.memory.below.below.below.link) (λ (said : List ℕ). SaidOne b c (world new.memory.below.below.below.link) side (record side { inquiry = ended }) h beside (command.Ps text) a said)
    (NotOne b c (world new.memory.below.below.below.link) side (record side { inquiry = ended }) h beside (command.Ps text) a) result
text_meant c world faults leads b side old talk new text begun mid ended mark h beside a there ready none e steps store mark_is closed ends result over ran =
    text_meant_by c world faults leads b side old talk new text begun mid ended mark h beside a there ready none e steps store mark_is closed ends result
    (subst (λ (z : _). PsOver (seen_by c world faults) text begun (talk_in z (standing.Numbered side.frame) true) result mid new) e over)
    (subst (λ (z : _). RanOver (seen_by c world faults) leads z.memory.below.below.below result new.memory.below.below.below) e ran)

-- the count of faults doesn't fall
pub text_count : {L : Type 0} (c : Conduct) (world : L → Option World) (faults : L → ℕ) (leads : Wire L → Option (List ℕ) → Wire L → Type 0) (side : SideRecord) (old talk new : Operators (Wire L)) → talk ≡ turned side old
    → (result : Result (List ℕ) AskFault) → RanOver (seen_by c world faults) leads talk.memory.below.below.below result new.memory.below.below.below → result ≢ Err NoMemory → faults old.memory.below.below.below.link ≤ faults new.memory.below.below.below.link
text_count c world faults leads side old talk new e result ran some =
    subst (λ (x : _). faults x.memory.below.below.below.link ≤ faults new.memory.below.below.below.link) e (ran_count (seen_by c world faults) leads talk.memory.below.below.below new.memory.below.below.below result some ran)

-- it ran, however it ended
pub text_ran : (b : Behaviour) (c : Conduct) (o : Option World) (side side' : SideRecord) (h : Host) (beside : Option Host) (text said : List ℕ) (a : SideState) → SaidOne b c o side side' h beside (command.Ps text) a said → RanOne b c o side side' h beside (command.Ps text) a
text_ran b c o side side' h beside text said a x = record { result = Ok x.change; found_memory = λ e. cc; asked = x.asked }

pub text_unsaid : (b : Behaviour) (c : Conduct) (o : Option World) (side side' : SideRecord) (h : Host) (beside : Option Host) (text : List ℕ) (a : SideState) (f f' : ℕ) (fault : AskFault) → (IsFailure fault → ⊥)
    → ComesTo f f' (λ (said : List ℕ). SaidOne b c o side side' h beside (command.Ps text) a said) (NotOne b c o side side' h beside (command.Ps text) a) (Err fault) → RanOne b c o side side' h beside (command.Ps text) a
text_unsaid b c o side side' h beside text a f f' (Refused cause) n w = record { result = Err (RefusedFor (refusal_of cause)); found_memory = λ e. cc; asked = w }
text_unsaid b c o side side' h beside text a f f' (Raised e) n w = record { result = Err (Kind e); found_memory = λ e. cc; asked = w }
text_unsaid b c o side side' h beside text a f f' Spent n w = record { result = Err StepsSpent; found_memory = λ e. cc; asked = w }
text_unsaid b c o side side' h beside text a f f' NoMemory n w = absurd (n tt)
text_unsaid b c o side side' h beside text a f f' (Broken x) n w = absurd (n tt)

-- or the link failed, or memory was wanting
pub text_failed : (f f' : ℕ) (D : List ℕ → Type 0) (E : Unit {0} → Type 0) (N M : Troubled → Type 0) (fault : AskFault) → IsFailure fault → ComesTo f f' D N (Err fault) → ComesTo f f' E M (Err fault)
text_failed f f' D E N M (Refused cause) is w = absurd is
text_failed f f' D E N M (Raised e) is w = absurd is
text_failed f f' D E N M Spent is w = absurd is
text_failed f f' D E N M NoMemory is w = w
text_failed f f' D E N M (Broken LinkFault) is w = w
text_failed f f' D E N M (Broken (BadReply frame)) is w = w
text_failed f f' D E N M (Broken (Outside p)) is w = w

pub run_failed : (f f' : ℕ) (E : Unit {0} → Type 0) (fault : AskFault) → IsFailure fault → ComesTo f f' E (λ e. ⊥) (Err fault) → IsGivenUp f f' (Unit {0}) fault
run_failed f f' E (Refused cause) is w = absurd is
run_failed f f' E (Raised e) is w = absurd is
run_failed f f' E Spent is w = absurd is
run_failed f f' E NoMemory is w = tt
run_failed f f' E (Broken LinkFault) is w = w
run_failed f f' E (Broken (BadReply frame)) is w = absurd w
run_failed f f' E (Broken (Outside p)) is w = absurd w
