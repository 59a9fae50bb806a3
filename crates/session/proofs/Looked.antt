-- A command of one side that was begun and ended: what it leaves of the side, and of the count of the link's faults.
use Rattle.std.proofs.Common.{◌≡◌, ◌≢◌, ◌∙◌, refl, sym, ap, subst, ℕ, List, [], Option, Some, None, Result, Ok, Err, OnOk, IfOk, IfErr}
use Rattle.std.specs.Global.{Vec}
use Rattle.machine_state.specs.State.{Behaviour}
use Rattle.nub_wire.specs.Nub.{Host}
use Rattle.nub_wire.specs.Delivery.{Conduct, World}
use Rattle.nub_wire.specs.declared.link.Side.TheVariants.{First, Second}
use Rattle.nub_wire.specs.declared.link.Side.{Side}
use Rattle.ldb_words.specs.declared.kinds.Order.{Order}
use Rattle.ldb_edge.specs.Count.{Rose}
use Rattle.wire_talk.specs.declared.fault.TalkFault.TheVariants as talk
use Rattle.debug_side.specs.There.{FailsToRead}
use Rattle.debug_side.specs.declared.there.ReadFault.{ReadFault}
use Rattle.debug_side.specs.declared.there.ReadFault.TheVariants as read
use Rattle.wire_talk.specs.declared.fault.TalkFault.{TalkFault}
use Rattle.debug_side.specs.Wrote.{Puts}
use Rattle.table_asks.specs.Running.{RanOver}
use Rattle.debug_side.specs.declared.there.WordThere.{WordThere}
use Rattle.session.specs.Undoing.{unread, wanting, ReadsBefore}
use Rattle.abs_mem.specs.Meaning.{Seen, Same}
use Rattle.abs_mem.specs.WireMeaning.{wire_seen}
use Rattle.abs_mem.specs.declared.memory.MemFault.{MemFault}
use Rattle.abs_mem.specs.declared.memory.MemFault.TheVariants.{Outside, LinkFault, BadReply}
use Rattle.debug_side.specs.Planting.{PlantsAll}
use Rattle.table_asks.specs.Faults.{memory_fault}
use Rattle.side_meaning.proofs.Telling.{outsides}
use Rattle.session.proofs.Words.{seen_on}
use Rattle.abs_mem.specs.declared.wire.Wire.{Wire}
use Rattle.resuming.specs.Standing.{Stands}
use Rattle.ps_store.specs.declared.object.Part.TheVariants.{Command as CommandPart}
use Rattle.table_points.specs.declared.row.Point.{Point}
use Rattle.table_points.specs.Rows.{row_in}
use Rattle.ps_ops.specs.declared.dialect.Operators.{Operators}
use Rattle.c_session.specs.declared.command.Command.{Command}
use Rattle.c_session.specs.declared.command.Command.TheVariants as command
use Rattle.table_asks.specs.declared.fault.AskFault.{AskFault}
use Rattle.table_asks.specs.declared.fault.AskFault.TheVariants.{Refused, Raised, Spent, NoMemory, Broken}
use Rattle.table_asks.specs.declared.inquiry.Inquiry.{Inquiry}
use Rattle.table_asks.specs.Faults.{IsUnbroken}
use Rattle.asking.specs.Doing.{Asks}
use Rattle.asking.specs.Raw.{regs_line}
use Rattle.evaluating.specs.Told.{StoresNone, StoresAll}
use Rattle.claims.specs.Side.{SideState, SessionState}
use Rattle.side_meaning.specs.Standing.{StandsFor}
use Rattle.side_meaning.specs.Stepping.{IsReady}
use Rattle.side_meaning.proofs.Starting.{no_words}
use Rattle.session.specs.declared.sides.SideRecord.{SideRecord}
use Rattle.session.specs.Turned.{byte_of, order_of, turned}
use Rattle.session.specs.Asked.{Does}
use Rattle.session.specs.Kept.{IsFailure, IsKept, IsQuery, IsStoreFault, IsUndone}
use Rattle.session.specs.Counted.{CountsFault, CountsAsk, CountsTalk}
use Rattle.session.specs.Meant.{debugged, Hosts, IsThere, AreThere, AreReadyFor, IsBare, IsLook, ComesTo, FailsWell, TalksWell, StoredThere}
use Rattle.session.specs.Wanting.{IsAskedAlone, TableStays, StaysOne, WithTable, StandAgain}
use Rattle.session.proofs.Asking.{none_mapped, seen_by}
use Rattle.session.proofs.Wanting.{ran_same, there_stays, one_stays, second_asked}
use Rattle.session.proofs.Beside.{second_beside, first_beside}
use Rattle.ps_step.specs.declared.fault.PsError.{PsError}
use Rattle.session.proofs.Counting.{fault_on, ran_counts, puts_counts, read_counts, comes_counts, leaves_counts}
use Rattle.session.proofs.Looking.{does_look, comes_look, look_breaks, does_counts, undone_same, looks_well, leaves_well, stands_still}

-- what stays where a talk goes well
fails_to : (f f' : ℕ) (P Q : Type 0) (e : AskFault) → (P → Q) → FailsWell f f' P e → FailsWell f f' Q e
fails_to f f' P Q (Refused cause) to d = to d
fails_to f f' P Q (Raised e) to d = to d
fails_to f f' P Q Spent to d = to d
fails_to f f' P Q NoMemory to d = to d
fails_to f f' P Q (Broken LinkFault) to d = d
fails_to f f' P Q (Broken (BadReply frame)) to d = d
fails_to f f' P Q (Broken (Outside p)) to d = d

pub stays_well : {A : Type 0} (f f' : ℕ) (P Q : Type 0) (r : Result A AskFault) → (P → Q) → TalksWell f f' P r → TalksWell f f' Q r
stays_well f f' P Q (Ok x) to d = to d
stays_well f f' P Q (Err e) to d = fails_to f f' P Q e to d

module _ {L : Type 0} (c : Conduct) (world : L → Option World) (faults : L → ℕ) where
  -- memory was wanting before it began
  pub unasked_stays : (side : SideRecord) (old t : Operators (Wire L)) (i : Inquiry) → i ≡ side.inquiry → (b : Behaviour) (h : Host) (beside : Option Host) (a : SideState) → t ≡ turned side old → IsThere b c (world old.memory.below.below.below.link) side h beside → StandsFor (debugged side h) a
      → StaysOne b c (world t.memory.below.below.below.link) (record side { inquiry = i }) h beside a
  unasked_stays side old t i same b h beside a e x for =
      subst (λ (z : Operators (Wire L)). StaysOne b c (world z.memory.below.below.below.link) (record side { inquiry = i }) h beside a) (sym e)
      (subst (λ (z : Inquiry). StaysOne b c (world old.memory.below.below.below.link) (record side { inquiry = z }) h beside a) (sym same) (record { there = x; ran = ran_same (debugged side h) a for }))

  pub unasked_there : (side : SideRecord) (old t : Operators (Wire L)) (i : Inquiry) → i ≡ side.inquiry → (b : Behaviour) (h : Host) (beside : Option Host) → t ≡ turned side old → IsThere b c (world old.memory.below.below.below.link) side h beside
      → IsThere b c (world t.memory.below.below.below.link) (record side { inquiry = i }) h beside
  unasked_there side old t i same b h beside e x =
      subst (λ (z : Operators (Wire L)). IsThere b c (world z.memory.below.below.below.link) (record side { inquiry = i }) h beside) (sym e)
      (subst (λ (z : Inquiry). IsThere b c (world old.memory.below.below.below.link) (record side { inquiry = z }) h beside) (sym same) x)

  module _ (leads : Wire L → Option (List ℕ) → Wire L → Type 0) (side : SideRecord) (old t new : Operators (Wire L)) (now : Command) where
    pub turned_counts : (r : Result (List ℕ) AskFault) (frame : ℕ) (ps ps' : List Point) (j k : Inquiry) → t ≡ turned side old → Does (seen_by c world faults) leads now frame ps j t r ps' k new
        → CountsAsk (faults old.memory.below.below.below.link) (faults new.memory.below.below.below.link) r
    turned_counts r frame ps ps' j k e d =
        subst (λ (z : Operators (Wire L)). CountsAsk (faults z.memory.below.below.below.link) (faults new.memory.below.below.below.link) r) e
        (does_counts (seen_by c world faults) leads frame ps ps' j k t new now r d)

    -- the side behind it
    module _ (frame : ℕ) (v : Vec Point) (j k : Inquiry) (e : t ≡ turned side old) where
      pub looked : (r : Result (List ℕ) AskFault) → Does (seen_by c world faults) leads now frame side.row.breaks.items j t r v.items k new → (b : Behaviour) (h : Host) (beside : Option Host) → IsThere b c (world old.memory.below.below.below.link) side h beside → IsLook now
          → j.core.store.part ≡ CommandPart → (IsQuery now → v.items ≡ side.row.breaks.items) → (i : Inquiry) → TableStays side.inquiry.core.store i.core.store → (side' : SideRecord) (n : ℕ) → side' ≡ record side { inquiry = i; row = record side.row { breaks = v }; frame = n }
          → TalksWell (faults old.memory.below.below.below.link) (faults new.memory.below.below.below.link) (IsThere b c (world new.memory.below.below.below.link) side' h beside) r
      looked r d b h beside there look part query i table side' n same =
          let seen = seen_by c world faults in
          let does : Does seen leads now frame side.row.breaks.items j (turned side old) r v.items k new = subst (λ (z : Operators (Wire L)). Does seen leads now frame side.row.breaks.items j z r v.items k new) e d in
          let breaks = look_breaks seen leads frame side.row.breaks.items v.items j k (turned side old) new now r look query does in
          stays_well (faults old.memory.below.below.below.link) (faults new.memory.below.below.below.link) (Stands b c side.which (world new.memory.below.below.below.link) h beside) (IsThere b c (world new.memory.below.below.below.link) side' h beside) r
          (λ stands. there_stays b c (world old.memory.below.below.below.link) (world new.memory.below.below.below.link) side h beside there i v n breaks table stands side' same)
          (looks_well c world faults b side old new h beside there r (does_look seen leads frame side.row.breaks.items v.items j k (turned side old) new now r look part does))

      pub asked_stays : (fault : AskFault) → IsUndone {A = List ℕ} (Err fault) → Does (seen_by c world faults) leads now frame side.row.breaks.items j t (Err fault) v.items k new → (b : Behaviour) (h : Host) (beside : Option Host) (a : SideState) → IsThere b c (world old.memory.below.below.below.link) side h beside
          → IsReady (debugged side h) a → a.step_words ≡ [] → IsAskedAlone now → j.core.store.part ≡ CommandPart → v.items ≡ side.row.breaks.items → (i : Inquiry) → TableStays side.inquiry.core.store i.core.store → (side' : SideRecord) → side' ≡ record side { inquiry = i; row = record side.row { breaks = v } }
          → StaysOne b c (world new.memory.below.below.below.link) side' h beside a
      asked_stays fault is d b h beside a there ready none alone part breaks i table side' same =
          let seen = seen_by c world faults in
          let does : Does seen leads now frame side.row.breaks.items j (turned side old) (Err fault) v.items k new = subst (λ (z : Operators (Wire L)). Does seen leads now frame side.row.breaks.items j z (Err fault) v.items k new) e d in
          let told = undone_same seen leads frame side.row.breaks.items v.items j k (turned side old) new now fault alone is part does in
          one_stays b c (world old.memory.below.below.below.link) (world new.memory.below.below.below.link) side h beside there i v side.frame breaks table (stands_still c world faults b side old new h beside there told) a ready.stands none
          (none_mapped (row_in side.inquiry.core.store) side.row.step_words.items (sym ready.planted.words ∙ none)) refl side' same

-- ---- `regs`

module _ {L : Type 0} (c : Conduct) (world : L → Option World) (faults : L → ℕ) (side : SideRecord) (old t new : Operators (Wire L)) (e : t ≡ turned side old) where
  pub registers_counts : (r : Result (List ℕ) AskFault) → Asks (seen_by c world faults t.memory.below.below.below) (regs_line t.view.target t.view.context) r (seen_by c world faults new.memory.below.below.below)
      → CountsAsk (faults old.memory.below.below.below.link) (faults new.memory.below.below.below.link) r
  registers_counts r d =
      subst (λ (z : Operators (Wire L)). CountsAsk (faults z.memory.below.below.below.link) (faults new.memory.below.below.below.link) r) e
      (read_counts (seen_by c world faults t.memory.below.below.below) (seen_by c world faults new.memory.below.below.below) (regs_line t.view.target t.view.context) r d)

  pub registers_want : (b : Behaviour) (h : Host) (beside : Option Host) (r : Result (List ℕ) AskFault) → r ≡ Err NoMemory → Asks (seen_by c world faults t.memory.below.below.below) (regs_line t.view.target t.view.context) r (seen_by c world faults new.memory.below.below.below)
      → IsThere b c (world old.memory.below.below.below.link) side h beside → IsThere b c (world new.memory.below.below.below.link) side h beside
  registers_want b h beside r is d there =
      let seen = seen_by c world faults in
      let f = regs_line t.view.target t.view.context in
      let same : Same (seen t.memory.below.below.below) (seen new.memory.below.below.below) = subst (λ (y : Result (List ℕ) AskFault). Asks (seen t.memory.below.below.below) f y (seen new.memory.below.below.below)) is d in
      let told : Same (seen (turned side old).memory.below.below.below) (seen new.memory.below.below.below) = subst (λ (z : Operators (Wire L)). Same (seen z.memory.below.below.below) (seen new.memory.below.below.below)) e same in
      record {
        stands = stands_still c world faults b side old new h beside there (λ regions rest t. (order_of side.machine, told.keeps _ rest t));
        context = there.context;
        target = there.target;
        order = there.order;
        names = there.names;
      }

-- ---- `assign`

module _ {L : Type 0} (c : Conduct) (world : L → Option World) (faults : L → ℕ) (side : SideRecord) (old t new : Operators (Wire L)) (e : t ≡ turned side old) where
  pub assigned_counts : {A : Type 0} (r : Result A AskFault) → StoresNone (seen_by c world faults) t r new → CountsAsk (faults old.memory.below.below.below.link) (faults new.memory.below.below.below.link) r
  assigned_counts r d =
      subst (λ (z : Operators (Wire L)). CountsAsk (faults z.memory.below.below.below.link) (faults new.memory.below.below.below.link) r) e
      (comes_counts (seen_by c world faults) t new r d)

  pub assigned_well : {A : Type 0} (r : Result A AskFault) → StoresNone (seen_by c world faults) t r new → (b : Behaviour) (h : Host) (beside : Option Host) → IsThere b c (world old.memory.below.below.below.link) side h beside → (i : Inquiry) → TableStays side.inquiry.core.store i.core.store
      → TalksWell (faults old.memory.below.below.below.link) (faults new.memory.below.below.below.link) (IsThere b c (world new.memory.below.below.below.link) (record side { inquiry = i }) h beside) r
  assigned_well {A} r d b h beside there i table =
      let seen = seen_by c world faults in
      let start = turned side old in
      let told : StoresNone seen start r new = subst (λ (z : Operators (Wire L)). StoresNone seen z r new) e d in
      stays_well (faults old.memory.below.below.below.link) (faults new.memory.below.below.below.link) (Stands b c side.which (world new.memory.below.below.below.link) h beside) (IsThere b c (world new.memory.below.below.below.link) (record side { inquiry = i }) h beside) r
      (λ stands. there_stays b c (world old.memory.below.below.below.link) (world new.memory.below.below.below.link) side h beside there i side.row.breaks side.frame refl table stands (record side { inquiry = i }) refl)
      (looks_well c world faults b side old new h beside there r (comes_look seen (λ a o b. Unit {0}) 0 [] [] side.inquiry side.inquiry start new r told))

  -- nothing else keeps it from being stored
  pub store_last : (r : Result (Unit {0}) AskFault) → StoresAll (seen_by c world faults) t r new → IfErr r (λ (f : AskFault). IsStoreFault f)
  store_last (Ok x) d = tt
  store_last (Err (Raised e)) d = tt
  store_last (Err (Broken x)) d = tt
  store_last (Err (Refused cause)) d = absurd d
  store_last (Err Spent) d = absurd d
  store_last (Err NoMemory) d = absurd d

  pub store_counts : (r : Result (Unit {0}) AskFault) → StoresAll (seen_by c world faults) t r new → CountsAsk (faults old.memory.below.below.below.link) (faults new.memory.below.below.below.link) r
  store_counts r d =
      subst (λ (z : Operators (Wire L)). CountsAsk (faults z.memory.below.below.below.link) (faults new.memory.below.below.below.link) r) e (leaves_counts (seen_by c world faults) t new r d)

  pub store_well : (r : Result (Unit {0}) AskFault) → StoresAll (seen_by c world faults) t r new → (b : Behaviour) (h : Host) (beside : Option Host) → IsThere b c (world old.memory.below.below.below.link) side h beside
      → TalksWell (faults old.memory.below.below.below.link) (faults new.memory.below.below.below.link) (StoredThere b c (world new.memory.below.below.below.link) side h beside) r
  store_well r d b h beside there = leaves_well c world faults b side old new h beside there r (subst (λ (z : Operators (Wire L)). StoresAll (seen_by c world faults) z r new) e d)

-- ---- both sides

-- only that it goes well
pub only_well : (f f' : ℕ) (P : Type 0) (e : AskFault) → FailsWell f f' P e → FailsWell f f' (Unit {0}) e
only_well f f' P e d = fails_to f f' P (Unit {0}) e (λ x. tt) d

pub fails_on : (f f1 f2 : ℕ) (P : Type 0) (e : AskFault) → f1 ≡ f → FailsWell f1 f2 P e → FailsWell f f2 P e
fails_on f f1 f2 P e k d = subst (λ n. FailsWell n f2 P e) k d

pub well_on : {A : Type 0} (f f1 f2 : ℕ) (P : Type 0) (r : Result A AskFault) → f1 ≡ f → TalksWell f1 f2 P r → TalksWell f f2 P r
well_on f f1 f2 P r e d = subst (λ n. TalksWell n f2 P r) e d

-- what isn't done, and isn't a failure of the link
pub undone_there : (A : Type 0) (f f' : ℕ) (P : Type 0) (e : AskFault) → IsUndone {A = A} (Err e) → FailsWell f f' P e → P
undone_there A f f' P (Refused cause) u d = d
undone_there A f f' P (Raised e) u d = d
undone_there A f f' P Spent u d = d
undone_there A f f' P NoMemory u d = d
undone_there A f f' P (Broken x) u d = absurd u

-- what is done, or isn't done for a reason but the link
pub unbroken_there : {A : Type 0} (f f' : ℕ) (P : Type 0) (r : Result A AskFault) → IfErr r (λ (e : AskFault). IsUnbroken e) → TalksWell f f' P r → P
unbroken_there f f' P (Ok x) u d = d
unbroken_there f f' P (Err (Refused cause)) u d = d
unbroken_there f f' P (Err (Raised e)) u d = d
unbroken_there f f' P (Err Spent) u d = d
unbroken_there f f' P (Err NoMemory) u d = d
unbroken_there f f' P (Err (Broken x)) u d = absurd u

pub on_ok : {A : Type 0} (P : Type 0) (Q : A → Type 0) (r : Result A AskFault) → ((x : A) → P → Q x) → OnOk r P → IfOk r Q
on_ok P Q (Ok x) to d = to x d
on_ok P Q (Err e) to d = tt

pub on_done : {A : Type 0} (f f' : ℕ) (P Q : Type 0) (r : Result A AskFault) → (P → Q) → TalksWell f f' P r → OnOk r Q
on_done f f' P Q (Ok x) to d = to d
on_done f f' P Q (Err e) to d = tt

-- what isn't a failure
pub well_there : (f f' : ℕ) (P : Type 0) (e : AskFault) → (IsFailure e → ⊥) → FailsWell f f' P e → P
well_there f f' P (Refused cause) n d = d
well_there f f' P (Raised e) n d = d
well_there f f' P Spent n d = d
well_there f f' P NoMemory n d = absurd (n tt)
well_there f f' P (Broken x) n d = absurd (n tt)

pub counts_same : (f f' : ℕ) (e : AskFault) → (IsFailure e → ⊥) → CountsFault f f' e → f' ≡ f
counts_same f f' (Refused cause) n d = d
counts_same f f' (Raised e) n d = d
counts_same f f' Spent n d = d
counts_same f f' NoMemory n d = absurd (n tt)
counts_same f f' (Broken x) n d = absurd (n tt)

-- the second one, once the first was asked
pub second_well : (b : Behaviour) (c : Conduct) (o o1 : Option World) (first first' second : SideRecord) (hs : Hosts) → first'.which ≡ first.which → AreThere b c o first (Some second) hs → IsThere b c o1 first' hs.first hs.second → (P : Type 0)
    → ((h : Host) → IsThere b c o1 second h (Some hs.first) → P) → P
second_well b c o o1 first first' second hs which there mid P go = by hs.second there mid
  where
    by : (x : Option Host) → AreThere b c o first (Some second) (record { first = hs.first; second = x }) → IsThere b c o1 first' hs.first x → P
    by None t m = absurd t.second_there
    by (Some h) t m = go h (second_beside b c o o1 first' second h hs.first (Some hs.first) t.second_there.0 t.second_there.1 (which ∙ t.first_is) m)

-- the first one, once the second was asked
pub first_still : (b : Behaviour) (c : Conduct) (o o1 o2 : Option World) (first first' second second' : SideRecord) (hs : Hosts) → first'.which ≡ first.which → second'.which ≡ second.which → AreThere b c o first (Some second) hs → IsThere b c o1 first' hs.first hs.second
    → ((h : Host) → IsThere b c o1 second h (Some hs.first) → IsThere b c o2 second' h (Some hs.first)) → IsThere b c o2 first' hs.first hs.second
first_still b c o o1 o2 first first' second second' hs which second_which there mid asked = by hs.second there mid
  where
    by : (x : Option Host) → AreThere b c o first (Some second) (record { first = hs.first; second = x }) → IsThere b c o1 first' hs.first x → IsThere b c o2 first' hs.first x
    by None t m = absurd t.second_there
    by (Some h) t m =
        let waits : IsThere b c o1 second h (Some hs.first) = second_beside b c o o1 first' second h hs.first (Some hs.first) t.second_there.0 t.second_there.1 (which ∙ t.first_is) m in
        first_beside b c o1 o2 first' second' hs.first h (Some h) (which ∙ t.first_is) m (second_which ∙ t.second_there.0) (asked h waits)

-- a query that looks
pub record HasLooked (side side' : SideRecord) : Type 0 where
  pub which : side'.which ≡ side.which
  pub same : side' ≡ record side { inquiry = side'.inquiry; row = record side.row { breaks = side'.row.breaks }; frame = side'.frame }
  pub kept : IsKept side side'
  pub table : TableStays side.inquiry.core.store side'.inquiry.core.store

pub look_stays : (b : Behaviour) (c : Conduct) (o o' : Option World) (side side' : SideRecord) (h : Host) (beside : Option Host) (a : SideState) → IsThere b c o side h beside → IsReady (debugged side h) a → a.step_words ≡ [] → HasLooked side side' → IsThere b c o' side' h beside → StaysOne b c o' side' h beside a
look_stays b c o o' side side' h beside a x ready none l there =
    one_stays b c o o' side h beside x side'.inquiry side'.row.breaks side'.frame l.kept.0 l.table (subst (λ (w : Side). Stands b c w o' h beside) l.which there.stands) a ready.stands none
    (none_mapped (row_in side.inquiry.core.store) side.row.step_words.items (sym ready.planted.words ∙ none)) l.kept.1 side' l.same

-- both were asked one
pub both_look : (b : Behaviour) (c : Conduct) (o o1 o2 : Option World) (first first' second second' : SideRecord) (hs : Hosts) (st : SessionState) → AreThere b c o first (Some second) hs → AreReadyFor first (Some second) hs st → HasLooked first first' → HasLooked second second' → IsThere b c o1 first' hs.first hs.second
    → ((h : Host) (beside : Option Host) → IsThere b c o1 second h beside → IsThere b c o2 second' h beside) → StandAgain WithTable b c o2 first' (Some second') st
both_look b c o o1 o2 first first' second second' hs st there ready l l' mid asked =
    second_asked b c st ready.still o o1 o2 first first' second second' hs there ready l.which l'.which
    (look_stays b c o o1 first first' hs.first hs.second st.first there.first_there ready.ready.0 (no_words st.state (debugged first hs.first) st.first ready.still ready.sides.first) l mid)
    (λ h beside a x r none. look_stays b c o1 o2 second second' h beside a x r none l' (asked h beside x))

pub look_alone : (c : Command) → IsLook c → IsAskedAlone c
look_alone command.Frames h = tt
look_alone (command.Frame n) h = tt
look_alone (command.Print name) h = tt
look_alone (command.Eval text) h = tt
look_alone (command.Code text) h = tt
look_alone c h = absurd h

-- what isn't done on the first side may be asked of the second one
pub undone_counts : (f f1 f2 : ℕ) (fault answer : AskFault) → CountsFault f f1 fault → (IsFailure fault → (answer ≡ fault) × (f2 ≡ f1)) → ((IsFailure fault → ⊥) → CountsFault f1 f2 answer) → CountsFault f f2 answer
undone_counts f f1 f2 (Refused cause) answer d same more = fault_on f f1 f2 answer d (more (λ h. h))
undone_counts f f1 f2 (Raised e) answer d same more = fault_on f f1 f2 answer d (more (λ h. h))
undone_counts f f1 f2 Spent answer d same more = fault_on f f1 f2 answer d (more (λ h. h))
undone_counts f f1 f2 NoMemory answer d same more = let w = same tt in subst (λ (z : AskFault). CountsFault f f2 z) (sym w.0) (w.1 ∙ d)
undone_counts f f1 f2 (Broken x) answer d same more = let w = same tt in subst (λ (z : AskFault). CountsFault f f2 z) (sym w.0) (subst (λ n. CountsFault f n (Broken x)) (sym w.1) d)

-- both are there, once the second one was asked
pub both_there : (b : Behaviour) (c : Conduct) (o1 o2 : Option World) (first second : SideRecord) (g h : Host) (beside : Option Host) → first.which ≡ First → second.which ≡ Second → IsThere b c o1 first g beside → IsThere b c o2 second h (Some g)
    → AreThere b c o2 first (Some second) (record { first = g; second = Some h })
both_there b c o1 o2 first second g h beside e k x y = record { first_is = e; first_there = first_beside b c o1 o2 first second g h beside e x k y; second_there = (k, y) }

-- ---- before a step

-- the points aren't told
pub unprepared_stays : {L : Type 0} (c : Conduct) (world : L → Option World) (side : SideRecord) (old t : Operators (Wire L)) → t ≡ turned side old → (b : Behaviour) (h : Host) (beside : Option Host) (a : SideState) → IsThere b c (world old.memory.below.below.below.link) side h beside
    → StandsFor (debugged side h) a → a.step_words ≡ [] → side.row.step_words.items ≡ [] → (i : Inquiry) → TableStays side.inquiry.core.store i.core.store → StaysOne b c (world t.memory.below.below.below.link) (record side { inquiry = i }) h beside a
unprepared_stays c world side old t e b h beside a x for none free i table =
    subst (λ (z : Operators _). StaysOne b c (world z.memory.below.below.below.link) (record side { inquiry = i }) h beside a) (sym e)
    (one_stays b c (world old.memory.below.below.below.link) (world old.memory.below.below.below.link) side h beside x i side.row.breaks side.frame refl table x.stands a for none free refl (record side { inquiry = i }) refl)

-- a failure that isn't the link's
pub undone_wants : (A : Type 0) (f : AskFault) → IsFailure f → IsUndone {A = A} (Err f) → f ≡ NoMemory
undone_wants A NoMemory h u = refl
undone_wants A (Broken x) h u = absurd u
undone_wants A (Refused cause) h u = absurd h
undone_wants A (Raised e) h u = absurd h
undone_wants A Spent h u = absurd h

pub undone_as : (A B : Type 0) (f : AskFault) → IsUndone {A = A} (Err f) → IsUndone {A = B} (Err f)
undone_as A B (Refused cause) u = tt
undone_as A B (Raised e) u = tt
undone_as A B Spent u = tt
undone_as A B NoMemory u = tt
undone_as A B (Broken x) u = absurd u

-- their words aren't put, since an address is outside
pub unplanted_stays : (b : Behaviour) (c : Conduct) (o o' : Option World) (f f' : ℕ) (side : SideRecord) (which : Side) (order : Order) (h : Host) (beside : Option Host) (a : SideState) → IsThere b c o side h beside → StandsFor (debugged side h) a → a.step_words ≡ [] → side.row.step_words.items ≡ []
    → (i : Inquiry) → TableStays side.inquiry.core.store i.core.store → (points left : List Point) (e : MemFault) (why : AskFault) → why ≡ memory_fault e → IsUndone {A = Unit {0}} (Err why)
    → PlantsAll (byte_of side.machine) points (seen_on c o f side) (Err e) left (wire_seen c o' f' which order) → StaysOne b c o' (record side { inquiry = i }) h beside a
unplanted_stays b c o o' f f' side which order h beside a x for none free i table points left (Outside p) why is u d =
    let t = outsides b c side.which which o o' f f' (order_of side.machine) order h beside (byte_of side.machine) points left p x.stands x.order d in
    one_stays b c o o' side h beside x i side.row.breaks side.frame refl table t.1 a for none free refl (record side { inquiry = i }) refl
unplanted_stays b c o o' f f' side which order h beside a x for none free i table points left LinkFault why is u d = absurd (subst (λ (z : AskFault). IsUndone {A = Unit {0}} (Err z)) is u)
unplanted_stays b c o o' f f' side which order h beside a x for none free i table points left (BadReply frame) why is u d = absurd (subst (λ (z : AskFault). IsUndone {A = Unit {0}} (Err z)) is u)

-- `regs` isn't refused
pub undone_regs : (f f' : ℕ) (D : List ℕ → Type 0) (r : Result (List ℕ) AskFault) → ComesTo f f' D (λ e. ⊥) r → IsUndone r → r ≡ Err NoMemory
undone_regs f f' D (Ok text) d u = absurd u
undone_regs f f' D (Err (Refused cause)) d u = absurd d
undone_regs f f' D (Err (Raised e)) d u = absurd d
undone_regs f f' D (Err Spent) d u = absurd d
undone_regs f f' D (Err NoMemory) d u = refl
undone_regs f f' D (Err (Broken x)) d u = absurd u

pub unit_well : (A : Type 0) (f f' : ℕ) (e : AskFault) → ComesTo {A = A} f f' (λ u. Unit {0}) (λ t. ⊥) (Err e) → FailsWell f f' (Unit {0}) e
unit_well A f f' (Refused cause) d = absurd d
unit_well A f f' (Raised e) d = absurd d
unit_well A f f' Spent d = absurd d
unit_well A f f' NoMemory d = tt
unit_well A f f' (Broken LinkFault) d = d
unit_well A f f' (Broken (BadReply frame)) d = d
unit_well A f f' (Broken (Outside p)) d = d

-- what wasn't read
pub read_well : (f f' : ℕ) (S : Type 0) (words : List WordThere) (e : AskFault) → ReadsBefore f f' S words (Err e) → FailsWell f f' (Unit {0}) e
read_well f f' S words NoMemory w = tt
read_well f f' S words (Broken LinkFault) w = w
read_well f f' S words (Broken (BadReply frame)) w = absurd w
read_well f f' S words (Broken (Outside p)) w = absurd w
read_well f f' S words (Refused cause) w = absurd w
read_well f f' S words (Raised e) w = absurd w
read_well f f' S words Spent w = absurd w

-- ---- what stands at breakpoints

pub unread_counts : {R : Type 0} (f f1 f2 : ℕ) (fault : ReadFault) (why : AskFault) → why ≡ unread fault → f1 ≡ f → (s s' : Seen R) → s.faults ≡ f1 → s'.faults ≡ f2 → FailsToRead fault s s' → CountsFault f f2 why
unread_counts f f1 f2 read.NoMemory why is e s s' p q d = subst (λ (z : AskFault). CountsFault f f2 z) (sym is) (sym q ∙ (d.faults ∙ (p ∙ e)))
unread_counts f f1 f2 (read.Talk talk.LinkFault) why is e s s' p q d = subst (λ (z : AskFault). CountsFault f f2 z) (sym is) (subst (λ n. Rose n f2) (p ∙ e) (subst (λ n. Rose s.faults n) q d))
unread_counts f f1 f2 (read.Talk (talk.BadReply frame)) why is e s s' p q d = subst (λ (z : AskFault). CountsFault f f2 z) (sym is) (sym q ∙ (d.faults ∙ (p ∙ e)))

-- ---- `ps`

pub text_counts : {L : Type 0} (c : Conduct) (world : L → Option World) (faults : L → ℕ) (leads : Wire L → Option (List ℕ) → Wire L → Type 0) (side : SideRecord) (old t new : Operators (Wire L)) → t ≡ turned side old → {A : Type 0} (r : Result A AskFault)
    → RanOver (seen_by c world faults) leads t.memory.below.below.below r new.memory.below.below.below → CountsAsk (faults old.memory.below.below.below.link) (faults new.memory.below.below.below.link) r
text_counts c world faults leads side old t new e r d =
    subst (λ (z : Operators _). CountsAsk (faults z.memory.below.below.below.link) (faults new.memory.below.below.below.link) r) e (ran_counts (seen_by c world faults) leads t.memory.below.below.below new.memory.below.below.below r d)

-- what isn't a failure, where nothing was asked
pub same_fault : (f f' : ℕ) (e : AskFault) → f' ≡ f → (IsFailure e → ⊥) → CountsFault f f' e
same_fault f f' (Refused cause) k n = k
same_fault f f' (Raised e) k n = k
same_fault f f' Spent k n = k
same_fault f f' NoMemory k n = k
same_fault f f' (Broken x) k n = absurd (n tt)

-- a command that was put back
pub back_counts : (f f' : ℕ) (back : Result (Unit {0}) TalkFault) (why : AskFault) → why ≡ wanting back → CountsTalk f f' back → CountsFault f f' why
back_counts f f' (Ok x) why is k = subst (λ (z : AskFault). CountsFault f f' z) (sym is) k
back_counts f f' (Err talk.LinkFault) why is k = subst (λ (z : AskFault). CountsFault f f' z) (sym is) k
back_counts f f' (Err (talk.BadReply frame)) why is k = subst (λ (z : AskFault). CountsFault f f' z) (sym is) k

pub put_counts : {L : Type 0} (c : Conduct) (world : L → Option World) (faults : L → ℕ) (side : SideRecord) (old t : Operators (Wire L)) (m : Wire L) → t ≡ turned side old → (P : _) (r : Result (Unit {0}) TalkFault)
    → Puts (seen_by c world faults t.memory.below.below.below) r P (seen_by c world faults m) → CountsTalk (faults old.memory.below.below.below.link) (faults m.link) r
put_counts c world faults side old t m e P r d =
    subst (λ (z : Operators _). CountsTalk (faults z.memory.below.below.below.link) (faults m.link) r) e (puts_counts (seen_by c world faults t.memory.below.below.below) (seen_by c world faults m) P r d)

-- ---- an assignment's reply

pub unset_counts : (f : ℕ) (e : AskFault) → e ≡ NoMemory → CountsFault f f e
unset_counts f e is = subst (λ (z : AskFault). CountsFault f f z) (sym is) refl

pub unset_well : (f : ℕ) (e : AskFault) → e ≡ NoMemory → FailsWell f f (Unit {0}) e
unset_well f e is = subst (λ (z : AskFault). FailsWell f f (Unit {0}) z) (sym is) tt

-- the second one, once the first was asked, with both as they are then
pub with_second_there : (b : Behaviour) (c : Conduct) (o o1 : Option World) (first first' second : SideRecord) (hs : Hosts) → first'.which ≡ first.which → AreThere b c o first (Some second) hs → IsThere b c o1 first' hs.first hs.second → (P : Type 0)
    → ((h : Host) → IsThere b c o1 first' hs.first (Some h) → IsThere b c o1 second h (Some hs.first) → first'.which ≡ First → second.which ≡ Second → P) → P
with_second_there b c o o1 first first' second hs which there mid P go = by hs.second there mid
  where
    by : (x : Option Host) → AreThere b c o first (Some second) (record { first = hs.first; second = x }) → IsThere b c o1 first' hs.first x → P
    by None t m = absurd t.second_there
    by (Some h) t m = go h m (second_beside b c o o1 first' second h hs.first (Some hs.first) t.second_there.0 t.second_there.1 (which ∙ t.first_is) m) (which ∙ t.first_is) t.second_there.0
