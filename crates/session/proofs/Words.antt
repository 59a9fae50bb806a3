-- The words of a step, taken away or put on a side over a link whose nubs meet their definition.
use Rattle.std.proofs.Common.{◌≡◌, Bool, false, ◌∙◌, refl, sym, ap, subst, inl, inr, ◌≢◌, ℕ, ◌≤◌, ◌<◌, List, [], ◌∷◌, length, map, Option, Result, Ok, Err, arith}
use Rattle.std.specs.Global.{Vec}
use Rattle.std.specs.List.{AllByRecursion, list_all}
use Rattle.ldb_words.specs.declared.kinds.Order.{Order}
use Rattle.machine_state.specs.Regions.{Regions}
use Rattle.machine_state.specs.State.{Behaviour}
use Rattle.nub_wire.specs.declared.link.Side.{Side}
use Rattle.nub_wire.specs.Nub.{Host}
use Rattle.nub_wire.specs.Delivery.{Conduct, World}
use Rattle.frame_bytes.specs.Bytes.{Bytes, bytes_of}
use Rattle.abs_mem.specs.Meaning.{Seen}
use Rattle.abs_mem.specs.WireMeaning.{WireRest, wire_seen}
use Rattle.abs_mem.specs.declared.memory.MemFault.{MemFault}
use Rattle.abs_mem.specs.declared.memory.MemFault.TheVariants as mem
use Rattle.abs_mem.specs.declared.wire.Wire.{Wire}
use Rattle.wire_talk.specs.declared.fault.TalkFault.{TalkFault}
use Rattle.wire_talk.specs.declared.fault.TalkFault.TheVariants as talk
use Rattle.ps_step.specs.declared.fault.PsError.TheVariants.{RangeCheck}
use Rattle.ps_ops.specs.declared.dialect.Operators.{Operators}
use Rattle.ps_store.specs.declared.object.Part.TheVariants.{Command}
use Rattle.ps_store.specs.StoreState.{StoreState}
use Rattle.ps_store.specs.Store.{closed_part}
use Rattle.ps_store.specs.Settled.{Settled}
use Rattle.table_points.specs.declared.row.Point.{Point}
use Rattle.table_points.specs.Rows.{row_in}
use Rattle.table_points.specs.Named.{IsNamed}
use Rattle.break_plant.specs.Planted.{noop_of}
use Rattle.debug_side.specs.declared.point.SideRow.{SideRow}
use Rattle.debug_side.specs.Meant.{address_of, stands_in_text}
use Rattle.debug_side.specs.Wrote.{words_put, Puts}
use Rattle.debug_side.specs.Told.{with_regions, behind}
use Rattle.debug_side.specs.Planting.{mem_fault, PutsWords, MeetsNone, PlantsAll}
use Rattle.debug_side.proofs.Told.{never_bad}
use Rattle.dialect_model.specs.TableUse.{use_of, Kind}
use Rattle.table_asks.specs.declared.fault.AskFault.{AskFault}
use Rattle.table_asks.specs.declared.fault.AskFault.TheVariants.{Refused, Raised, Spent, NoMemory, Broken}
use Rattle.table_asks.specs.declared.inquiry.Inquiry.{Inquiry}
use Rattle.table_asks.specs.Faults.{memory_fault}
use Rattle.claims.specs.Side.{SideState, Troubled, table_after, with_table_of}
use Rattle.side_meaning.specs.Standing.{events_in, StandsFor}
use Rattle.side_meaning.specs.Stepping.{IsStill}
use Rattle.side_meaning.specs.Asking.{HasNames, IsNamedEvent}
use Rattle.side_meaning.proofs.Asking.{names_stay, words_named}
use Rattle.side_meaning.proofs.Beginning.{points_fail, words_fail, stands_with}
use Rattle.side_meaning.proofs.Telling.{plants, clears, outsides}
use Rattle.session.specs.declared.sides.SideRecord.{SideRecord}
use Rattle.session.specs.Turned.{byte_of, order_of, turned}
use Rattle.session.specs.Meant.{debugged, IsThere, ComesTo, TalksTo, Settled as SettledSide, Stepped, Unstepped}
use Rattle.session.specs.Pointed.{AllTold, NoneTold}

-- ---- the wire of a side

abbrev pub wire_of : {L : Type 0} → Operators (Wire L) → Wire L
wire_of o = o.memory.below.below.below

abbrev pub seen_on : Conduct → Option World → ℕ → SideRecord → Seen WireRest
seen_on c o f side = wire_seen c o f side.which (order_of side.machine)

-- what holds of the wire that was turned to a side
pub on_turned : {L : Type 0} (world : L → Option World) (faults : L → ℕ) (c : Conduct) (side : SideRecord) (o t : Operators (Wire L)) (P : Seen WireRest → Type 0) → t ≡ turned side o
    → P (wire_seen c (world (wire_of t).link) (faults (wire_of t).link) (wire_of t).side (wire_of t).order) → P (seen_on c (world (wire_of o).link) (faults (wire_of o).link) side)
on_turned {L} world faults c side o t P e p =
    subst (λ (z : Operators (Wire L)). P (wire_seen c (world (wire_of z).link) (faults (wire_of z).link) (wire_of z).side (wire_of z).order)) e p

-- the no-op is back at each of its words, as far as it can be
abbrev pub Cleared : SideRecord → Bytes → Regions → Type 0
Cleared side z r = r ≡ words_put z.order (noop_of (byte_of side.machine)) (map address_of side.row.step_words.items) z.regions

pub clears_by : {L : Type 0} (world : L → Option World) (faults : L → ℕ) (c : Conduct) (side : SideRecord) (o t : Operators (Wire L)) (target : ℕ) (points : List Point) (r : Result (Unit {0}) TalkFault) (s' : Seen WireRest)
    → t ≡ turned side o → target ≡ byte_of side.machine → points ≡ side.row.step_words.items
    → Puts (wire_seen c (world (wire_of t).link) (faults (wire_of t).link) (wire_of t).side (wire_of t).order) r (λ (z : Bytes) (m : Regions). m ≡ words_put z.order (noop_of target) (map address_of points) z.regions) s'
    → Puts (seen_on c (world (wire_of o).link) (faults (wire_of o).link) side) r (Cleared side) s'
clears_by world faults c side o t target points r s' e h k p =
    on_turned world faults c side o t (λ (s : Seen WireRest). Puts s r (Cleared side) s') e
    (subst (λ (ps : List Point). Puts (wire_seen c (world (wire_of t).link) (faults (wire_of t).link) (wire_of t).side (wire_of t).order) r (λ (z : Bytes) (m : Regions). m ≡ words_put z.order (noop_of (byte_of side.machine)) (map address_of ps) z.regions) s') k
    (subst (λ (n : ℕ). Puts (wire_seen c (world (wire_of t).link) (faults (wire_of t).link) (wire_of t).side (wire_of t).order) r (λ (z : Bytes) (m : Regions). m ≡ words_put z.order (noop_of n) (map address_of points) z.regions) s') h p))

pub plants_by : {L : Type 0} (world : L → Option World) (faults : L → ℕ) (c : Conduct) (side : SideRecord) (o t : Operators (Wire L)) (target : ℕ) (points left : List Point) (r : Result (Unit {0}) MemFault) (s' : Seen WireRest)
    → t ≡ turned side o → target ≡ byte_of side.machine
    → PlantsAll target points (wire_seen c (world (wire_of t).link) (faults (wire_of t).link) (wire_of t).side (wire_of t).order) r left s'
    → PlantsAll (byte_of side.machine) points (seen_on c (world (wire_of o).link) (faults (wire_of o).link) side) r left s'
plants_by world faults c side o t target points left r s' e h p =
    on_turned world faults c side o t (λ (s : Seen WireRest). PlantsAll (byte_of side.machine) points s r left s') e
    (subst (λ (n : ℕ). PlantsAll n points (wire_seen c (world (wire_of t).link) (faults (wire_of t).link) (wire_of t).side (wire_of t).order) r left s') h p)

-- ---- no fault falls

pub puts_rise : {R : Type 0} (s s' : Seen R) (P : Bytes → Regions → Type 0) (r : Result (Unit {0}) TalkFault) → Puts s r P s' → s.faults ≤ s'.faults
puts_rise s s' P (Ok x) p = let e : s'.faults ≡ s.faults = p.faults in omega (arith, e)
puts_rise s s' P (Err talk.LinkFault) p = p.no_fall
puts_rise s s' P (Err (talk.BadReply frame)) p = let e : s'.faults ≡ s.faults = p.faults in omega (arith, e)

pub plants_rise : {R : Type 0} (target : ℕ) (old new : List Point) (s s' : Seen R) (r : Result (Unit {0}) MemFault) → PlantsAll target old s r new s' → s.faults ≤ s'.faults
plants_rise target old new s s' (Ok x) p = let e : s'.faults ≡ s.faults = p.0 in omega (arith, e)
plants_rise target old new s s' (Err (mem.Outside place)) p = let e : s'.faults ≡ s.faults = p.0 in omega (arith, e)
plants_rise target old new s s' (Err mem.LinkFault) p = p.no_fall
plants_rise target old new s s' (Err (mem.BadReply frame)) p = let e : s'.faults ≡ s.faults = p.faults in omega (arith, e)

-- ---- names

-- while units of the table are run
names_at : (side : SideRecord) (h : Host) (s : StoreState) → Settled (closed_part (record side.inquiry.core.store { part = Command })) (closed_part s) → HasNames (debugged side h)
    → IsStill (debugged side h) (record (debugged side h) { table = s }) × HasNames (record (debugged side h) { table = s })
names_at side h s settled names =
    let t : StoreState = record side.inquiry.core.store { part = Command } in
    let r = names_stay (record (debugged side h) { table = t }) s settled (record { breaks = names.breaks; words = names.words; kept = names.kept }) in
    (record { breaks = r.0.breaks; stands_at = r.0.stands_at; kept = r.0.kept }, r.1)

-- ---- on a side

module _ (b : Behaviour) (c : Conduct) (o o' : Option World) (f f' : ℕ) (side : SideRecord) (which : Side) (order : Order) (h : Host) (beside : Option Host) (x : IsThere b c o side h beside) where
  -- its words are taken away
  pub settled : (row : SideRow) → row.breaks ≡ side.row.breaks → row.stands_at ≡ side.row.stands_at → row.kept ≡ side.row.kept → row.step_words.items ≡ [] → Puts (seen_on c o f side) (Ok tt) (Cleared side) (wire_seen c o' f' which order)
      → SettledSide b c o' side (record side { row = row }) h beside
  settled row breaks at kept none p =
      let t = clears b c side.which which o o' f f' (order_of side.machine) order h beside (byte_of side.machine) side.row.step_words.items x.stands x.order p in
      record {
        host = behind false (byte_of side.machine) side.row.step_words.items h;
        there = record {
          stands = t.0;
          context = x.context;
          target = x.target;
          order = x.order;
          names = record {
            breaks = subst (λ (v : Vec Point). AllByRecursion (IsNamed side.inquiry.core.store) v.items) (sym breaks) x.names.breaks;
            words = subst (AllByRecursion (IsNamed side.inquiry.core.store)) (sym none) tt;
            kept = subst (λ (k : _). IsNamedEvent side.inquiry.core.store k) (sym kept) x.names.kept;
          };
        };
        settled = record {
          table = refl;
          frame = refl;
          still = record { breaks = ap (λ (v : Vec Point). map (row_in side.inquiry.core.store) v.items) breaks; stands_at = at; kept = ap (events_in side.inquiry.core.store) kept };
          host = ap (λ (n : ℕ). behind false n side.row.step_words.items h) x.target;
          words = none;
        };
      }

  pub not_settled : (D : Type 0) (e : TalkFault) → Puts (seen_on c o f side) (Err e) (Cleared side) (wire_seen c o' f' which order) → TalksTo f f' D (Err e)
  not_settled D talk.LinkFault p = p
  not_settled D (talk.BadReply frame) p = never_bad b c o side.which (order_of side.machine) h beside x.stands x.order f f' which order o' (Cleared side) frame p

  -- ---- before a step

  abbrev after : Inquiry → SideRow → SideRecord
  after i row = record side { inquiry = i; row = row }

  pub found : (a : SideState) → side.row.step_words.items ≢ [] → Stepped b c o side side h beside a
  found a some = record { host = h; use_after = use_of a.table 0; there = x; stepped = inr (record { some = some; same = refl }) }

  module _ (a : SideState) (for : StandsFor (debugged side h) a) (none : a.step_words ≡ []) (free : side.row.step_words.items ≡ []) (i : Inquiry) where
    abbrev now : StoreState
    now = i.core.store

    pub stepped : (points : List Point) (row : SideRow) → AllTold side.inquiry.core.store now a.table points → row.breaks ≡ side.row.breaks → row.stands_at ≡ side.row.stands_at → row.kept ≡ side.row.kept
        → row.words_stay ≡ list_all stands_in_text points → PlantsAll (byte_of side.machine) points (seen_on c o f side) (Ok tt) row.step_words.items (wire_seen c o' f' which order) → Stepped b c o' side (after i row) h beside a
    stepped points row told breaks at kept stay p =
        let t = plants b c side.which which o o' f f' (order_of side.machine) order h beside (byte_of side.machine) points row.step_words.items x.stands x.order p in
        let m = names_at side h now told.has_run.settled x.names in
        record {
          host = with_regions h t.0;
          use_after = told.use_after;
          there = record {
            stands = t.2;
            context = x.context;
            target = x.target;
            order = x.order;
            names = record {
              breaks = subst (λ (v : Vec Point). AllByRecursion (IsNamed now) v.items) (sym breaks) m.1.breaks;
              words = words_named now (byte_of side.machine) points row.step_words.items (bytes_of h.machine) (bytes_of (record h.machine { memory = t.0 })) told.names t.1;
              kept = subst (λ (k : _). IsNamedEvent now k) (sym kept) m.1.kept;
            };
          };
          stepped = inl (record {
            none = free;
            points = points;
            told = told.told;
            found = told.found;
            table = told.has_run.table;
            frame = refl;
            still = record {
              breaks = ap (λ (v : Vec Point). map (row_in now) v.items) breaks ∙ m.0.breaks;
              stands_at = at;
              kept = ap (events_in now) kept ∙ m.0.kept;
            };
            puts = subst (λ (n : ℕ). PutsWords n (bytes_of h.machine) points row.step_words.items (bytes_of (record h.machine { memory = t.0 }))) x.target t.1;
            host = refl;
            stay = stay;
          });
        }

    -- none is put
    pub none_told : (e : Troubled) → NoneTold side.inquiry.core.store now a.table e → Unstepped b c o side (after i side.row) h beside a e
    none_told e n =
        let m = names_at side h now n.has_run.settled x.names in
        record {
          after = with_table_of a n.use_after.store;
          there = record { stands = x.stands; context = x.context; target = x.target; order = x.order; names = record { breaks = m.1.breaks; words = m.1.words; kept = m.1.kept } };
          prepares = points_fail a e n.use_after n.fails;
          stands = stands_with (debugged side h) (debugged (after i side.row) h) a (table_after a n.use_after.store) for none free n.has_run.table refl free (record { breaks = m.0.breaks; stands_at = m.0.stands_at; kept = m.0.kept }) refl;
          words = none;
        }

    pub outside : (points left : List Point) (place : _) → AllTold side.inquiry.core.store now a.table points → PlantsAll (byte_of side.machine) points (seen_on c o f side) (Err (mem.Outside place)) left (wire_seen c o' f' which order)
        → Unstepped b c o' side (after i side.row) h beside a (Kind RangeCheck)
    outside points left place told p =
        let m = names_at side h now told.has_run.settled x.names in
        let t = outsides b c side.which which o o' f f' (order_of side.machine) order h beside (byte_of side.machine) points left place x.stands x.order p in
        record {
          after = with_table_of a told.use_after.store;
          there = record { stands = t.1; context = x.context; target = x.target; order = x.order; names = record { breaks = m.1.breaks; words = m.1.words; kept = m.1.kept } };
          prepares = words_fail (debugged side h) a now points told.use_after for none free told.told (subst (λ (n : ℕ). MeetsNone n (bytes_of h.machine) points) x.target t.0);
          stands = stands_with (debugged side h) (debugged (after i side.row) h) a (table_after a told.use_after.store) for none free told.has_run.table refl free (record { breaks = m.0.breaks; stands_at = m.0.stands_at; kept = m.0.kept }) refl;
          words = none;
        }

    -- a fault of the points, and one of the memory
    pub not_told : (D D' : _ → Type 0) (e : AskFault) → ComesTo {A = Vec Point} 0 0 D (NoneTold side.inquiry.core.store now a.table) (Err e)
        → ComesTo {A = Unit {0}} f f' D' (Unstepped b c o side (after i side.row) h beside a) (Err e)
    not_told D D' (Refused cause) n = none_told _ n
    not_told D D' (Raised e) n = none_told _ n
    not_told D D' Spent n = none_told _ n
    not_told D D' NoMemory n = tt
    not_told D D' (Broken mem.LinkFault) n = absurd (omega (arith, n.higher))
    not_told D D' (Broken (mem.BadReply frame)) n = n
    not_told D D' (Broken (mem.Outside place)) n = n

    pub not_planted : (D : Unit {0} → Type 0) (points left : List Point) (e : MemFault) (why : AskFault) → why ≡ memory_fault e → AllTold side.inquiry.core.store now a.table points
        → PlantsAll (byte_of side.machine) points (seen_on c o f side) (Err e) left (wire_seen c o' f' which order) → ComesTo {A = Unit {0}} f f' D (Unstepped b c o' side (after i side.row) h beside a) (Err why)
    not_planted D points left (mem.Outside place) why is told p = subst (λ (z : AskFault). ComesTo {A = Unit {0}} f f' D (Unstepped b c o' side (after i side.row) h beside a) (Err z)) (sym is) (outside points left place told p)
    not_planted D points left mem.LinkFault why is told p = subst (λ (z : AskFault). ComesTo {A = Unit {0}} f f' D (Unstepped b c o' side (after i side.row) h beside a) (Err z)) (sym is) p
    not_planted D points left (mem.BadReply frame) why is told p = absurd (never_bad b c o side.which (order_of side.machine) h beside x.stands x.order f f' which order o' (Cleared side) frame p)

-- the points that are read, before anything is sent over the link that was turned to the side
pub not_told_turned : {L : Type 0} (world : L → Option World) (faults : L → ℕ) (o t : Operators (Wire L)) (b : Behaviour) (c : Conduct) (side : SideRecord) (h : Host) (beside : Option Host) (x : IsThere b c (world (wire_of o).link) side h beside) (a : SideState) → StandsFor (debugged side h) a → a.step_words ≡ []
    → side.row.step_words.items ≡ [] → (i : Inquiry) (e : AskFault) → t ≡ turned side o → ComesTo {A = Vec Point} 0 0 (λ ps. AllTold side.inquiry.core.store i.core.store a.table ps.items) (NoneTold side.inquiry.core.store i.core.store a.table) (Err e)
    → ComesTo {A = Unit {0}} (faults (wire_of o).link) (faults (wire_of t).link) (λ u. Unit {0}) (Unstepped b c (world (wire_of t).link) side (record side { inquiry = i }) h beside a) (Err e)
not_told_turned {L} world faults o t b c side h beside x a for none free i e turns n =
    subst (λ (z : Operators (Wire L)). ComesTo {A = Unit {0}} (faults (wire_of o).link) (faults (wire_of z).link) (λ u. Unit {0}) (Unstepped b c (world (wire_of z).link) side (record side { inquiry = i }) h beside a) (Err e)) (sym turns)
    (not_told b c (world (wire_of o).link) (world (wire_of o).link) (faults (wire_of o).link) (faults (wire_of o).link) side side.which (order_of side.machine) h beside x a for none free i (λ ps. AllTold side.inquiry.core.store i.core.store a.table ps.items) (λ u. Unit {0}) e n)

pub stays_by : (r : Bool) (ps points : List Point) → r ≡ list_all stands_in_text ps → ps ≡ points → r ≡ list_all stands_in_text points
stays_by r ps points e k = e ∙ ap (list_all stands_in_text) k

-- what fails for memory alone is no fault of a memory of a target
pub not_memory : (e : MemFault) (why : AskFault) → why ≡ memory_fault e → why ≢ NoMemory
not_memory (mem.Outside place) why is h = cc
not_memory mem.LinkFault why is h = cc
not_memory (mem.BadReply frame) why is h = cc

pub some_items : {A : Type 0} (xs : List A) → 0 < length xs → xs ≢ []
some_items [] h e = omega (arith, h)
some_items (x ∷ xs) h e = cc

-- ---- a fault of the talk

pub talked : (f f' : ℕ) (D : Type 0) (fault : TalkFault) (e : AskFault) → e ≡ Broken (mem_fault fault) → TalksTo f f' D (Err fault) → ComesTo {A = Unit {0}} f f' (λ u. D) (λ t. ⊥) (Err e)
talked f f' D talk.LinkFault e is t = subst (λ (z : AskFault). ComesTo {A = Unit {0}} f f' (λ u. D) (λ t. ⊥) (Err z)) (sym is) t
talked f f' D (talk.BadReply frame) e is t = absurd t
