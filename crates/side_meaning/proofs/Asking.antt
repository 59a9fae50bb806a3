-- A command that doesn't resume, and the points that are kept of a side.
use Rattle.std.proofs.Common.{◌≡◌, ◌∙◌, refl, sym, ap, subst, inl, inr, ◌⊎◌, ℕ, ◌≤◌, ◌<◌, ◌&&◌, nat_eq, nat_lt, if◌then◌else◌, Bool, true, false, List, [], ◌∷◌, ◌++◌, length, take, map, Option, Some, None, arith}
use Rattle.std.specs.List.{AllByRecursion, list_all}
use Rattle.std.proofs.lemmas.Grind.{common_steps}
use Rattle.std.proofs.lemmas.Bool.Decides.{nat_tests}
use Rattle.ldb_words.specs.declared.event.FaultKind.TheVariants as kind
use Rattle.ldb_words.specs.declared.kinds.Order.{Order}
use Rattle.machine_state.specs.declared.layout.TheConstants.{DATA}
use Rattle.machine_state.specs.Regions.{Regions}
use Rattle.machine_state.specs.State.{MachineState, order_of}
use Rattle.nub_wire.specs.declared.message.Ending.{Ending}
use Rattle.nub_wire.specs.declared.message.Ending.TheVariants as ending
use Rattle.nub_wire.specs.declared.message.Reason.TheVariants as reason
use Rattle.nub_wire.specs.Nub.{Host}
use Rattle.nub_wire.specs.Resumes.{Whole}
use Rattle.frame_bytes.specs.Bytes.{Bytes, bytes_of}
use Rattle.ps_store.specs.declared.object.Part.{Part}
use Rattle.ps_store.specs.declared.object.Part.TheVariants.{Table, Command}
use Rattle.ps_store.specs.declared.object.StringId.{StringId}
use Rattle.ps_store.specs.StoreState.{StoreState}
use Rattle.ps_store.specs.Store.{closed_part, is_closed, held}
use Rattle.ps_store.specs.Store.{bytes_of as string_of}
use Rattle.ps_store.specs.Settled.{Settled}
use Rattle.ps_store.proofs.Settling.{string_stays}
use Rattle.table_model.specs.Rows.{PointRow}
use Rattle.table_points.specs.declared.row.Point.{Point}
use Rattle.table_points.specs.Rows.{row_in}
use Rattle.debug_side.specs.declared.event.Event.{Event}
use Rattle.debug_side.specs.declared.event.Event.TheVariants as event
use Rattle.debug_side.specs.declared.point.SideRow.{SideRow}
use Rattle.debug_side.specs.Meant.{address_of, point_at, stop_or, event_of, keeps_words, stands_in_text}
use Rattle.debug_side.specs.Wrote.{word_put, words_put}
use Rattle.debug_side.specs.Told.{behind, came, its_run, its_event}
use Rattle.debug_side.specs.Planting.{PutsWords, at_none, is_put, is_passed}
use Rattle.break_plant.specs.Planted.{noop_of}
use Rattle.claims.specs.Side.{Stops, SideState}
use Rattle.claims.specs.Raw.{regs_text}
use Rattle.side_meaning.specs.Standing.{Debugged, events_in, EndsWith, cleared, IsPlanted, IsLeft, IsAgain, StandsFor}
use Rattle.side_meaning.specs.Stepping.{IsReady}
use Rattle.table_points.specs.Named.{IsClosedString, IsNamed}
use Rattle.side_meaning.specs.Asking.{IsNamedEvent, RowsStay, NamesStay, WordsAreNamed, NamesGoOn, AsksAreMeant, RegsAreMeant}
use Rattle.side_meaning.proofs.Memories.{word_before}

-- ---- names

longer : (n m i : ℕ) (xs ys rest : List (List ℕ)) → i < n → i < length xs → take m ys ≡ take n xs ++ rest → i < length ys
longer n m i xs ys rest h k e = let same : length (take m ys) ≡ length (take n xs ++ rest) = ap length e in grind (arith, common_steps)

below_more : (i n m : ℕ) → n ≤ m → nat_lt i n ≡ true → nat_lt i m ≡ true
below_more i n m h e = grind (arith, nat_tests)

is_below : (i n : ℕ) → nat_lt i n ≡ true → i < n
is_below i n e = grind (arith, nat_tests)

closed_by : (s t : StoreState) (part : Part) (i : ℕ) → Settled (closed_part s) (closed_part t) → i < length (held s part).strings → is_closed part i s.closed.strings ≡ true
    → (i < length (held t part).strings) × (is_closed part i t.closed.strings ≡ true)
closed_by s t Table i settled holds closed = (
  longer s.closed.strings t.closed.strings i s.table.strings t.table.strings settled.strings.rest (is_below i s.closed.strings closed) holds settled.strings.whole,
  below_more i s.closed.strings t.closed.strings settled.mark.strings closed,
)
closed_by s t Command i settled holds closed = cc

string_closed : (s t : StoreState) (x : StringId) → Settled (closed_part s) (closed_part t) → IsClosedString s x → IsClosedString t x
string_closed s t x settled c = closed_by s t x.part x.index settled c.0 c.1

pub rows_stay : RowsStay
rows_stay s t p settled named =
    let file : string_of t p.file ≡ string_of s p.file = string_stays s t p.file settled named.0.0 named.0.1 in
    let function : string_of t p.function ≡ string_of s p.function = string_stays s t p.function settled named.1.0 named.1.1 in (
      ap (λ (f : List ℕ). record { file = f; function = string_of t p.function; line = p.line; column = p.column; at = p.at }) file
          ∙ ap (λ (f : List ℕ). record { file = string_of s p.file; function = f; line = p.line; column = p.column; at = p.at }) function,
      (string_closed s t p.file settled named.0, string_closed s t p.function settled named.1),
    )

all_stay : (s t : StoreState) (ps : List Point) → Settled (closed_part s) (closed_part t) → AllByRecursion (IsNamed s) ps → (map (row_in t) ps ≡ map (row_in s) ps) × AllByRecursion (IsNamed t) ps
all_stay s t [] settled named = (refl, tt)
all_stay s t (p ∷ ps) settled named =
    let one = rows_stay s t p settled named.0 in
    let more = all_stay s t ps settled named.1 in
    (ap (λ (r : PointRow). r ∷ map (row_in t) ps) one.0 ∙ ap (λ (rs : List PointRow). row_in s p ∷ rs) more.0, (one.1, more.1))

event_stays : (s t : StoreState) (e : Option Event) → Settled (closed_part s) (closed_part t) → IsNamedEvent s e → (events_in t e ≡ events_in s e) × IsNamedEvent t e
event_stays s t (Some (event.Stops p)) settled named = let one = rows_stay s t p settled named in (ap (λ (r : PointRow). Some (Stops r)) one.0, one.1)
event_stays s t (Some (event.Pauses pc)) settled named = (refl, tt)
event_stays s t (Some (event.Exits status)) settled named = (refl, tt)
event_stays s t (Some (event.Faults kind pc)) settled named = (refl, tt)
event_stays s t (Some event.OutOfTurns) settled named = (refl, tt)
event_stays s t (Some event.OutOfStack) settled named = (refl, tt)
event_stays s t None settled named = (refl, tt)

pub names_stay : NamesStay
names_stay d t settled names =
    let breaks = all_stay d.table t d.row.breaks.items settled names.breaks in
    let words = all_stay d.table t d.row.step_words.items settled names.words in
    let kept = event_stays d.table t d.row.kept settled names.kept in
    (record { breaks = breaks.0; stands_at = refl; kept = kept.0 }, record { breaks = breaks.1; words = words.1; kept = kept.1 })

pub words_named : WordsAreNamed
words_named s target ps kept b c named at_none = tt
words_named s target ps kept b c named (is_put {c = x} {ps = qs} {kept = ks} p was put rest) = (named.0, words_named s target qs ks x c named.1 rest)
words_named s target ps kept b c named (is_passed {ps = qs} p w there differs rest) = words_named s target qs kept b c named.1 rest

-- ---- behind a resume

module _ (s : StoreState) where
  abbrev Found : Option Point → Type 0
  Found None = Unit {0}
  Found (Some p) = IsNamed s p

  found_if : (b : Bool) (p : Point) (o : Option Point) → IsNamed s p → Found o → Found (if b then Some p else o)
  found_if true p o h k = h
  found_if false p o h k = k

  found_at : (ps : List Point) (pc : ℕ) → AllByRecursion (IsNamed s) ps → Found (point_at ps pc)
  found_at [] pc named = tt
  found_at (p ∷ ps) pc named = found_if (nat_eq p.at pc) p (point_at ps pc) named.0 (found_at ps pc named.1)

  stop_named : (x y : Option Point) (pc : ℕ) → Found x → Found y → IsNamedEvent s (Some (stop_or x (stop_or y (event.Faults kind.Break pc))))
  stop_named (Some p) y pc h k = h
  stop_named None (Some p) pc h k = k
  stop_named None None pc h k = tt

  event_named : (breaks words : List Point) (e : Ending) → AllByRecursion (IsNamed s) breaks → AllByRecursion (IsNamed s) words → IsNamedEvent s (Some (event_of breaks words e))
  event_named breaks words (ending.Stopped reason.Break pc) h k = stop_named (point_at breaks pc) (point_at words pc) pc (found_at breaks pc h) (found_at words pc k)
  event_named breaks words (ending.Stopped reason.Pause pc) h k = tt
  event_named breaks words (ending.Exited status) h k = tt
  event_named breaks words (ending.Faulted fault pc) h k = tt
  event_named breaks words ending.Turns h k = tt
  event_named breaks words ending.Stack h k = tt

  came_named : (k : Option Event) (row : SideRow) (w : Whole) → IsNamedEvent s k → AllByRecursion (IsNamed s) row.breaks.items → AllByRecursion (IsNamed s) row.step_words.items → IsNamedEvent s (Some (came k row w))
  came_named None row w h x y = event_named row.breaks.items row.step_words.items w.ending x y
  came_named (Some e) row w h x y = h

  own_named : (k : Option Event) (e : Event) → (k ≡ None) ⊎ (k ≡ Some e) → IsNamedEvent s (Some e) → IsNamedEvent s k
  own_named k e (inl h) n = subst (IsNamedEvent s) (sym h) tt
  own_named k e (inr h) n = subst (IsNamedEvent s) (sym h) n

  left_named : (b : Bool) (ps : List Point) → AllByRecursion (IsNamed s) ps → AllByRecursion (IsNamed s) (if b then ps else [])
  left_named true ps h = h
  left_named false ps h = tt

pub names_go_on : NamesGoOn
names_go_on b kind limit all d d' names g =
    let s : StoreState = d.table in
    let e : Event = its_event b kind d.row limit d.host in
    let breaks : AllByRecursion (IsNamed s) d'.row.breaks.items = subst (λ (v : _). AllByRecursion (IsNamed s) v.items) (sym g.breaks) names.breaks in
    let words : AllByRecursion (IsNamed s) d'.row.step_words.items =
    subst (AllByRecursion (IsNamed s)) (sym g.words) (left_named s (keeps_words d.row.words_stay d.row.kept e) d.row.step_words.items names.words) in
    let kept : IsNamedEvent s d'.row.kept =
    own_named s d'.row.kept e g.own (came_named s d.row.kept d.row (its_run b kind d.row limit d.host) names.kept names.breaks names.words) in
    record {
      breaks = subst (λ (t : StoreState). AllByRecursion (IsNamed t) d'.row.breaks.items) (sym g.table) breaks;
      words = subst (λ (t : StoreState). AllByRecursion (IsNamed t) d'.row.step_words.items) (sym g.table) words;
      kept = subst (λ (t : StoreState). IsNamedEvent t d'.row.kept) (sym g.table) kept;
    }

-- ---- a command

pub asks : AsksAreMeant
asks d d' a a' none ready g =
    let r : Regions = a'.machine.memory in
    let now : SideState = record a { machine = record a.machine { memory = r }; table = a'.table; breaks = a'.breaks; frame = a'.frame } in
    let planted : IsPlanted d'.table d'.row d'.host now = record {
      words = none ∙ sym (ap (map (row_in d'.table)) g.words);
      machine = ap (λ (m : MachineState). record m { memory = r }) ready.planted.machine ∙ ap (λ (h : Host). h.machine) (sym g.host);
    } in
    let stands : StandsFor d' now = record {
      table = g.table;
      frame = g.frame;
      alike = record {
        breaks = g.breaks;
        stands_at = ready.stands.alike.stands_at ∙ sym g.stands_at;
        kept = ready.stands.alike.kept ∙ sym g.kept;
        words = inl planted;
      };
      ended = subst (EndsWith a.kept) (sym (ap (λ (h : Host). h.nub.ended) g.host)) ready.stands.ended;
      unended = ready.stands.unended;
      again = λ stay. inl g.words;
    } in
    subst (IsReady d') (sym g.side) (record { stands = stands; planted = planted })

-- ---- `regs`

first_below : (p : Point) → stands_in_text p ≡ true → p.at < DATA
first_below p e = grind (arith, nat_tests)

both_true : (x y : Bool) → x && y ≡ true → (x ≡ true) × (y ≡ true)
both_true true y e = (refl, e)
both_true false y e = cc

abbrev AreBelow : List Point → Type 0
AreBelow [] = Unit {0}
AreBelow (p ∷ ps) = (p.at < DATA) × AreBelow ps

all_below : (ps : List Point) → list_all stands_in_text ps ≡ true → AreBelow ps
all_below [] e = tt
all_below (p ∷ ps) e = let two = both_true (stands_in_text p) (list_all stands_in_text ps) e in (first_below p two.0, all_below ps two.1)

kept_below : (target : ℕ) (b c : Bytes) (ps kept : List Point) → AreBelow ps → PutsWords target b ps kept c → AreBelow kept
kept_below target b c ps kept h at_none = tt
kept_below target b c ps kept h (is_put {c = x} {ps = qs} {kept = ks} p was put rest) = (h.0, kept_below target x c qs ks h.1 rest)
kept_below target b c ps kept h (is_passed {ps = qs} p w there differs rest) = kept_below target b c qs kept h.1 rest

context_left : (o : Order) (w : ℕ) (ps : List Point) (r : Regions) → AreBelow ps → (words_put o w (map address_of ps) r).context_bytes ≡ r.context_bytes
context_left o w [] r h = refl
context_left o w (p ∷ ps) r h = context_left o w ps (word_put o w p.at r) h.1 ∙ word_before o w p.at r h.0

abbrev regs_by : MachineState → List ℕ → SideState → List ℕ
regs_by m context a = regs_text (record a { machine = record m { memory = record m.memory { context_bytes = context } } })

module _ (d : Debugged) (a : SideState) (for : StandsFor d a) where
  context_of_left : d.row.words_stay ≡ true → (d.row.step_words.items ≡ []) ⊎ IsAgain d a.table → (cleared d.row d.host).machine.memory.context_bytes ≡ d.host.machine.memory.context_bytes
  context_of_left stay (inl e) = ap (λ (ps : List Point). (behind false d.host.machine.target ps d.host).machine.memory.context_bytes) e
  context_of_left stay (inr x) =
      context_left (order_of d.host.machine) (noop_of d.host.machine.target) d.row.step_words.items d.host.machine.memory
      (kept_below d.host.machine.target (bytes_of (cleared d.row d.host).machine) (bytes_of d.host.machine) x.points d.row.step_words.items (all_below x.points x.in_text) x.puts)

  regs_with : IsPlanted d.table d.row d.host a ⊎ IsLeft d.row d.host a → regs_text a ≡ regs_text (record a { machine = d.host.machine })
  regs_with (inl p) = ap (λ (m : MachineState). regs_text (record a { machine = m })) p.machine
  regs_with (inr q) =
      ap (λ (m : MachineState). regs_text (record a { machine = m })) q.machine
      ∙ ap (λ (c : List ℕ). regs_by d.host.machine c a) (context_of_left q.stay (for.again q.stay))

pub regs : RegsAreMeant
regs d a for = regs_with d a for for.alike.words
