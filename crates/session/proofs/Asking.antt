-- A command of one side, from its begin to its end, and what it is to the machine session.
use Rattle.std.proofs.Common.{◌≡◌, ◌≢◌, ◌∙◌, refl, sym, ap, subst, ℕ, List, [], ◌∷◌, map, Option, Some, None, Result, Ok, Err, OnErr, ◌≤◌, arith}
use Rattle.std.specs.List.{AllByRecursion}
use Rattle.machine_state.specs.declared.layout.TheConstants.{CONTEXT}
use Rattle.machine_state.specs.Regions.{Regions}
use Rattle.machine_state.specs.Sound.{IsMemory}
use Rattle.machine_state.specs.State.{MachineState, Behaviour, order_of as machine_order}
use Rattle.nub_wire.specs.Nub.{Host}
use Rattle.nub_wire.specs.AtOnce.{MeetsMemory}
use Rattle.nub_wire.specs.Fits.{begins}
use Rattle.nub_wire.specs.Delivery.{Conduct, LinkSide, World, side_of}
use Rattle.frame_bytes.specs.Bytes.{Bytes, no_places}
use Rattle.ps_store.specs.declared.object.Part.TheVariants.{Command as CommandPart}
use Rattle.ps_store.specs.declared.object.Mark.{Mark}
use Rattle.ps_store.specs.StoreState.{StoreState}
use Rattle.ps_store.specs.Store.{closed_part}
use Rattle.ps_store.specs.Cut.{mark_of, cut}
use Rattle.ps_store.specs.Settled.{Settled}
use Rattle.ps_store.proofs.Settling.{settled_same}
use Rattle.ps_run.specs.declared.dialect.Steps.{Steps}
use Rattle.abs_mem.specs.declared.wire.Wire.{Wire}
use Rattle.abs_mem.specs.declared.memory.MemFault.TheVariants.{Outside, LinkFault, BadReply}
use Rattle.abs_mem.specs.Meaning.{Seen, Same}
use Rattle.ldb_edge.specs.Count.{Rose}
use Rattle.ldb_words.specs.declared.kinds.Order.{Order}
use Rattle.nub_wire.specs.declared.link.Side.{Side}
use Rattle.debug_side.specs.declared.point.SideRow.{SideRow}
use Rattle.abs_mem.specs.WireMeaning.{WireRest, WireTells, memory_of, rest_of, wire_seen}
use Rattle.table_model.specs.Rows.{PointRow}
use Rattle.table_model.specs.Frames.{row_of_target}
use Rattle.table_points.specs.declared.row.Point.{Point}
use Rattle.table_points.specs.Rows.{row_in}
use Rattle.table_points.specs.Named.{IsNamed}
use Rattle.ps_ops.specs.declared.dialect.Operators.{Operators}
use Rattle.resuming.specs.Standing.{Stands}
use Rattle.debug_side.specs.Wrote.{Writes, none_written, Wrote}
use Rattle.debug_side.specs.Told.{with_regions}
use Rattle.debug_side.proofs.Told.{put_stands}
use Rattle.dialect_model.specs.Dial.{Target, memory_bytes}
use Rattle.dialect_model.specs.TableUse.{Trouble, Kind, Eval}
use Rattle.dialect_model.specs.TableUse.{Refused as RefusedFor, Spent as StepsSpent}
use Rattle.c_session.specs.declared.command.Command.{Command}
use Rattle.c_session.specs.declared.command.Command.TheVariants as command
use Rattle.table_asks.specs.declared.fault.Cause.{Cause}
use Rattle.table_asks.specs.declared.fault.AskFault.{AskFault}
use Rattle.table_asks.specs.declared.fault.AskFault.TheVariants.{Refused, Raised, Spent, NoMemory, Broken}
use Rattle.table_asks.specs.declared.inquiry.Inquiry.{Inquiry}
use Rattle.table_asks.specs.Closing.{Settles}
use Rattle.table_asks.specs.Asking.{ComesOver}
use Rattle.table_asks.specs.Running.{RanOver}
use Rattle.asking.specs.Doing.{ChangesOver}
use Rattle.asking.specs.Doing.{Change as Stored}
use Rattle.asking.specs.Breaks as asked_breaks
use Rattle.asking.specs.Breaks.{rows_in}
use Rattle.asking.specs.Frames as asked_frames
use Rattle.asking.specs.Printing as asked_printing
use Rattle.asking.specs.Printing.{EndsOver, target_with}
use Rattle.asking.specs.Refusals.{refusal_of}
use Rattle.claims.specs.Side.{SideState, Change, OnSide, Troubled}
use Rattle.claims.specs.Side.{memory_of as side_memory, target_of as side_target}
use Rattle.claims.specs.Outcome.{Comes, OneSide}
use Rattle.claims.specs.Breaks as side_breaks
use Rattle.claims.specs.Frames as side_frames
use Rattle.claims.specs.Printing as side_printing
use Rattle.asking_meaning.specs.Meant.{Matches, trouble_in, answer_of, Begun, IsEnded}
use Rattle.asking_meaning.specs.Meant.{Stands as StandsBetween}
use Rattle.asking_meaning.specs.Told.{SaysText, if_done, MeantOver}
use Rattle.asking_meaning.proofs.Commands.{listing_covers, choosing_covers, breaking_covers, clearing_covers}
use Rattle.asking_meaning.proofs.Telling.{asks_meant, stores_meant}
use Rattle.asking_meaning.proofs.Prints.{printing_covers}
use Rattle.asking_meaning.proofs.Printings.{runs_meant}
use Rattle.side_meaning.specs.Standing.{Debugged, events_in}
use Rattle.side_meaning.specs.Stepping.{IsStill, IsReady}
use Rattle.side_meaning.specs.Asking.{HasNames}
use Rattle.side_meaning.proofs.Asking.{names_stay}
use Rattle.session.specs.declared.sides.SideRecord.{SideRecord}
use Rattle.session.specs.Turned.{byte_of, order_of, turned}
use Rattle.session.specs.Asked.{Does, chosen_frame}
use Rattle.session.specs.Meant.{debugged, IsThere, IsBare, IsPlain, IsInquiry, AskedOne, SaidOne, NotOne, ComesTo}
use Rattle.session.proofs.Leaving.{Leaves, one_leaves}

-- ---- a part of a command over the bytes that are told

module _ {R : Type 0} (s s' : Seen R) (a : SideState) (rest : R) (l : Inquiry) where
  -- the machine session's command came to this, and left such a side
  record One (now : Command) (r : Result (List ℕ) (Trouble Cause)) (rows : List PointRow) : Type 0 where
    result : Result Change Troubled
    side : SideState
    matches : Matches SaysText r result
    one : OneSide now a result side
    frame_is : side.frame ≡ if_done r (chosen_frame now a.frame) a.frame
    breaks_are : side.breaks ≡ rows
    stands : StandsBetween l side
    tells : s'.tells (side_memory side) rest

  same_if : {B : Type 0} (r : Result (List ℕ) (Trouble Cause)) (x : B) → x ≡ if_done r x x
  same_if (Ok t) x = refl
  same_if (Err e) x = refl

-- an answer's result
abbrev Answers : Result (List ℕ) AskFault → Result (List ℕ) (Trouble Cause) → Type 0
Answers result r = answer_of result ≡ Some r

answer_is : (x y : Result (List ℕ) (Trouble Cause)) → Some x ≡ Some y → x ≡ y
answer_is x y e = cc

-- breakpoints that stay where nothing is done
rows_left : (result : Result (List ℕ) AskFault) (r : Result (List ℕ) (Trouble Cause)) (new old : List PointRow) → Answers result r → OnErr result (new ≡ old) → if_done r new old ≡ new
rows_left (Ok text) r new old e k = subst (λ (x : Result (List ℕ) (Trouble Cause)). if_done x new old ≡ new) (answer_is (Ok text) r e) refl
rows_left (Err (Refused cause)) r new old e k = subst (λ (x : Result (List ℕ) (Trouble Cause)). if_done x new old ≡ new) (answer_is (Err (RefusedFor cause)) r e) (sym k)
rows_left (Err (Raised f)) r new old e k = subst (λ (x : Result (List ℕ) (Trouble Cause)). if_done x new old ≡ new) (answer_is (Err (Kind f)) r e) (sym k)
rows_left (Err Spent) r new old e k = subst (λ (x : Result (List ℕ) (Trouble Cause)). if_done x new old ≡ new) (answer_is (Err StepsSpent) r e) (sym k)
rows_left (Err NoMemory) r new old e k = absurd (let w = e in cc)
rows_left (Err (Broken f)) r new old e k = absurd (let w = e in cc)

on_rows : (result : Result (List ℕ) AskFault) (s : StoreState) (ps' ps : List Point) → OnErr result (ps' ≡ ps) → OnErr result (rows_in s ps' ≡ rows_in s ps)
on_rows (Ok text) s ps' ps k = tt
on_rows (Err f) s ps' ps k = ap (rows_in s) k

-- targets of the same machine
abbrev target_by : (target context : ℕ) → Order → Regions → Target
target_by t n order r = record { row = row_of_target t; context = n; order = order; regions = r }

same_target : (t t' n n' : ℕ) (o o' : Order) (r : Regions) → t ≡ t' → n ≡ n' → o ≡ o' → target_by t n o r ≡ target_by t' n' o' r
same_target t t' n n' o o' r e1 e2 e3 = ap (λ x. target_by x n o r) e1 ∙ (ap (λ x. target_by t' x o r) e2 ∙ ap (λ (x : Order). target_by t' n' x r) e3)

module _ {W R : Type 0} (seen : W → Seen R) (leads : W → Option (List ℕ) → W → Type 0) (a : SideState) (rest : R) (i j k l : Inquiry) (o o' : Operators W) (result : Result (List ℕ) AskFault) (r : Result (List ℕ) (Trouble Cause)) (ps ps' : List Point)
    (told : (seen o.memory.below.below.below).tells (side_memory a) rest) (stands : StandsBetween i a) (begun : Begun i j) (answers : Answers result r) (ends : IsEnded i k l) where
  abbrev s : Seen R
  s = seen o.memory.below.below.below

  abbrev s' : Seen R
  s' = seen o'.memory.below.below.below

  abbrev It : Command → Type 0
  It now = One s s' a rest l now r (rows_in k.core.store ps')

  module _ (target : o.view.target ≡ a.machine.target) (context : o.view.context ≡ CONTEXT) (order : o.memory.below.below.order ≡ machine_order a.machine) (rows : rows_in k.core.store ps ≡ a.breaks) (kept : OnErr result (ps' ≡ ps)) where
    left : if_done r (rows_in k.core.store ps') a.breaks ≡ rows_in k.core.store ps'
    left = rows_left result r (rows_in k.core.store ps') a.breaks answers (subst (λ (x : List PointRow). OnErr result (rows_in k.core.store ps' ≡ x)) rows (on_rows result k.core.store ps' ps kept))

    stored : (now : Command) (m : OnSide Change) → ((x : _) (y : SideState) → Comes m a x y → OneSide now a x y) → chosen_frame now a.frame ≡ a.frame
        → MeantOver m a r a.frame (if_done r (rows_in k.core.store ps') a.breaks) l s' rest → It now
    stored now m one frame w = record {
      result = w.result;
      side = w.side;
      matches = w.matches;
      one = one w.result w.side w.comes;
      frame_is = w.frame_is ∙ (same_if s s' a rest l r a.frame ∙ ap (λ n. if_done r n a.frame) (sym frame));
      breaks_are = w.breaks_are ∙ left;
      stands = w.stands;
      tells = w.tells;
    }

    asked : (now : Command) (m : OnSide Change) → ((x : _) (y : SideState) → Comes m a x y → OneSide now a x y) → ps' ≡ ps
        → MeantOver m a r (if_done r (chosen_frame now a.frame) a.frame) a.breaks l s' rest → It now
    asked now m one same w = record {
      result = w.result;
      side = w.side;
      matches = w.matches;
      one = one w.result w.side w.comes;
      frame_is = w.frame_is;
      breaks_are = w.breaks_are ∙ (sym rows ∙ ap (rows_in k.core.store) (sym same));
      stands = w.stands;
      tells = w.tells;
    }

    came : (now : Command) (frame : ℕ) → frame ≡ a.frame → IsPlain now → Does seen leads now frame ps j o result ps' k o' → It now
    came (command.Break spot) frame at plain d =
        let m = side_breaks.breaking a spot in
        let f = λ (t : ℕ) (x : List PointRow) (b : Bytes). asked_breaks.breaking t x b spot in
        let e : (λ b. f o.view.target (rows_in k.core.store ps) b) ≡ (λ b. f a.machine.target a.breaks b) = ap (λ t b. f t (rows_in k.core.store ps) b) target ∙ ap (λ x b. f a.machine.target x b) rows in
        stored (command.Break spot) m (λ x y c. c) refl
        (stores_meant s s' (λ b. f a.machine.target a.breaks b) m a (breaking_covers a spot) rest i j k l result r (rows_in k.core.store ps') told stands begun
        (subst (λ g. ChangesOver g j s result (rows_in k.core.store ps') k s') e d) answers ends)
    came (command.Clear spot) frame at plain d =
        let m = side_breaks.clearing a spot in
        let f = λ (t : ℕ) (x : List PointRow) (b : Bytes). asked_breaks.clearing t x b spot in
        let e : (λ b. f o.view.target (rows_in k.core.store ps) b) ≡ (λ b. f a.machine.target a.breaks b) = ap (λ t b. f t (rows_in k.core.store ps) b) target ∙ ap (λ x b. f a.machine.target x b) rows in
        stored (command.Clear spot) m (λ x y c. c) refl
        (stores_meant s s' (λ b. f a.machine.target a.breaks b) m a (clearing_covers a spot) rest i j k l result r (rows_in k.core.store ps') told stands begun
        (subst (λ g. ChangesOver g j s result (rows_in k.core.store ps') k s') e d) answers ends)
    came command.Frames frame at plain d =
        let f = λ (t n : ℕ). asked_frames.listing (row_of_target t) n in
        let e : f o.view.target o.view.context ≡ f a.machine.target CONTEXT = ap (λ t. f t o.view.context) target ∙ ap (λ n. f a.machine.target n) context in
        asked command.Frames (side_frames.listing a) (λ x y c. c) d.1
        (asks_meant s s' (f a.machine.target CONTEXT) (side_frames.listing a) a a.frame (listing_covers a) rest i j k l result r told stands begun (subst (λ g. ComesOver g j s result k s') e d.0) answers ends)
    came (command.Frame n) frame at plain d =
        let f = λ (t m : ℕ). asked_frames.choosing (row_of_target t) m n in
        let e : f o.view.target o.view.context ≡ f a.machine.target CONTEXT = ap (λ t. f t o.view.context) target ∙ ap (λ m. f a.machine.target m) context in
        asked (command.Frame n) (side_frames.choosing a n) (λ x y c. c) d.1
        (asks_meant s s' (f a.machine.target CONTEXT) (side_frames.choosing a n) a n (choosing_covers a n) rest i j k l result r told stands begun (subst (λ g. ComesOver g j s result k s') e d.0) answers ends)
    came (command.Print name) frame at plain d =
        let is : target_with o a.machine.memory ≡ side_target a = same_target o.view.target a.machine.target o.view.context CONTEXT o.memory.below.below.order (machine_order a.machine) a.machine.memory target context order in
        let w =
        runs_meant s s' (asked_printing.printing a.frame name) (side_printing.printing a name) a (printing_covers a name) rest i j k l result r (target_with o) told stands begun is
        (subst (λ (n : ℕ). EndsOver (asked_printing.printing n name) (target_with o) j s result k s') at d.0) answers ends in
        asked (command.Print name) (side_printing.printing a name) (λ x y c. c) d.2
        (subst (λ (n : ℕ). MeantOver (side_printing.printing a name) a r n a.breaks l s' rest) (same_if s s' a rest l r a.frame) w)
    came c frame at plain d = absurd plain

-- one that is asked and is no text
pub plain_of : (c : Command) → IsInquiry c → ((text : List ℕ) → c ≢ command.Ps text) → IsPlain c
plain_of (command.Ps text) i n = absurd (n text refl)
plain_of c i n = i

-- ---- what a fault of the link leaves

same_or_more : (m n : ℕ) → n ≡ m → m ≤ n
same_or_more m n e = omega (arith, e)

-- a run's count of faults doesn't fall, but where memory was wanting nothing is said
pub ran_count : {W R : Type 0} (seen : W → Seen R) (leads : W → Option (List ℕ) → W → Type 0) (x y : W) (result : Result (List ℕ) AskFault) → result ≢ Err NoMemory → RanOver seen leads x result y → (seen x).faults ≤ (seen y).faults
ran_count seen leads x y (Ok text) some d = same_or_more (seen x).faults (seen y).faults d.0
ran_count seen leads x y (Err (Refused cause)) some d = same_or_more (seen x).faults (seen y).faults d.0
ran_count seen leads x y (Err (Raised e)) some d = same_or_more (seen x).faults (seen y).faults d.0
ran_count seen leads x y (Err Spent) some d = same_or_more (seen x).faults (seen y).faults d.0
ran_count seen leads x y (Err NoMemory) some d = absurd (some refl)
ran_count seen leads x y (Err (Broken LinkFault)) some d = d.no_fall
ran_count seen leads x y (Err (Broken (BadReply bad))) some d = same_or_more (seen x).faults (seen y).faults d.0
ran_count seen leads x y (Err (Broken (Outside p))) some d = absurd d

module _ {W R : Type 0} (seen : W → Seen R) (leads : W → Option (List ℕ) → W → Type 0) (frame : ℕ) (ps ps' : List Point) (j k : Inquiry) (o o' : Operators W) where
  abbrev before : Seen R
  before = seen o.memory.below.below.below

  abbrev behind : Seen R
  behind = seen o'.memory.below.below.below

  rose_by : (now : Command) → IsPlain now → Does seen leads now frame ps j o (Err (Broken LinkFault)) ps' k o' → Rose before.faults behind.faults
  rose_by (command.Break spot) plain d = d
  rose_by (command.Clear spot) plain d = d
  rose_by command.Frames plain d = d.0
  rose_by (command.Frame n) plain d = d.0
  rose_by (command.Print name) plain d = d.1
  rose_by c plain d = absurd plain

  -- a bad reply came only where no bytes of the target were told
  untold_by : (now : Command) (bad : _) → IsPlain now → j.core.store.part ≡ CommandPart → Does seen leads now frame ps j o (Err (Broken (BadReply bad))) ps' k o' → (regions : Regions) (rest : R)
      → before.tells (memory_bytes (target_with o regions)) rest → ⊥
  untold_by (command.Break spot) bad plain part d regions rest t = d.never (memory_bytes (target_with o regions)) rest t
  untold_by (command.Clear spot) bad plain part d regions rest t = d.never (memory_bytes (target_with o regions)) rest t
  untold_by command.Frames bad plain part d regions rest t = d.0.never (memory_bytes (target_with o regions)) rest t
  untold_by (command.Frame n) bad plain part d regions rest t = d.0.never (memory_bytes (target_with o regions)) rest t
  untold_by (command.Print name) bad plain part d regions rest t = d.0 part regions rest t
  untold_by c bad plain part d regions rest t = absurd plain

  never_outside : (now : Command) (p : _) → IsPlain now → Does seen leads now frame ps j o (Err (Broken (Outside p))) ps' k o' → ⊥
  never_outside (command.Break spot) p plain d = d
  never_outside (command.Clear spot) p plain d = d
  never_outside command.Frames p plain d = d.0
  never_outside (command.Frame n) p plain d = d.0
  never_outside (command.Print name) p plain d = d.1
  never_outside c p plain d = absurd plain

  -- without memory the target is as it was
  wants_by : (now : Command) → IsBare now → Does seen leads now frame ps j o (Err NoMemory) ps' k o' → Same before behind
  wants_by (command.Break spot) bare d = d.0
  wants_by (command.Clear spot) bare d = d.0
  wants_by command.Frames bare d = d.0.0
  wants_by (command.Frame n) bare d = d.0.0
  wants_by c bare d = absurd bare

  -- the count of faults never falls
  same_count : before.faults ≡ behind.faults → before.faults ≤ behind.faults
  same_count e = subst (λ n. before.faults ≤ n) e (omega arith)

  asks_count : {A : Type 0} (m : Bytes → Eval Cause A) (result : Result A AskFault) → ComesOver m j before result k behind → before.faults ≤ behind.faults
  asks_count m (Ok x) d = same_count (sym d.0.faults)
  asks_count m (Err (Refused cause)) d = same_count (sym d.0.faults)
  asks_count m (Err (Raised e)) d = same_count (sym d.0.faults)
  asks_count m (Err Spent) d = same_count (sym d.0.faults)
  asks_count m (Err NoMemory) d = same_count (sym d.0.faults)
  asks_count m (Err (Broken LinkFault)) d = d.no_fall
  asks_count m (Err (Broken (BadReply bad))) d = same_count (sym d.faults)
  asks_count m (Err (Broken (Outside p))) d = absurd d

  stores_count : (m : Bytes → Eval Cause Stored) (result : Result (List ℕ) AskFault) (rows : List PointRow) → ChangesOver m j before result rows k behind → before.faults ≤ behind.faults
  stores_count m (Ok x) rows d = same_count (sym d.0)
  stores_count m (Err f) rows d = asks_count m (Err f) d

  does_count : (now : Command) (result : Result (List ℕ) AskFault) → IsBare now → Does seen leads now frame ps j o result ps' k o' → before.faults ≤ behind.faults
  does_count (command.Break spot) result bare d = stores_count (λ b. asked_breaks.breaking o.view.target (rows_in k.core.store ps) b spot) result (rows_in k.core.store ps') d
  does_count (command.Clear spot) result bare d = stores_count (λ b. asked_breaks.clearing o.view.target (rows_in k.core.store ps) b spot) result (rows_in k.core.store ps') d
  does_count command.Frames result bare d = asks_count (asked_frames.listing (row_of_target o.view.target) o.view.context) result d.0
  does_count (command.Frame n) result bare d = asks_count (asked_frames.choosing (row_of_target o.view.target) o.view.context n) result d.0
  does_count c result bare d = absurd bare

  -- so it is of a run, but for want of memory
  plain_count : (now : Command) (result : Result (List ℕ) AskFault) → IsPlain now → result ≢ Err NoMemory → Does seen leads now frame ps j o result ps' k o' → before.faults ≤ behind.faults
  plain_count (command.Break spot) result plain some d = does_count (command.Break spot) result plain d
  plain_count (command.Clear spot) result plain some d = does_count (command.Clear spot) result plain d
  plain_count command.Frames result plain some d = does_count command.Frames result plain d
  plain_count (command.Frame n) result plain some d = does_count (command.Frame n) result plain d
  plain_count (command.Print name) result plain some d = ran_count seen leads o.memory.below.below.below o'.memory.below.below.below result some d.1
  plain_count c result plain some d = absurd plain

-- ---- a command over a link whose nubs meet their definition

-- what is told stays
stays_wrote : {R : Type 0} (s t : Seen R) → Same s t → Wrote s t (λ b r. r ≡ b.regions)
stays_wrote s t same = record { faults = same.faults; after = λ b r w. (b.regions, none_written, refl, same.keeps b r w) }

pub none_mapped : {A B : Type 0} (f : A → B) (xs : List A) → map f xs ≡ [] → xs ≡ []
none_mapped f [] e = refl
none_mapped f (x ∷ xs) e = cc

some_is : {A : Type 0} (x y : A) → Some x ≡ Some y → x ≡ y
some_is x y e = cc

-- a link at rest tells the bytes of its machine alone
told_bytes : (b : Behaviour) (c : Conduct) (which : Side) (o : Option World) (order : Order) (h : Host) (beside : Option Host) (z : Bytes) (rest : WireRest) → Stands b c which o h beside → WireTells c o which order z rest
    → z ≡ memory_of h.machine
told_bytes b c which o order h beside z rest x t =
    let world : t.world ≡ x.world = some_is t.world x.world (sym t.told ∙ x.told) in
    let now : t.now ≡ x.now = some_is t.now x.now (sym t.there ∙ (ap (side_of which) world ∙ x.there)) in
    t.bytes_are ∙ (ap (λ (n : LinkSide). memory_of n.host.machine) now ∙ ap (λ (g : Host). memory_of g.machine) x.host_is)

-- it tells them
module _ (b : Behaviour) (c : Conduct) (o : Option World) (side : Side) (order : Order) (h : Host) (beside : Option Host) (x : Stands b c side o h beside) (same : order ≡ machine_order h.machine) where
  meets : MeetsMemory c
  meets = subst MeetsMemory (sym x.conduct) (record { fetches = λ at s g. refl; stores = λ at s v g. refl })

  tells : WireTells c o side order (memory_of h.machine) (rest_of side order h beside)
  tells = record {
    meets = meets;
    world = x.world;
    told = x.told;
    now = x.now;
    there = x.there;
    rest = x.rest;
    holds = subst (λ (g : Host). IsMemory g.machine.memory) (sym x.host_is) (x.fits.machine h.machine begins).memory;
    order_is = same ∙ ap (λ (g : Host). machine_order g.machine) (sym x.host_is);
    bytes_are = ap (λ (g : Host). memory_of g.machine) (sym x.host_is);
    rest_is = ap (λ (g : Host). rest_of side order g beside) (sym x.host_is);
    beside = x.beside_is;
  }

  pub target_told : WireTells c o side order (record { order = order; regions = h.machine.memory; registers = no_places; cell = None }) (rest_of side order h beside)
  target_told = subst (λ (z : Order). WireTells c o side order (record { order = z; regions = h.machine.memory; registers = no_places; cell = None }) (rest_of side order h beside)) (sym same) tells

module _ {L : Type 0} (c : Conduct) (world : L → Option World) (faults : L → ℕ) where
  abbrev pub seen_by : Wire L → Seen WireRest
  seen_by w = wire_seen c (world w.link) (faults w.link) w.side w.order

  -- where memory is wanting the side is at rest still, with the same nub and machine
  pub rests_unbegun : (b : Behaviour) (side : SideRecord) (old t : Operators (Wire L)) (h : Host) (beside : Option Host) → t ≡ turned side old → IsThere b c (world old.memory.below.below.below.link) side h beside
      → Stands b c side.which (world t.memory.below.below.below.link) h beside
  rests_unbegun b side old t h beside e x = subst (λ (z : Operators (Wire L)). Stands b c side.which (world z.memory.below.below.below.link) h beside) (sym e) x.stands

  module _ (leads : Wire L → Option (List ℕ) → Wire L → Type 0) where
    -- the command was begun on a side, done and ended
    pub record Went (side : SideRecord) (old : Operators (Wire L)) (now : Command) (result : Result (List ℕ) AskFault) (begun ended : Inquiry) (after : SideRecord) (new : Operators (Wire L)) : Type 0 where
      pub talk : Operators (Wire L)
      pub mark : Mark
      pub turned_is : talk ≡ turned side old
      pub steps : begun.steps ≡ record { taken = 0; limit = 10000000 }
      pub store : begun.core.store ≡ record side.inquiry.core.store { part = CommandPart }
      pub mark_is : mark ≡ mark_of side.inquiry.core.store.command
      pub does : Does seen_by leads now side.frame side.row.breaks.items begun talk result after.row.breaks.items after.inquiry new
      pub closed : Settles (closed_part begun.core.store) (closed_part after.inquiry.core.store)
      pub named : AllByRecursion (IsNamed after.inquiry.core.store) side.row.breaks.items → AllByRecursion (IsNamed after.inquiry.core.store) after.row.breaks.items
      pub same : after ≡ record side { inquiry = after.inquiry; row = record side.row { breaks = after.row.breaks } }
      pub kept : OnErr result (after.row.breaks.items ≡ side.row.breaks.items)
      pub ends : ended.core.store ≡ record after.inquiry.core.store { part = CommandPart; command = cut after.inquiry.core.store.command mark }

    module _ (side : SideRecord) (old t new : Operators (Wire L)) (now : Command) (result : Result (List ℕ) AskFault) (frame : ℕ) (ps ps' : List Point) (j k : Inquiry) (e : t ≡ turned side old) (d : Does seen_by leads now frame ps j t result ps' k new) where
      since_turned : faults t.memory.below.below.below.link ≤ faults new.memory.below.below.below.link → faults old.memory.below.below.below.link ≤ faults new.memory.below.below.below.link
      since_turned h = subst (λ (x : Operators (Wire L)). faults x.memory.below.below.below.link ≤ faults new.memory.below.below.below.link) e h

      pub count_of : IsBare now → faults old.memory.below.below.below.link ≤ faults new.memory.below.below.below.link
      count_of bare = since_turned (does_count seen_by leads frame ps ps' j k t new now result bare d)

      pub count_unless : IsPlain now → result ≢ Err NoMemory → faults old.memory.below.below.below.link ≤ faults new.memory.below.below.below.link
      count_unless plain some = since_turned (plain_count seen_by leads frame ps ps' j k t new now result plain some d)

    -- so the side is at rest still where memory is wanting
    pub rests_wanting : (b : Behaviour) (side : SideRecord) (old t new : Operators (Wire L)) (now : Command) (frame : ℕ) (ps ps' : List Point) (j k : Inquiry) (h : Host) (beside : Option Host) (fault : AskFault) → t ≡ turned side old → fault ≡ NoMemory → IsBare now
        → Does seen_by leads now frame ps j t (Err fault) ps' k new → IsThere b c (world old.memory.below.below.below.link) side h beside → Stands b c side.which (world new.memory.below.below.below.link) h beside
    rests_wanting b side old t new now frame ps ps' j k h beside fault e is bare d x =
        let wire = new.memory.below.below.below in
        let f = faults old.memory.below.below.below.link in
        let same = wants_by seen_by leads frame ps ps' j k (turned side old) new now bare (subst (λ (z : Operators (Wire L)). Does seen_by leads now frame ps j z (Err NoMemory) ps' k new) e (subst (λ (y : AskFault). Does seen_by leads now frame ps j t (Err y) ps' k new) is d)) in
        let y = put_stands b c (world old.memory.below.below.below.link) side.which (order_of side.machine) h beside x.stands x.order f (faults wire.link) wire.side wire.order (world wire.link) (λ z r. r ≡ z.regions)
        (stays_wrote (seen_by (turned side old).memory.below.below.below) (seen_by wire) same) in
        subst (λ (r : Regions). Stands b c side.which (world wire.link) (with_regions h r) beside) y.put y.stands

    module _ (b : Behaviour) (side : SideRecord) (old : Operators (Wire L)) (now : Command) (plain : IsPlain now) (result : Result (List ℕ) AskFault) (begun ended : Inquiry) (after : SideRecord) (new : Operators (Wire L))
        (h : Host) (other : Option Host) (a : SideState) (there : IsThere b c (world old.memory.below.below.below.link) side h other) (ready : IsReady (debugged side h) a) (none : a.step_words ≡ [])
        (w : Went side old now result begun ended after new) where
      abbrev start : Operators (Wire L)
      start = turned side old

      abbrev world_after : Option World
      world_after = world new.memory.below.below.below.link

      abbrev first : StoreState
      first = record side.inquiry.core.store { part = CommandPart }

      abbrev k : StoreState
      k = after.inquiry.core.store

      abbrev last : StoreState
      last = record k { part = CommandPart; command = cut k.command (mark_of side.inquiry.core.store.command) }

      does : Does seen_by leads now side.frame side.row.breaks.items begun start result after.row.breaks.items after.inquiry new
      does = subst (λ (x : Operators (Wire L)). Does seen_by leads now side.frame side.row.breaks.items begun x result after.row.breaks.items after.inquiry new) w.turned_is w.does

      settled : Settled (closed_part first) (closed_part k)
      settled = w.closed (closed_part first) (subst (λ (s : StoreState). Settled (closed_part first) (closed_part s)) (sym w.store) (settled_same (closed_part first)))

      settled_last : Settled (closed_part k) (closed_part last)
      settled_last = subst (λ (p : _). Settled (closed_part k) (record (closed_part k) { part = p })) settled.part (settled_same (closed_part k))

      abbrev d : Debugged
      d = record (debugged side h) { table = first }

      names : HasNames d
      names = record { breaks = there.names.breaks; words = there.names.words; kept = there.names.kept }

      asked_still : IsStill d (record d { table = k })
      asked_still = (names_stay d k settled names).0

      asked_names : HasNames (record d { table = k })
      asked_names = (names_stay d k settled names).1

      abbrev row : SideRow
      row = record side.row { breaks = after.row.breaks }

      abbrev left_at : ℕ → Host → Debugged
      left_at n g = record { table = k; frame = n; row = row; host = g }

      left_names : (n : ℕ) (g : Host) → HasNames (left_at n g)
      left_names n g = record { breaks = w.named asked_names.breaks; words = asked_names.words; kept = asked_names.kept }

      ends : IsEnded side.inquiry after.inquiry ended
      ends = w.ends ∙ ap (λ (m : Mark). record k { part = CommandPart; command = cut k.command m }) w.mark_is

      rows : rows_in k side.row.breaks.items ≡ a.breaks
      rows = asked_still.breaks ∙ sym ready.stands.alike.breaks

      target : byte_of side.machine ≡ a.machine.target
      target = there.target ∙ sym (ap (λ (m : MachineState). m.target) ready.planted.machine)

      order : order_of side.machine ≡ machine_order a.machine
      order = there.order ∙ sym (ap (λ (m : MachineState). machine_order m) ready.planted.machine)

      one : (r : Result (List ℕ) (Trouble Cause)) → Answers result r → (rest : WireRest) → (seen_by start.memory.below.below.below).tells (side_memory a) rest
          → One (seen_by start.memory.below.below.below) (seen_by new.memory.below.below.below) a rest ended now r (rows_in k after.row.breaks.items)
      one r e rest told =
          came seen_by leads a rest side.inquiry begun after.inquiry ended start new result r side.row.breaks.items after.row.breaks.items told (record { table = ready.stands.table.same; nothing = ready.stands.table.command })
          (record { taken = ap (λ (s : Steps). s.taken) w.steps; limit = ap (λ (s : Steps). s.limit) w.steps; store = w.store }) e ends target there.context order rows w.kept now side.frame (sym ready.stands.frame) plain does

      -- what it came to, with the memory of the machine
      record Came (r : Result (List ℕ) (Trouble Cause)) (m : Regions) : Type 0 where
        comes : Result Change Troubled
        left : SideState
        matches : Matches SaysText r comes
        one : OneSide now a comes left
        frame_is : left.frame ≡ if_done r (chosen_frame now a.frame) a.frame
        breaks_are : left.breaks ≡ rows_in k after.row.breaks.items
        stands : StandsBetween ended left
        memory_is : left.machine.memory ≡ m
        leaves : Leaves a left

      wrote : (f : ℕ) (r : Result (List ℕ) (Trouble Cause)) → Answers result r
          → Wrote (wire_seen c (world old.memory.below.below.below.link) f side.which (order_of side.machine)) (wire_seen c world_after f new.memory.below.below.below.side new.memory.below.below.below.order) (λ z m. Came r m)
      wrote f r e = record {
        faults = refl;
        after = λ (z : Bytes) (rest : WireRest) t.
            let is : z ≡ side_memory a =
            told_bytes b c side.which (world old.memory.below.below.below.link) (order_of side.machine) h other z rest there.stands t ∙ sym (ap (λ (m : MachineState). memory_of m) ready.planted.machine) in
            let v = one r e rest (subst (λ (y : Bytes). (seen_by start.memory.below.below.below).tells y rest) is t) in
            let l : Leaves a v.side = one_leaves now plain a v.result v.side v.one in
            let machine : v.side.machine ≡ record a.machine { memory = l.memory } = ap (λ (x : SideState). x.machine) l.side in (
              l.memory,
              subst (λ (y : Bytes). Writes y.order y.regions l.memory) (sym is) l.wrote,
              record {
                comes = v.result;
                left = v.side;
                matches = v.matches;
                one = v.one;
                frame_is = v.frame_is;
                breaks_are = v.breaks_are;
                stands = v.stands;
                memory_is = ap (λ (m : MachineState). m.memory) machine;
                leaves = l;
              },
              subst (λ (y : Bytes). (seen_by new.memory.below.below.below).tells (record y { regions = l.memory }) rest) (sym is)
                  (subst (λ (m : MachineState). (seen_by new.memory.below.below.below).tells (memory_of m) rest) machine v.tells),
            );
      }

      abbrev after_side : ℕ → SideRecord
      after_side n = record side { inquiry = ended; row = row; frame = n }

      record Done (r : Result (List ℕ) (Trouble Cause)) (n : ℕ) : Type 0 where
        comes : Result Change Troubled
        matches : Matches SaysText r comes
        asked : AskedOne b c world_after side (after_side n) h other now a comes

      asked_one : (r : Result (List ℕ) (Trouble Cause)) → Answers result r → (n : ℕ) → if_done r (chosen_frame now a.frame) a.frame ≡ n → Done r n
      asked_one r e n frame =
          let wire = new.memory.below.below.below in
          let P = λ (z : Bytes) (m : Regions). Came r m in
          let y =
          put_stands b c (world old.memory.below.below.below.link) side.which (order_of side.machine) h other there.stands there.order (faults old.memory.below.below.below.link) (faults old.memory.below.below.below.link) wire.side wire.order world_after P
          (wrote (faults old.memory.below.below.below.link) r e) in
          let v : Came r y.regions = y.put in
          let g : Host = with_regions h y.regions in
          let t = names_stay (left_at n g) last settled_last (left_names n g) in
          record {
            comes = v.comes;
            matches = v.matches;
            asked = record {
              host = g;
              after = v.left;
              there = record {
                stands = y.stands;
                context = there.context;
                target = there.target;
                order = there.order;
                names = subst (λ (s : StoreState). HasNames (record { table = s; frame = n; row = row; host = g })) (sym ends) t.1;
              };
              one = v.one;
              alike = record {
                words = none_mapped (row_in side.inquiry.core.store) side.row.step_words.items (sym ready.planted.words ∙ none);
                table = record { same = v.stands.table; command = v.stands.nothing };
                frame = v.frame_is ∙ frame;
                breaks = v.breaks_are ∙ (sym t.0.breaks ∙ ap (λ (s : StoreState). map (row_in s) after.row.breaks.items) (sym ends));
                stands_at = refl;
                kept = ap (λ (s : StoreState). events_in s side.row.kept) ends ∙ (t.0.kept ∙ asked_still.kept);
                host = ap (λ (m : Regions). with_regions h m) (sym v.memory_is);
                side = v.leaves.side
                    ∙ ap (λ (m : Regions). record a { machine = record a.machine { memory = m }; table = v.left.table; breaks = v.left.breaks; frame = v.left.frame }) (sym (ap (λ (x : SideState). x.machine.memory) v.leaves.side));
              };
            };
          }

      -- as the command is said to come out
      abbrev AskedAs : ℕ → Result Change Troubled → Type 0
      AskedAs n x = AskedOne b c world_after side (after_side n) h other now a x

      said_by : (text : List ℕ) (n : ℕ) (x : Result Change Troubled) → Matches SaysText (Ok text) x → AskedAs n x → SaidOne b c world_after side (after_side n) h other now a text
      said_by text n (Ok change) m x = record { change = change; text_is = m; asked = x }
      said_by text n (Err e) m x = absurd m

      not_by : (e : Trouble Cause) (n : ℕ) (x : Result Change Troubled) → Matches SaysText (Err e) x → AskedAs n x → AskedAs n (Err (trouble_in e))
      not_by e n (Ok change) m x = absurd m
      not_by e n (Err f) m x = subst (λ (y : Troubled). AskedAs n (Err y)) m x

      pub said : (text : List ℕ) → result ≡ Ok text → SaidOne b c world_after side (after_side (chosen_frame now side.frame)) h other now a text
      said text e =
          let x = asked_one (Ok text) (ap answer_of e) (chosen_frame now side.frame) (ap (chosen_frame now) ready.stands.frame) in
          said_by text (chosen_frame now side.frame) x.comes x.matches x.asked

      pub not_done : (e : Trouble Cause) → answer_of result ≡ Some (Err e) → AskedAs side.frame (Err (trouble_in e))
      not_done e is =
          let x = asked_one (Err e) is side.frame ready.stands.frame in
          not_by e side.frame x.comes x.matches x.asked

      pub rose : result ≡ Err (Broken LinkFault) → Rose (faults old.memory.below.below.below.link) (faults new.memory.below.below.below.link)
      rose e =
          rose_by seen_by leads side.frame side.row.breaks.items after.row.breaks.items begun after.inquiry start new now plain
          (subst (λ (x : Result (List ℕ) AskFault). Does seen_by leads now side.frame side.row.breaks.items begun start x after.row.breaks.items after.inquiry new) e does)

      pub never : (bad : _) → result ≡ Err (Broken (BadReply bad)) → ⊥
      never bad e =
          let u =
          untold_by seen_by leads side.frame side.row.breaks.items after.row.breaks.items begun after.inquiry start new now bad plain (ap (λ (s : StoreState). s.part) w.store)
          (subst (λ (x : Result (List ℕ) AskFault). Does seen_by leads now side.frame side.row.breaks.items begun start x after.row.breaks.items after.inquiry new) e does) in
          u h.machine.memory (rest_of side.which (order_of side.machine) h other) (target_told b c (world old.memory.below.below.below.link) side.which (order_of side.machine) h other there.stands there.order)

      pub inside : (p : _) → result ≡ Err (Broken (Outside p)) → ⊥
      inside p e =
          never_outside seen_by leads side.frame side.row.breaks.items after.row.breaks.items begun after.inquiry start new now p plain
          (subst (λ (x : Result (List ℕ) AskFault). Does seen_by leads now side.frame side.row.breaks.items begun start x after.row.breaks.items after.inquiry new) e does)

      back : (e : Troubled) → AskedAs side.frame (Err e) → NotOne b c world_after side (record after { inquiry = ended }) h other now a e
      back e x = subst (λ (s : SideRecord). AskedOne b c world_after side s h other now a (Err e)) (sym (ap (λ (s : SideRecord). record s { inquiry = ended }) w.same)) x

      pub undone_meant : (fault : AskFault) → result ≡ Err fault
          → ComesTo (faults old.memory.below.below.below.link) (faults new.memory.below.below.below.link) (λ (text : List ℕ). SaidOne b c world_after side (record after { inquiry = ended }) h other now a text)
          (NotOne b c world_after side (record after { inquiry = ended }) h other now a) (Err fault)
      undone_meant (Refused cause) e = back (RefusedFor (refusal_of cause)) (not_done (RefusedFor cause) (ap answer_of e))
      undone_meant (Raised x) e = back (Kind x) (not_done (Kind x) (ap answer_of e))
      undone_meant Spent e = back StepsSpent (not_done StepsSpent (ap answer_of e))
      undone_meant NoMemory e = tt
      undone_meant (Broken LinkFault) e = rose e
      undone_meant (Broken (BadReply bad)) e = never bad e
      undone_meant (Broken (Outside p)) e = inside p e

      pub done_meant : (text : List ℕ) → result ≡ Ok text → (n : ℕ) → n ≡ chosen_frame now after.frame → SaidOne b c world_after side (record after { inquiry = ended; frame = n }) h other now a text
      done_meant text e n chosen =
          let frame : chosen_frame now side.frame ≡ n = sym (chosen ∙ ap (λ (x : SideRecord). chosen_frame now x.frame) w.same) in
          let final : after_side (chosen_frame now side.frame) ≡ record after { inquiry = ended; frame = n } = ap after_side frame ∙ sym (ap (λ (x : SideRecord). record x { inquiry = ended; frame = n }) w.same) in
          subst (λ (x : SideRecord). SaidOne b c world_after side x h other now a text) final (said text e)
