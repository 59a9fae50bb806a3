-- Commands that store nothing in the target, over a link whose nubs meet their definition.
use Rattle.std.proofs.Common.{◌≡◌, ◌≢◌, ◌∙◌, refl, sym, ap, subst, inl, inr, ℕ, List, [], Option, Some, None, Result, Ok, Err, IfErr, OnErr}
use Rattle.ldb_edge.specs.Count.{Rose}
use Rattle.ldb_words.specs.declared.kinds.Order.{Order}
use Rattle.machine_state.specs.Regions.{Regions}
use Rattle.machine_state.specs.State.{Behaviour}
use Rattle.nub_wire.specs.Nub.{Host}
use Rattle.nub_wire.specs.Delivery.{Conduct, World}
use Rattle.frame_bytes.specs.Bytes.{Bytes, no_places}
use Rattle.abs_mem.specs.Meaning.{Seen, Same}
use Rattle.abs_mem.specs.WireMeaning.{WireRest, WireTells, rest_of, wire_seen}
use Rattle.abs_mem.specs.declared.wire.Wire.{Wire}
use Rattle.abs_mem.specs.declared.memory.MemFault.TheVariants.{Outside, LinkFault, BadReply}
use Rattle.resuming.specs.Standing.{Stands}
use Rattle.debug_side.specs.Told.{with_regions}
use Rattle.table_points.specs.declared.row.Point.{Point}
use Rattle.ps_store.specs.declared.object.Part.TheVariants.{Command as CommandPart}
use Rattle.ps_store.specs.StoreState.{StoreState}
use Rattle.dialect_model.specs.Dial.{memory_bytes}
use Rattle.dialect_model.specs.TableUse.{Eval}
use Rattle.c_session.specs.declared.command.Command.{Command}
use Rattle.c_session.specs.declared.command.Command.TheVariants as command
use Rattle.ps_ops.specs.declared.dialect.Operators.{Operators}
use Rattle.table_asks.specs.declared.fault.Cause.{Cause}
use Rattle.table_asks.specs.declared.fault.AskFault.{AskFault}
use Rattle.table_asks.specs.declared.fault.AskFault.TheVariants.{Refused, Raised, Spent, NoMemory, Broken}
use Rattle.table_asks.specs.declared.inquiry.Inquiry.{Inquiry}
use Rattle.table_asks.specs.Asking.{ComesOver}
use Rattle.table_asks.specs.Running.{RanOver}
use Rattle.table_model.specs.Frames.{row_of_target}
use Rattle.asking.specs.Doing.{Change as Stored}
use Rattle.asking.specs.Breaks as asked_breaks
use Rattle.asking.specs.Breaks.{rows_in}
use Rattle.asking.specs.Frames as asked_frames
use Rattle.asking.specs.Printing as asked_printing
use Rattle.asking.specs.Printing.{EndsOver, target_with}
use Rattle.evaluating.specs.Told.{Keeps, StoresNone, StoresAll, Changed, StoresLeaves, none_stored, stores}
use Rattle.side_meaning.specs.Storing.{StoresNumbers}
use Rattle.side_meaning.specs.Storing.{none_stored as no_numbers}
use Rattle.side_meaning.proofs.Storing.{LeftIf, more_stored, stored_left}
use Rattle.session.specs.declared.sides.SideRecord.{SideRecord}
use Rattle.session.specs.Turned.{byte_of, order_of, turned}
use Rattle.session.specs.Asked.{Does}
use Rattle.session.specs.Kept.{IsQuery, IsUndone}
use Rattle.session.specs.Counted.{CountsAsk}
use Rattle.session.specs.Meant.{IsThere, IsBare, IsLook, SetsBreaks, ComesTo, TalksWell, StoredThere}
use Rattle.session.specs.Wanting.{IsAskedAlone}
use Rattle.session.proofs.Asking.{seen_by, target_told}
use Rattle.session.proofs.AskingText.{stands_stored}
use Rattle.session.proofs.Counting.{asks_counts, stores_counts, ran_counts, comes_counts}

-- ---- what a command leaves of the bytes that are told

module _ {W R : Type 0} (seen : W → Seen R) (leads : W → Option (List ℕ) → W → Type 0) (frame : ℕ) (ps ps' : List Point) (j k : Inquiry) (o o' : Operators W) where
  abbrev before : Seen R
  before = seen o.memory.below.below.below

  abbrev behind : Seen R
  behind = seen o'.memory.below.below.below

  -- these are told still, in some order
  abbrev pub ToldStill : Type 0
  ToldStill = (regions : Regions) (rest : R) → before.tells (memory_bytes (target_with o regions)) rest → (z : Order) × behind.tells (record { order = z; regions = regions; registers = no_places; cell = None }) rest

  abbrev pub Looks : {A : Type 0} → Result A AskFault → Type 0
  Looks (Ok x) = ToldStill
  Looks (Err (Refused cause)) = ToldStill
  Looks (Err (Raised e)) = ToldStill
  Looks (Err Spent) = ToldStill
  Looks (Err NoMemory) = ToldStill
  Looks (Err (Broken LinkFault)) = Rose before.faults behind.faults
  Looks (Err (Broken (BadReply bad))) = (regions : Regions) (rest : R) → before.tells (memory_bytes (target_with o regions)) rest → ⊥
  Looks (Err (Broken (Outside p))) = ⊥

  same_told : Same before behind → ToldStill
  same_told h = λ regions rest t. (o.memory.below.below.order, h.keeps (memory_bytes (target_with o regions)) rest t)

  keeps_told : Keeps seen o o' → ToldStill
  keeps_told h = λ regions rest t. (o'.memory.below.below.order, h.keeps regions rest t)

  asks_look : {A : Type 0} (m : Bytes → Eval Cause A) (r : Result A AskFault) → ComesOver m j before r k behind → Looks r
  asks_look m (Ok x) d = same_told d.0
  asks_look m (Err (Refused cause)) d = same_told d.0
  asks_look m (Err (Raised e)) d = same_told d.0
  asks_look m (Err Spent) d = same_told d.0
  asks_look m (Err NoMemory) d = same_told d.0
  asks_look m (Err (Broken LinkFault)) d = d
  asks_look m (Err (Broken (BadReply bad))) d = λ regions rest t. d.never (memory_bytes (target_with o regions)) rest t
  asks_look m (Err (Broken (Outside p))) d = d

  pub comes_look : {A : Type 0} (r : Result A AskFault) → StoresNone seen o r o' → Looks r
  comes_look (Ok x) d = keeps_told d
  comes_look (Err (Refused cause)) d = keeps_told d
  comes_look (Err (Raised e)) d = keeps_told d
  comes_look (Err Spent) d = keeps_told d
  comes_look (Err NoMemory) d = keeps_told d
  comes_look (Err (Broken LinkFault)) d = d
  comes_look (Err (Broken (BadReply bad))) d = λ regions rest t. d.never regions rest t
  comes_look (Err (Broken (Outside p))) d = d

  prints_look : (name : List ℕ) (r : Result (List ℕ) AskFault) → j.core.store.part ≡ CommandPart → EndsOver (asked_printing.printing frame name) (target_with o) j before r k behind → RanOver seen leads o.memory.below.below.below r o'.memory.below.below.below → Looks r
  prints_look name (Ok x) part d h = λ regions rest t. (o.memory.below.below.order, (d part regions rest t).0)
  prints_look name (Err (Refused cause)) part d h = λ regions rest t. (o.memory.below.below.order, (d part regions rest t).0)
  prints_look name (Err (Raised e)) part d h = λ regions rest t. (o.memory.below.below.order, (d part regions rest t).0)
  prints_look name (Err Spent) part d h = λ regions rest t. (o.memory.below.below.order, (d part regions rest t).0)
  prints_look name (Err NoMemory) part d h = λ regions rest t. (o.memory.below.below.order, d part regions rest t)
  prints_look name (Err (Broken LinkFault)) part d h = h
  prints_look name (Err (Broken (BadReply bad))) part d h = λ regions rest t. d part regions rest t
  prints_look name (Err (Broken (Outside p))) part d h = h

  pub does_look : (now : Command) (r : Result (List ℕ) AskFault) → IsLook now → j.core.store.part ≡ CommandPart → Does seen leads now frame ps j o r ps' k o' → Looks r
  does_look command.Frames r look part d = asks_look (asked_frames.listing (row_of_target o.view.target) o.view.context) r d.0
  does_look (command.Frame n) r look part d = asks_look (asked_frames.choosing (row_of_target o.view.target) o.view.context n) r d.0
  does_look (command.Print name) r look part d = prints_look name r part d.0 d.1
  does_look (command.Eval text) r look part d = comes_look r d
  does_look (command.Code text) r look part d = comes_look r d
  does_look c r look part d = absurd look

  -- the breakpoints are as before
  pub look_breaks : (now : Command) (r : Result (List ℕ) AskFault) → IsLook now → (IsQuery now → ps' ≡ ps) → Does seen leads now frame ps j o r ps' k o' → ps' ≡ ps
  look_breaks command.Frames r look query d = query tt
  look_breaks (command.Frame n) r look query d = d.1
  look_breaks (command.Print name) r look query d = query tt
  look_breaks (command.Eval text) r look query d = query tt
  look_breaks (command.Code text) r look query d = query tt
  look_breaks c r look query d = absurd look

  nothing_counts : (r : Result (List ℕ) AskFault) → IfErr r (λ f. ⊥) → o' ≡ o → CountsAsk before.faults behind.faults r
  nothing_counts (Ok x) u e = ap (λ (z : Operators W). (seen z.memory.below.below.below).faults) e
  nothing_counts (Err f) u e = absurd u

  -- how the count of faults stands
  pub does_counts : (now : Command) (r : Result (List ℕ) AskFault) → Does seen leads now frame ps j o r ps' k o' → CountsAsk before.faults behind.faults r
  does_counts (command.Break spot) r d = stores_counts before behind (λ b. asked_breaks.breaking o.view.target (rows_in k.core.store ps) b spot) j k r (rows_in k.core.store ps') d
  does_counts (command.Clear spot) r d = stores_counts before behind (λ b. asked_breaks.clearing o.view.target (rows_in k.core.store ps) b spot) j k r (rows_in k.core.store ps') d
  does_counts command.Frames r d = asks_counts before behind (asked_frames.listing (row_of_target o.view.target) o.view.context) j k r d.0
  does_counts (command.Frame n) r d = asks_counts before behind (asked_frames.choosing (row_of_target o.view.target) o.view.context n) j k r d.0
  does_counts (command.Print name) r d = ran_counts seen leads o.memory.below.below.below o'.memory.below.below.below r d.1
  does_counts (command.Eval text) r d = comes_counts seen o o' r d
  does_counts (command.Code text) r d = comes_counts seen o o' r d
  does_counts command.Continue r d = nothing_counts r d.0 d.1
  does_counts command.Step r d = nothing_counts r d.0 d.1
  does_counts (command.Turns n) r d = nothing_counts r d.0 d.1
  does_counts command.Quit r d = nothing_counts r d.0 d.1
  does_counts command.Regs r d = nothing_counts r d.0 d.1
  does_counts (command.Assign text) r d = nothing_counts r d.0 d.1
  does_counts (command.Ps text) r d = nothing_counts r d.0 d.1

  -- one that isn't done leaves the target as it was
  still_told : (A B : Type 0) (fault : AskFault) → IsUndone {A = A} (Err fault) → Looks {A = B} (Err fault) → ToldStill
  still_told A B (Refused cause) u d = d
  still_told A B (Raised e) u d = d
  still_told A B Spent u d = d
  still_told A B NoMemory u d = d
  still_told A B (Broken x) u d = absurd u

  pub undone_same : (now : Command) (fault : AskFault) → IsAskedAlone now → IsUndone {A = List ℕ} (Err fault) → j.core.store.part ≡ CommandPart → Does seen leads now frame ps j o (Err fault) ps' k o' → ToldStill
  undone_same (command.Break spot) fault alone u part d = still_told (List ℕ) Stored fault u (asks_look {A = Stored} (λ b. asked_breaks.breaking o.view.target (rows_in k.core.store ps) b spot) (Err fault) d)
  undone_same (command.Clear spot) fault alone u part d = still_told (List ℕ) Stored fault u (asks_look {A = Stored} (λ b. asked_breaks.clearing o.view.target (rows_in k.core.store ps) b spot) (Err fault) d)
  undone_same command.Frames fault alone u part d = still_told (List ℕ) (List ℕ) fault u (does_look command.Frames (Err fault) tt part d)
  undone_same (command.Frame n) fault alone u part d = still_told (List ℕ) (List ℕ) fault u (does_look (command.Frame n) (Err fault) tt part d)
  undone_same (command.Print name) fault alone u part d = still_told (List ℕ) (List ℕ) fault u (does_look (command.Print name) (Err fault) tt part d)
  undone_same (command.Eval text) fault alone u part d = still_told (List ℕ) (List ℕ) fault u (does_look (command.Eval text) (Err fault) tt part d)
  undone_same (command.Code text) fault alone u part d = still_told (List ℕ) (List ℕ) fault u (does_look (command.Code text) (Err fault) tt part d)
  undone_same c fault alone u part d = absurd alone

  pub wants_count : (now : Command) → IsBare now → Does seen leads now frame ps j o (Err NoMemory) ps' k o' → behind.faults ≡ before.faults
  wants_count (command.Break spot) bare d = d.0.faults
  wants_count (command.Clear spot) bare d = d.0.faults
  wants_count command.Frames bare d = d.0.0.faults
  wants_count (command.Frame n) bare d = d.0.0.faults
  wants_count c bare d = absurd bare

-- ---- over a link whose nubs meet their definition

-- what was stored in leaves are numbers
numbers_of : (o : Order) (r : Regions) (o' : Order) (r' : Regions) → StoresLeaves o r o' r' → (o' ≡ o) × StoresNumbers o r r'
numbers_of o r _ _ none_stored = (refl, no_numbers)
numbers_of o r _ _ (stores b b' space at kind value before is) =
    let x = numbers_of o r b.order b.regions before in
    let y = subst (λ z. LeftIf b z) is (stored_left b space at kind value) in
    (y.order ∙ x.0, more_stored x.1 (subst (λ (z : Order). StoresNumbers z b.regions b'.regions) x.0 y.stored))

module _ {L : Type 0} (c : Conduct) (world : L → Option World) (faults : L → ℕ) (b : Behaviour) (side : SideRecord) (old new : Operators (Wire L)) (h : Host) (beside : Option Host) (there : IsThere b c (world old.memory.below.below.below.link) side h beside) where
  abbrev start : Operators (Wire L)
  start = turned side old

  abbrev seen : Wire L → Seen WireRest
  seen = seen_by c world faults

  abbrev rest : WireRest
  rest = rest_of side.which (order_of side.machine) h beside

  told : (seen start.memory.below.below.below).tells (memory_bytes (target_with start h.machine.memory)) rest
  told = target_told b c (world old.memory.below.below.below.link) side.which (order_of side.machine) h beside there.stands there.order

  -- numbers were stored
  pub stands_with : (order : Order) (regions : Regions) → StoresNumbers (order_of side.machine) h.machine.memory regions → (seen new.memory.below.below.below).tells (record { order = order; regions = regions; registers = no_places; cell = None }) rest
      → Stands b c side.which (world new.memory.below.below.below.link) (with_regions h regions) beside
  stands_with order regions w t =
      let wire = new.memory.below.below.below in
      stands_stored b c (world old.memory.below.below.below.link) side.which (order_of side.machine) h beside there.stands there.order (world wire.link) wire.side wire.order (record { order = order; regions = regions; registers = no_places; cell = None })
      (subst (λ (z : Order). StoresNumbers z h.machine.memory regions) there.order w) t

  pub stands_still : ToldStill seen (λ a o b. Unit {0}) 0 [] [] side.inquiry side.inquiry start new → Stands b c side.which (world new.memory.below.below.below.link) h beside
  stands_still h1 = let y = h1 h.machine.memory rest told in stands_with y.0 h.machine.memory no_numbers y.1

  -- it stands still, or the link failed
  pub looks_well : {A : Type 0} (r : Result A AskFault) → Looks seen (λ a o b. Unit {0}) 0 [] [] side.inquiry side.inquiry start new r
      → TalksWell (faults old.memory.below.below.below.link) (faults new.memory.below.below.below.link) (Stands b c side.which (world new.memory.below.below.below.link) h beside) r
  looks_well (Ok x) d = stands_still d
  looks_well (Err (Refused cause)) d = stands_still d
  looks_well (Err (Raised e)) d = stands_still d
  looks_well (Err Spent) d = stands_still d
  looks_well (Err NoMemory) d = stands_still d
  looks_well (Err (Broken LinkFault)) d = d
  looks_well (Err (Broken (BadReply bad))) d = d h.machine.memory rest told
  looks_well (Err (Broken (Outside p))) d = d

  -- leaves were stored
  changed : Changed seen start new → StoredThere b c (world new.memory.below.below.below.link) side h beside
  changed d =
      let y = d.after h.machine.memory rest told in
      let n = numbers_of start.memory.below.below.order h.machine.memory new.memory.below.below.order y.0 y.1 in
      record {
        regions = y.0;
        stores = subst (λ (z : Order). StoresNumbers z h.machine.memory y.0) there.order n.1;
        there = record { stands = stands_with new.memory.below.below.order y.0 n.1 y.2; context = there.context; target = there.target; order = there.order; names = record { breaks = there.names.breaks; words = there.names.words; kept = there.names.kept } };
      }

  pub leaves_well : (r : Result (Unit {0}) AskFault) → StoresAll seen start r new
      → TalksWell (faults old.memory.below.below.below.link) (faults new.memory.below.below.below.link) (StoredThere b c (world new.memory.below.below.below.link) side h beside) r
  leaves_well (Ok x) d = changed d
  leaves_well (Err (Raised e)) d = changed d
  leaves_well (Err (Broken LinkFault)) d = d
  leaves_well (Err (Broken (BadReply bad))) d = d.never h.machine.memory rest told
  leaves_well (Err (Broken (Outside p))) d = d
  leaves_well (Err (Refused cause)) d = absurd d
  leaves_well (Err Spent) d = absurd d
  leaves_well (Err NoMemory) d = absurd d
