-- What stands at breakpoints of a side at rest is read, and put back.
use Rattle.std.proofs.Common.{◌≡◌, ◌≢◌, ◌∙◌, refl, sym, subst, ℕ, List, [], map, Option, Result, Ok, Err}
use Rattle.ldb_words.specs.declared.kinds.Order.{Order}
use Rattle.machine_state.specs.Regions.{Regions}
use Rattle.machine_state.specs.State.{Behaviour, order_of as machine_order}
use Rattle.nub_wire.specs.declared.link.Side.{Side}
use Rattle.nub_wire.specs.Nub.{Host}
use Rattle.nub_wire.specs.Delivery.{Conduct, World}
use Rattle.frame_bytes.specs.Bytes.{Bytes}
use Rattle.abs_mem.specs.Meaning.{Seen, Same, OnTold}
use Rattle.abs_mem.specs.WireMeaning.{WireRest, wire_seen, memory_of}
use Rattle.abs_mem.specs.declared.wire.Wire.{Wire}
use Rattle.ps_ops.specs.declared.dialect.Operators.{Operators}
use Rattle.wire_talk.specs.declared.fault.TalkFault.{TalkFault}
use Rattle.wire_talk.specs.declared.fault.TalkFault.TheVariants as talk
use Rattle.table_points.specs.declared.row.Point.{Point}
use Rattle.break_plant.specs.Planted.{noop_of}
use Rattle.debug_side.specs.Meant.{address_of}
use Rattle.debug_side.specs.Wrote.{none_written, Wrote, Puts, words_put}
use Rattle.debug_side.specs.There.{words_at, all_there, AreRead, FailsToRead}
use Rattle.debug_side.specs.Told.{with_regions}
use Rattle.debug_side.specs.declared.there.WordThere.{WordThere}
use Rattle.debug_side.specs.declared.there.ReadFault.{ReadFault}
use Rattle.debug_side.specs.declared.there.ReadFault.TheVariants as read
use Rattle.debug_side.proofs.Told.{put_stands, never_bad}
use Rattle.resuming.specs.Standing.{Stands}
use Rattle.session.specs.declared.sides.SideRecord.{SideRecord}
use Rattle.session.specs.Turned.{order_of, turned}
use Rattle.c_session.specs.declared.command.Spot.{Spot}
use Rattle.c_session.specs.declared.command.Command.{Command}
use Rattle.c_session.specs.declared.command.Command.TheVariants as command
use Rattle.session.specs.Undoing.{unread, words_before, undone_host, ReadsBefore, PutsBack, IsGivenUp, wanting}
use Rattle.session.proofs.Asking.{seen_by}

-- no word was written
still_wrote : {R : Type 0} (Q : Bytes → Type 0) (s s' : Seen R) → Same s s' → OnTold s Q → Wrote s s' (λ b r. (r ≡ b.regions) × Q b)
still_wrote {R = R} Q s s' h k = record { faults = h.faults; after = λ (b : Bytes) (r : R) t. (b.regions, none_written, (refl, k.holds b r t), h.keeps b r t) }

nothing_told : {R : Type 0} (s : Seen R) → OnTold s (λ b. Unit {0})
nothing_told {R = R} s = record { holds = λ (b : Bytes) (r : R) t. tt }

module _ {L : Type 0} (c : Conduct) (world : L → Option World) (faults : L → ℕ) (b : Behaviour) (side : SideRecord) (old t : Operators (Wire L)) (new : Wire L) (e : t ≡ turned side old)
    (h : Host) (beside : Option Host) (x : Stands b c side.which (world old.memory.below.below.below.link) h beside) (same : order_of side.machine ≡ machine_order h.machine) where
  abbrev f : ℕ
  f = faults old.memory.below.below.below.link

  abbrev f1 : ℕ
  f1 = faults new.link

  abbrev start : Seen WireRest
  start = seen_by c world faults t.memory.below.below.below

  abbrev end : Seen WireRest
  end = seen_by c world faults new

  abbrev StandsWith : Regions → Type 0
  StandsWith r = Stands b c side.which (world new.link) (with_regions h r) beside

  wrote : (P : Bytes → Regions → Type 0) → Wrote start end P → (f1 ≡ f) × (r : Regions) × P (memory_of h.machine) r × StandsWith r
  wrote P w =
      let v = subst (λ (z : Operators (Wire L)). Wrote (seen_by c world faults z.memory.below.below.below) end P) e w in
      let y = put_stands b c (world old.memory.below.below.below.link) side.which (order_of side.machine) h beside x same f f1 new.side new.order (world new.link) P v in
      (v.faults, y.regions, y.put, y.stands)

  still : (Q : Bytes → Type 0) → Same start end → OnTold start Q → (f1 ≡ f) × Stands b c side.which (world new.link) h beside × Q (memory_of h.machine)
  still Q s k =
      let y = wrote (λ z r. (r ≡ z.regions) × Q z) (still_wrote Q start end s k) in
      (y.0, subst StandsWith y.2.0 y.3, y.2.1)

  never : (P : Bytes → Regions → Type 0) (frame : _) → Puts start (Err (talk.BadReply frame)) P end → ⊥
  never P frame w =
      never_bad b c (world old.memory.below.below.below.link) side.which (order_of side.machine) h beside x same f f1 new.side new.order (world new.link) P frame
      (subst (λ (z : Operators (Wire L)). Puts (seen_by c world faults z.memory.below.below.below) (Err (talk.BadReply frame)) P end) e w)

  -- they are read
  abbrev Stays : Type 0
  Stays = Stands b c side.which (world new.link) h beside

  pub reads : (ps : List Point) (ws : List WordThere) → AreRead ps ws start end → ReadsBefore f f1 Stays (words_at (memory_of h.machine) ps) (Ok ws)
  reads ps ws w = still (λ z. ws ≡ words_at z ps) w.0 w.1

  pub not_read : (fault : ReadFault) (words : List WordThere) → FailsToRead fault start end → ReadsBefore f f1 Stays words (Err (unread fault))
  not_read read.NoMemory words w = let y = still (λ z. Unit {0}) w (nothing_told start) in (y.0, y.1)
  not_read (read.Talk talk.LinkFault) words w = subst (λ (z : Operators (Wire L)). FailsToRead (read.Talk talk.LinkFault) (seen_by c world faults z.memory.below.below.below) end) e w
  not_read (read.Talk (talk.BadReply frame)) words w = never (λ z r. Unit {0}) frame w

  -- they are put back
  pub puts_back : (G : Bytes → Regions) (r : Result (Unit {0}) TalkFault) → Puts start r (λ z m. m ≡ G z) end → PutsBack f f1 (StandsWith (G (memory_of h.machine))) r
  puts_back G (Ok u) w = let y = wrote (λ z m. m ≡ G z) w in (y.0, subst StandsWith y.2 y.3)
  puts_back G (Err talk.LinkFault) w = subst (λ (z : Operators (Wire L)). Puts (seen_by c world faults z.memory.below.below.below) (Err talk.LinkFault) (λ z m. m ≡ G z) end) e w
  puts_back G (Err (talk.BadReply frame)) w = never (λ z m. m ≡ G z) frame w

-- so it is given up
pub gives : (f g : ℕ) (D : Type 0) (r : Result (Unit {0}) TalkFault) → PutsBack f g D r → IsGivenUp f g D (wanting r)
gives f g D (Ok u) w = w.1
gives f g D (Err talk.LinkFault) w = w
gives f g D (Err (talk.BadReply frame)) w = absurd w

-- nothing is read for another command
pub nothing_before : {S : Type 0} (f : ℕ) (ws : List WordThere) (now : Command) → ((spot : Spot) → now ≢ command.Clear spot) → (b : Bytes) (ps : List Point) → ws ≡ [] → S → ReadsBefore f f S (words_before now b ps) (Ok ws)
nothing_before f ws (command.Clear spot) n b ps e x = absurd (n spot refl)
nothing_before f ws now n b ps e x = (refl, x, e)

-- what is put back, as the code has it
module _ {L : Type 0} (c : Conduct) (world : L → Option World) (faults : L → ℕ) (b : Behaviour) (side : SideRecord) (old t : Operators (Wire L)) (new : Wire L) (e : t ≡ turned side old)
    (h : Host) (beside : Option Host) (x : Stands b c side.which (world old.memory.below.below.below.link) h beside) (same : order_of side.machine ≡ machine_order h.machine) (r : Result (Unit {0}) TalkFault) (target : ℕ) (added : List Point) (words : List WordThere) where
  abbrev Undoes : Command → ℕ → List Point → Type 0
  Undoes now n ps = PutsBack (faults old.memory.below.below.below.link) (faults new.link) (Stands b c side.which (world new.link) (undone_host now n ps words h) beside) r

  pub break_back : (now : Command) (spot : Spot) → now ≡ command.Break spot → (n : ℕ) (ps : List Point) → n ≡ target → ps ≡ added
      → Puts (seen_by c world faults t.memory.below.below.below) r (λ z m. m ≡ words_put z.order (noop_of n) (map address_of ps) z.regions) (seen_by c world faults new) → Undoes now target added
  break_back now spot is n ps e1 e2 w =
      subst (λ (k : Command). Undoes k target added) (sym is)
      (subst (λ (m : ℕ). Undoes (command.Break spot) m added) e1
      (subst (λ (l : List Point). Undoes (command.Break spot) n l) e2 (puts_back c world faults b side old t new e h beside x same (λ z. words_put z.order (noop_of n) (map address_of ps) z.regions) r w)))

  pub clear_back : (now : Command) (spot : Spot) → now ≡ command.Clear spot
      → Puts (seen_by c world faults t.memory.below.below.below) r (λ z m. m ≡ all_there z.order words z.regions) (seen_by c world faults new) → Undoes now target added
  clear_back now spot is w = subst (λ (k : Command). Undoes k target added) (sym is) (puts_back c world faults b side old t new e h beside x same (λ z. all_there z.order words z.regions) r w)
