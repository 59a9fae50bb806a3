-- What planting over a wire comes to.
use Rattle.std.proofs.Common.{◌≡◌, ◌∙◌, refl, sym, ap, subst, ℕ, List, map, Option, Some, None, Result, Ok, Err}
use Rattle.ldb_words.specs.declared.kinds.Order.{Order}
use Rattle.ldb_words.specs.declared.kinds.Kind.TheVariants.{Word}
use Rattle.ldb_words.specs.declared.event.Outside.{Outside}
use Rattle.machine_state.specs.Regions.{Regions, write_of}
use Rattle.machine_state.specs.State.{MachineState, Behaviour, order_of}
use Rattle.machine_state.specs.Sound.{IsMemory}
use Rattle.nub_wire.specs.declared.link.Side.{Side}
use Rattle.nub_wire.specs.Delivery.{Conduct, World}
use Rattle.nub_wire.specs.Nub.{Host}
use Rattle.nub_wire.specs.Fits.{begins}
use Rattle.frame_bytes.specs.declared.frame.Place.{Place}
use Rattle.frame_bytes.specs.declared.frame.Space.TheVariants.{Memory}
use Rattle.frame_bytes.specs.Bytes.{Bytes, bytes_of, stored, or_none, no_places}
use Rattle.abs_mem.specs.Meaning.{Seen}
use Rattle.abs_mem.specs.declared.memory.MemFault.TheVariants as mem
use Rattle.abs_mem.specs.WireMeaning.{WireRest, memory_of, WireTells, wire_seen}
use Rattle.resuming.specs.Standing.{Stands}
use Rattle.table_points.specs.declared.row.Point.{Point}
use Rattle.break_plant.specs.Planted.{noop_of, break_of, word_at}
use Rattle.debug_side.specs.declared.event.Event.{Event}
use Rattle.debug_side.specs.Meant.{address_of}
use Rattle.debug_side.specs.Wrote.{Writes, none_written, writes, Wrote, words_put}
use Rattle.debug_side.specs.Told.{with_regions, its_event}
use Rattle.debug_side.specs.Planting.{PutsWords, at_none, is_put, is_passed, MeetsNone, is_outside, behind_put, behind_passed, PlantsAll}
use Rattle.debug_side.proofs.Told.{put_stands}
use Rattle.side_meaning.specs.Telling.{MemoriesAreTold, PlantsAreTold, ClearsAreTold, Keeps, ResumesAreTold}
use Rattle.side_meaning.proofs.Resuming.{put_back, stored_is}
use Rattle.side_meaning.proofs.Stepping.{read_is}

some_is : {T : Type 0} {x y : T} → Some x ≡ Some y → x ≡ y
some_is e = cc

-- ---- one word

written_by : (b c : Bytes) (x : Result Regions Outside) → put_back b (or_none x) ≡ Some c → x ≡ Ok c.regions
written_by b c (Ok r) e = ap (λ (z : Bytes). Ok z.regions) (some_is e)
written_by b c (Err f) e = cc

whole_by : (b c : Bytes) (o : Option Regions) → put_back b o ≡ Some c → c ≡ record b { regions = c.regions }
whole_by b c None e = cc
whole_by b c (Some r) e = sym (some_is e) ∙ ap (λ (z : Bytes). record b { regions = z.regions }) (some_is e)

-- the same memory with other registers and another cell
abbrev beside : List (Option ℕ) → Option ℕ → Bytes → Bytes
beside x y b = record b { registers = x; cell = y }

beside_by : (x : List (Option ℕ)) (y : Option ℕ) (b c : Bytes) (o : Option Regions) → put_back b o ≡ Some c → put_back (beside x y b) o ≡ Some (beside x y c)
beside_by x y b c None e = cc
beside_by x y b c (Some r) e = ap (λ (z : Bytes). Some (beside x y z)) (some_is e)

module _ (b c : Bytes) (at w : ℕ) (e : stored b Memory at Word w ≡ Some c) where
  is_back : put_back b (or_none (write_of b.order b.regions at 4 w)) ≡ Some c
  is_back = sym (stored_is b at w) ∙ e

  is_written : write_of b.order b.regions at 4 w ≡ Ok c.regions
  is_written = written_by b c (write_of b.order b.regions at 4 w) is_back

  is_whole : c ≡ record b { regions = c.regions }
  is_whole = whole_by b c (or_none (write_of b.order b.regions at 4 w)) is_back

  is_beside : (x : List (Option ℕ)) (y : Option ℕ) → stored (beside x y b) Memory at Word w ≡ Some (beside x y c)
  is_beside x y = stored_is (beside x y b) at w ∙ beside_by x y b c (or_none (write_of b.order b.regions at 4 w)) is_back

same_word : (x : List (Option ℕ)) (y : Option ℕ) (b : Bytes) (at : ℕ) → word_at (beside x y b) at ≡ word_at b at
same_word x y b at = read_is (beside x y b) at ∙ sym (read_is b at)

-- ---- all words

before : (o : Order) (r s t : Regions) (at w : ℕ) → write_of o r at 4 w ≡ Ok s → Writes o s t → Writes o r t
before o r s t at w e none_written = writes at w none_written e
before o r s t at w e (writes {s = u} place v more is) = writes place v (before o r s u at w e more) is

puts_whole : (target : ℕ) (b d : Bytes) (ps kept : List Point) → PutsWords target b ps kept d → d ≡ record b { regions = d.regions }
puts_whole target b d ps kept at_none = refl
puts_whole target b d ps kept (is_passed {ps = qs} p w there differs rest) = puts_whole target b d qs kept rest
puts_whole target b d ps kept (is_put {c = c} {ps = qs} {kept = ks} p was put rest) =
    puts_whole target c d qs ks rest ∙ ap (λ (z : Bytes). record z { regions = d.regions }) (is_whole b c p.at (break_of target) put)

puts_written : (target : ℕ) (b d : Bytes) (ps kept : List Point) → PutsWords target b ps kept d → Writes b.order b.regions d.regions
puts_written target b d ps kept at_none = none_written
puts_written target b d ps kept (is_passed {ps = qs} p w there differs rest) = puts_written target b d qs kept rest
puts_written target b d ps kept (is_put {c = c} {ps = qs} {kept = ks} p was put rest) =
    before b.order b.regions c.regions d.regions p.at (break_of target) (is_written b c p.at (break_of target) put)
    (subst (λ (o : Order). Writes o c.regions d.regions) (ap (λ (z : Bytes). z.order) (is_whole b c p.at (break_of target) put)) (puts_written target c d qs ks rest))

puts_beside : (x : List (Option ℕ)) (y : Option ℕ) (target : ℕ) (b d : Bytes) (ps kept : List Point) → PutsWords target b ps kept d → PutsWords target (beside x y b) ps kept (beside x y d)
puts_beside x y target b d ps kept at_none = at_none
puts_beside x y target b d ps kept (is_passed {ps = qs} p w there differs rest) = is_passed p w (same_word x y b p.at ∙ there) differs (puts_beside x y target b d qs kept rest)
puts_beside x y target b d ps kept (is_put {c = c} {ps = qs} {kept = ks} p was put rest) =
    is_put p (same_word x y b p.at ∙ was) (is_beside b c p.at (break_of target) put x y) (puts_beside x y target c d qs ks rest)

-- ---- over a wire

abbrev Planted : ℕ → (points kept : List Point) → Bytes → Regions → Type 0
Planted target points kept z r = PutsWords target z points kept (record z { regions = r })

plants_wrote : {R : Type 0} (target : ℕ) (points kept : List Point) (s s' : Seen R) → PlantsAll target points s (Ok tt) kept s' → Wrote s s' (Planted target points kept)
plants_wrote {R = R} target points kept s s' p = record {
  faults = p.0;
  after = λ (z : Bytes) (r : R) t.
      let y = p.1 z r t in
      let whole : y.0 ≡ record z { regions = y.0.regions } = puts_whole target z y.0 points kept y.1 in
      (y.0.regions, puts_written target z y.0 points kept y.1, subst (PutsWords target z points kept) whole y.1, subst (λ (d : Bytes). s'.tells d r) whole y.2);
}

pub memories : MemoriesAreTold
memories b c side o h beside x = (x.fits.machine h.machine begins).memory

pub plants : PlantsAreTold
plants b c side side' o o' f f' order order' h other target points kept x same p =
    let P : Bytes → Regions → Type 0 = Planted target points kept in
    let y = put_stands b c o side order h other x same f f' side' order' o' P (plants_wrote target points kept (wire_seen c o f side order) (wire_seen c o' f' side' order') p) in
    let m : MachineState = h.machine in
    (y.regions, puts_beside no_places (Some 0) target (memory_of m) (record (memory_of m) { regions = y.regions }) points kept y.put, y.stands, y.order_is)

-- ---- where an address is outside

meets_beside : (x : List (Option ℕ)) (y : Option ℕ) (target : ℕ) (b : Bytes) (ps : List Point) → MeetsNone target b ps → MeetsNone target (beside x y b) ps
meets_beside x y target b ps (is_outside p none) = is_outside p (same_word x y b p.at ∙ none)
meets_beside x y target b ps (behind_put {c = c} {ps = qs} p was put rest) = behind_put p (same_word x y b p.at ∙ was) (is_beside b c p.at (break_of target) put x y) (meets_beside x y target c qs rest)
meets_beside x y target b ps (behind_passed {ps = qs} p w there differs rest) = behind_passed p w (same_word x y b p.at ∙ there) differs (meets_beside x y target b qs rest)

told_memory : (c : Conduct) (o : Option World) (side : Side) (order : Order) (z : Bytes) (r : WireRest) → WireTells c o side order z r → IsMemory z.regions
told_memory c o side order z r t = subst (λ (y : Bytes). IsMemory y.regions) (sym t.bytes_are) t.holds

abbrev Unplanted : ℕ → (points : List Point) → Bytes → Regions → Type 0
Unplanted target points z r = MeetsNone target z points × (r ≡ z.regions)

module _ (b : Behaviour) (c : Conduct) (side side' : Side) (o o' : Option World) (f f' : ℕ) (order order' : Order) (h : Host) (other : Option Host) (target : ℕ) (points left : List Point) (place : Place) where
  none_wrote : PlantsAll target points (wire_seen c o f side order) (Err (mem.Outside place)) left (wire_seen c o' f' side' order') → Wrote (wire_seen c o f side order) (wire_seen c o' f' side' order') (Unplanted target points)
  none_wrote p = record {
    faults = p.0;
    after = λ (z : Bytes) (r : WireRest) t.
        let y = p.1 z r t in
        (z.regions, none_written, (y.0, refl), y.1 (told_memory c o side order z r t));
  }

  -- no word of a step is put, and the side stands as it stood
  pub outsides : Stands b c side o h other → order ≡ order_of h.machine → PlantsAll target points (wire_seen c o f side order) (Err (mem.Outside place)) left (wire_seen c o' f' side' order')
      → MeetsNone target (bytes_of h.machine) points × Stands b c side o' h other × (order' ≡ order)
  outsides x same p =
      let y = put_stands b c o side order h other x same f f' side' order' o' (Unplanted target points) (none_wrote p) in (
        meets_beside no_places (Some 0) target (memory_of h.machine) points y.put.0,
        subst (λ (r : Regions). Stands b c side o' (with_regions h r) other) y.put.1 y.stands,
        y.order_is,
      )

-- ---- where words are taken away

pub clears : ClearsAreTold
clears b c side side' o o' f f' order order' h other target words x same p =
    let P : Bytes → Regions → Type 0 = λ (z : Bytes) r. r ≡ words_put z.order (noop_of target) (map address_of words) z.regions in
    let y = put_stands b c o side order h other x same f f' side' order' o' P p in
    (subst (λ (r : Regions). Stands b c side o' (with_regions h r) other) y.put y.stands, y.order_is)

pub resumed : ResumesAreTold
resumed b c side kind limit all e d other frame row o order taken taken' came k =
    let there : Event = its_event b kind d.row limit d.host in
    let same : Keeps all there d frame row = subst (λ (x : Event). Keeps all x d frame row) came.0 k in (
      record {
        table = refl;
        frame = same.frame_is;
        host = refl;
        breaks = same.breaks;
        stands_at = same.stands_at;
        words = same.words;
        stay = same.stay;
        kept = same.kept;
        own = same.own;
      },
      came.2,
      came.1,
    )
