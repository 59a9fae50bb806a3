-- A side over nubs that meet their definition: its memory, its words and its run.
use Rattle.std.proofs.Common.{◌≡◌, ◌∙◌, refl, sym, ap, subst, ℕ, zero, suc, nat_eq, Bool, true, false, if◌then◌else◌, Option, Some, Result, Err, inr}
use Rattle.ldb_words.specs.declared.kinds.Order.{Order}
use Rattle.ldb_words.specs.declared.event.Event.{Event}
use Rattle.ldb_words.specs.declared.event.Event.TheVariants as event
use Rattle.ldb_words.specs.declared.event.Outside.{Outside}
use Rattle.machine_state.specs.Regions.{Regions}
use Rattle.machine_state.specs.Sound.{IsMemory}
use Rattle.machine_state.specs.State.{MachineState, Behaviour, order_of, with_memory}
use Rattle.machine_state.specs.Runs.{Ran, Turn, Goes, Ends, requested, answered, turn_by, met, run_of}
use Rattle.nub_wire.specs.declared.link.Side.{Side}
use Rattle.nub_wire.specs.Nub.{NubState, Host, host}
use Rattle.nub_wire.specs.Delivery.{Conduct, World, side_of}
use Rattle.nub_wire.specs.Rest.{other}
use Rattle.nub_wire.specs.AtOnce.{MeetsMemory}
use Rattle.nub_wire.specs.Fits.{Reached, begins, stepped, saved, restored, taken, stored, given, TellsFitting}
use Rattle.nub_wire.specs.Resumes.{run_from}
use Rattle.frame_bytes.specs.Bytes.{Bytes}
use Rattle.abs_mem.specs.WireMeaning.{WireRest, IsBeside, memory_of, rest_of, WireTells, wire_seen}
use Rattle.wire_talk.specs.declared.fault.TalkFault.TheVariants as talk
use Rattle.resuming.specs.Standing.{Stands}
use Rattle.debug_side.specs.Wrote.{Writes, none_written, writes, Wrote, Puts}
use Rattle.debug_side.specs.Told.{KeepsOrder, with_regions}

-- ---- machines that are reached

pub reached_from : {b : Behaviour} {m k n : MachineState} → Reached b m k → Reached b k n → Reached b m n
reached_from r begins = r
reached_from r (stepped x) = stepped (reached_from r x)
reached_from r (saved x) = saved (reached_from r x)
reached_from r (restored x) = restored (reached_from r x)
reached_from r (taken x) = taken (reached_from r x)
reached_from r (stored at width value w x) = stored at width value w (reached_from r x)
reached_from r (given bytes each x) = given bytes each (reached_from r x)

-- by words that are written one after another
pub written : (b : Behaviour) (m : MachineState) (r r' : Regions) → Writes (order_of m) r r' → r ≡ m.memory → Reached b m (record m { memory = r' })
written b m r r' none_written e = subst (λ (x : Regions). Reached b m (record m { memory = x })) (sym e) begins
written b m r r' (writes {s = s} at word before wrote) e =
    subst (λ (x : Result Regions Outside). Reached b m (with_memory x (record m { memory = s })).1) wrote (stored at 4 word (inr (inr refl)) (written b m r s before e))

module _ (b : Behaviour) (m : MachineState) where
  abbrev TurnReached : Turn → Type 0
  TurnReached (Goes byte n) = Reached b m n
  TurnReached (Ends c n) = Reached b m n

  either : (t : Bool) (x y : Turn) → TurnReached x → TurnReached y → TurnReached (if t then x else y)
  either true x y p q = p
  either false x y p q = q

  request_reached : (k : ℕ) (n : MachineState) → Reached b m n → TurnReached (requested b k n)
  request_reached k n r =
      either (nat_eq k 2) _ _ (taken r) (either (nat_eq k 3) _ _ r (either (nat_eq k 4) _ _ r (either (nat_eq k 5) _ _ r r)))

  answer_reached : (x : Event × MachineState) → Reached b m x.1 → TurnReached (answered b x)
  answer_reached (event.Went, n) r = r
  answer_reached (event.Break, n) r = r
  answer_reached (event.Request k, n) r = request_reached k n r
  answer_reached (event.Fault kind, n) r = r

  turn_reached : (n : MachineState) → Reached b m n → TurnReached (turn_by b n)
  unfolding turn_by
  turn_reached n r = answer_reached (b.next n) (stepped r)

  met_reached : (more : MachineState → Ran) → ((n : MachineState) → Reached b m n → Reached b m (more n).machine) → (t : Turn) → TurnReached t → Reached b m (met more t).machine
  met_reached more all (Goes byte n) r = all n r
  met_reached more all (Ends c n) r = r

  ran_reached : (turns : ℕ) (n : MachineState) → Reached b m n → Reached b m (run_of b turns n).machine
  unfolding run_of
  ran_reached zero n r = r
  ran_reached (suc k) n r = met_reached (run_of b k) (λ (x : MachineState) y. ran_reached k x y) (turn_by b n) (turn_reached n r)

  pub run_reached : (turns : ℕ) (n : MachineState) → Reached b m n → Reached b m (run_from b turns n).machine
  run_reached turns n r = saved (ran_reached turns (b.restored n) (restored r))

pub keeps_on : (b : Behaviour) (m n : MachineState) → KeepsOrder b m → Reached b m n → KeepsOrder b n
keeps_on b m n k r = λ (x : MachineState) y. k x (reached_from r y) ∙ sym (k n r)

-- ---- the memory that a wire tells

machine_same : (m n : MachineState) (r : Regions) (none : Regions) → record m { memory = none } ≡ record n { memory = none } → r ≡ n.memory → n ≡ record m { memory = r }
machine_same m n r none e f = ap (λ (k : MachineState). record k { memory = n.memory }) (sym e) ∙ ap (λ (x : Regions). record m { memory = x }) (sym f)

host_same : (g : Host) (nub : NubState) (m : MachineState) → g.nub ≡ nub → g.machine ≡ m → g ≡ host nub m
host_same g nub m e f = ap (λ (x : NubState). host x g.machine) e ∙ ap (host nub) f

module _ (b : Behaviour) (c : Conduct) (o : Option World) (side : Side) (order : Order) (h : Host) (beside : Option Host) (x : Stands b c side o h beside) (same : order ≡ order_of h.machine) where
  meets : MeetsMemory c
  meets = subst MeetsMemory (sym x.conduct) (record { fetches = λ at s g. refl; stores = λ at s v g. refl })

  tells : WireTells c o side order (memory_of h.machine) (rest_of side order h beside)
  tells = record {
    meets = meets;
    world = x.world;
    told = x.told;
    now = x.now;
    there = x.there;
    rest = x.rest;
    holds = subst (λ (g : Host). IsMemory g.machine.memory) (sym x.host_is) (x.fits.machine h.machine begins).memory;
    order_is = same ∙ ap (λ (g : Host). order_of g.machine) (sym x.host_is);
    bytes_are = ap (λ (g : Host). memory_of g.machine) (sym x.host_is);
    rest_is = ap (λ (g : Host). rest_of side order g beside) (sym x.host_is);
    beside = x.beside_is;
  }

  fits_written : (m : Regions) → Writes (order_of h.machine) h.machine.memory m → TellsFitting b (with_regions h m)
  fits_written m w = record { machine = λ (k : MachineState) y. x.fits.machine k (reached_from (written b h.machine h.machine.memory m w refl) y); ended = x.fits.ended }

  stands : (o' : Option World) (side' : Side) (order' : Order) (m : Regions) → Writes (order_of h.machine) h.machine.memory m
      → WireTells c o' side' order' (record (memory_of h.machine) { regions = m }) (rest_of side order h beside) → Stands b c side o' (with_regions h m) beside
  stands o' side' order' m w t =
      let side_is : side' ≡ side = sym (ap (λ (r : WireRest). r.side) t.rest_is) in
      record {
        conduct = x.conduct;
        world = t.world;
        told = t.told;
        now = t.now;
        there = subst (λ (s : Side). side_of s t.world ≡ Some t.now) side_is t.there;
        rest = t.rest;
        host_is = host_same t.now.host h.nub (record h.machine { memory = m }) (sym (ap (λ (r : WireRest). r.nub) t.rest_is))
            (machine_same h.machine t.now.host.machine m _ (ap (λ (r : WireRest). r.machine) t.rest_is) (ap (λ (z : Bytes). z.regions) t.bytes_are));
        fits = fits_written m w;
        beside_is = subst (λ (s : Side). IsBeside (side_of (other s) t.world) beside) side_is t.beside;
      }

  -- What a call that puts words leaves: the side stands with them, and its order is as it was.
  pub record StandsWith (P : Bytes → Regions → Type 0) (o' : Option World) (order' : Order) : Type 0 where
    pub regions : Regions
    pub put : P (memory_of h.machine) regions
    pub stands : Stands b c side o' (with_regions h regions) beside
    pub order_is : order' ≡ order
    pub reached : Reached b h.machine (record h.machine { memory = regions })

  pub put_stands : (f f' : ℕ) (side' : Side) (order' : Order) (o' : Option World) (P : Bytes → Regions → Type 0) → Wrote (wire_seen c o f side order) (wire_seen c o' f' side' order') P → StandsWith P o' order'
  put_stands f f' side' order' o' P wrote =
      let y = wrote.after (memory_of h.machine) (rest_of side order h beside) tells in
      record {
        regions = y.0;
        put = y.2;
        stands = stands o' side' order' y.0 y.1 y.3;
        order_is = sym (ap (λ (r : WireRest). r.order) y.3.rest_is);
        reached = written b h.machine h.machine.memory y.0 y.1 refl;
      }

  pub never_bad : (f f' : ℕ) (side' : Side) (order' : Order) (o' : Option World) (P : Bytes → Regions → Type 0) (frame : _) → Puts (wire_seen c o f side order) (Err (talk.BadReply frame)) P (wire_seen c o' f' side' order') → ⊥
  never_bad f f' side' order' o' P frame bad = bad.never (memory_of h.machine) (rest_of side order h beside) tells
