-- A session that starts over one image or two, and their tables.
use Rattle.std.proofs.Common.{◌≡◌, ◌⊎◌, ℕ, nat_eq, Bool, true, false, if◌then◌else◌, ◌&&◌, List, [], ◌∷◌, codes, Option, None, Some, Result, Ok, Err, inl, inr, refl, sym, ap, ◌∙◌, subst}
use Rattle.std.proofs.lemmas.Bool.{eqb-true, false≢true}
use Rattle.std.specs.Prelude.{bytes_eq, pos}
use Rattle.ldb_edge.proofs.Maps.{equal_bytes}
use Rattle.ldb_words.specs.declared.event.FaultKind.{FaultKind}
use Rattle.machine_state.specs.declared.layout.TheConstants.{MIPS, SPARC}
use Rattle.machine_state.specs.Regions.{Regions}
use Rattle.machine_state.specs.State.{MachineState}
use Rattle.mips_isa.specs.Loaded as mips
use Rattle.mips_isa.specs.Loaded.{mips_behaviour}
use Rattle.sparc_isa.specs.Loaded as sparc
use Rattle.sparc_isa.specs.Loaded.{sparc_behaviour, with_block, saved_state}
use Rattle.sparc_isa.specs.Windows.{flushed, flush_of, with_invalid}
use Rattle.obj_file.specs.Image.{ImageFields}
use Rattle.targets.specs.Targets.{machine_behaviour, loaded}
use Rattle.nub_wire.specs.declared.link.Entry.{Entry}
use Rattle.nub_wire.specs.declared.link.Side.{Side}
use Rattle.nub_wire.specs.declared.link.Side.TheVariants.{First, Second}
use Rattle.nub_wire.specs.Nub.{Host, first_host}
use Rattle.nub_wire.specs.Delivery.{LinkSide, World, side_of}
use Rattle.nub_wire.specs.Rest.{other}
use Rattle.abs_mem.specs.WireMeaning.{IsBeside}
use Rattle.nub_wire.specs.Fits.{TellsFitting}
use Rattle.near_link.specs.Fitting.{IsReady, FreshSidesAreReady}
use Rattle.near_link.specs.Near.{near_conduct, Begins, BeginsSide}
use Rattle.ps_store.specs.declared.object.DictId.{DictId}
use Rattle.ps_store.specs.declared.object.PsObj.{PsObj}
use Rattle.ps_store.specs.declared.object.PsObj.TheVariants as obj
use Rattle.ps_store.specs.StoreState.{StoreState}
use Rattle.ps_store.specs.Store.{bytes_of}
use Rattle.ps_step.specs.Results.{◌>>=◌}
use Rattle.table_model.specs.Reading.{or_missing, string_in, string_at}
use Rattle.table_run.specs.Shape.{HasShape, is_number, is_text, target_text, value_in}
use Rattle.session.specs.Starting.{target_by, target_in, IsFirst, AreFirst}

-- ---- the machine

-- what a save leaves of a machine's target and input
record Stays (m n : MachineState) : Type 0 where
  given : n.given ≡ m.given
  target : n.target ≡ m.target

mips_stays : (m : MachineState) → Stays m (mips_behaviour.saved m).1
unfolding mips.saved_state
mips_stays m = record { given = refl; target = refl }

flushed_stays : (r : Result Regions FaultKind) (m : MachineState) → Stays m (flushed r m).1
unfolding with_invalid
flushed_stays (Err kind) m = record { given = refl; target = refl }
flushed_stays (Ok r) m = record { given = refl; target = refl }

block_stays : (m n : MachineState) → Stays m n → Stays m (with_block n)
unfolding with_block
block_stays m n s = record { given = s.given; target = s.target }

sparc_stays : (m : MachineState) → Stays m (sparc_behaviour.saved m).1
unfolding saved_state flush_of
sparc_stays m = block_stays m (flush_of m).1 (flushed_stays _ m)

saved_by : (b : Bool) (m : MachineState) → Stays m ((if b then sparc_behaviour else mips_behaviour).saved m).1
saved_by true m = sparc_stays m
saved_by false m = mips_stays m

saved_stays : (m : MachineState) → Stays m (machine_behaviour.saved m).1
saved_stays m = saved_by (nat_eq m.target SPARC) m

either_target : (b : Bool) (x y : MachineState) (target : ℕ) → (b ≡ true → x.target ≡ target) → (b ≡ false → y.target ≡ target) → (if b then x else y).target ≡ target
either_target true x y target p q = p refl
either_target false x y target p q = q refl

other_target : (target : ℕ) → (target ≡ MIPS) ⊎ (target ≡ SPARC) → nat_eq target SPARC ≡ false → MIPS ≡ target
other_target target (inl e) n = sym e
other_target target (inr e) n = absurd (false≢true (sym n ∙ ap (λ t. nat_eq t SPARC) e))

loaded_target : (i : ImageFields) → (i.target ≡ MIPS) ⊎ (i.target ≡ SPARC) → (loaded i).target ≡ i.target
unfolding loaded mips.first_state sparc.first_state
loaded_target i known = either_target (nat_eq i.target SPARC) _ _ i.target (λ e. sym (eqb-true i.target SPARC e)) (other_target i.target known)

-- ---- its table

and_left : (a b : Bool) → (a && b) ≡ true → a ≡ true
and_left true b e = refl
and_left false b e = e

and_right : (a b : Bool) → (a && b) ≡ true → b ≡ true
and_right true b e = e
and_right false b e = absurd (false≢true e)

-- the text of a target tells it
by_text : (text : List ℕ) (target : ℕ) → (target ≡ MIPS) ⊎ (target ≡ SPARC) → bytes_eq text (target_text target) ≡ true → (if bytes_eq text (codes "sparc") then SPARC else MIPS) ≡ target
by_text text target (inl k) e = ap (λ x. if bytes_eq x (codes "sparc") then SPARC else MIPS) (equal_bytes text (target_text target) e ∙ ap target_text k) ∙ sym k
by_text text target (inr k) e = ap (λ x. if bytes_eq x (codes "sparc") then SPARC else MIPS) (equal_bytes text (target_text target) e ∙ ap target_text k) ∙ sym k

value_names : (s : StoreState) (target : ℕ) (o : Option PsObj) → (target ≡ MIPS) ⊎ (target ≡ SPARC) → is_text s (target_text target) o ≡ true → target_by s (or_missing o >>= string_in) ≡ target
value_names s target (Some (obj.Str t x)) known e = by_text (bytes_of s t) target known e
value_names s target o known e = absurd (false≢true e)

table_target : (s : StoreState) (target : ℕ) → (target ≡ MIPS) ⊎ (target ≡ SPARC) → HasShape s target → target_in s ≡ target
table_target s target known shape =
    let behind = and_right (is_number (pos 1) (value_in s shape.top (codes "ldb"))) _ shape.entries in
    let named : is_text s (target_text target) (value_in s shape.top (codes "target")) ≡ true = and_left _ _ behind in
    ap (λ (o : Option DictId). target_by s (or_missing o >>= λ top. string_at s top (codes "target"))) shape.top_is ∙ value_names s target (value_in s shape.top (codes "target")) known named

-- ---- the start

host_of : (i : ImageFields) (s : LinkSide) → BeginsSide i s → s.host ≡ first_host machine_behaviour (loaded i)
host_of i s fresh = ap (λ (x : LinkSide). x.host) fresh.0.side_is

-- a side of a new link, beside this host if it is named
fresh_is : (i : ImageFields) (w : World) (side : Side) (now : LinkSide) (beside : Option Host) (table : StoreState) → FreshSidesAreReady → BeginsSide i now → side_of side w ≡ Some now → IsBeside (side_of (other side) w) beside
    → (i.target ≡ MIPS) ⊎ (i.target ≡ SPARC) → HasShape table i.target → IsFirst machine_behaviour near_conduct (Some w) side (loaded i) beside table
fresh_is i w side now beside table ready fresh there idle known shape =
    let at_rest : IsReady now = ready i now fresh in
    let saved : Stays (loaded i) (machine_behaviour.saved (loaded i)).1 = saved_stays (loaded i) in
    record {
      stands = record { conduct = refl; world = w; told = refl; now = now; there = there; rest = at_rest.rests; host_is = host_of i now fresh; fits = subst (TellsFitting machine_behaviour) (host_of i now fresh) at_rest.fitting; beside_is = idle };
      none_given = saved.given ∙ fresh.0.none_given;
      target = table_target table i.target known shape ∙ sym (saved.target ∙ loaded_target i known);
      nothing = shape.nothing;
    }

-- it is idle, as the one beside another
fresh_beside : (i : ImageFields) (s : LinkSide) (o : Option LinkSide) → FreshSidesAreReady → BeginsSide i s → o ≡ Some s → IsBeside o (Some (first_host machine_behaviour (loaded i)))
fresh_beside i s o ready fresh e =
    let at_rest : IsReady s = ready i s fresh in
    subst (λ (x : Option LinkSide). IsBeside x (Some (first_host machine_behaviour (loaded i)))) (sym e) (at_rest.rests.idle, host_of i s fresh)

pub first_is : (i : ImageFields) (schedule : List Entry) (w : World) (table : StoreState) → FreshSidesAreReady → Begins (i ∷ []) schedule w → (i.target ≡ MIPS) ⊎ (i.target ≡ SPARC) → HasShape table i.target
    → IsFirst machine_behaviour near_conduct (Some w) First (loaded i) None table
first_is i schedule w table ready begins known shape = fresh_is i w First w.first None table ready begins.0 refl tt known shape

pub both_are : (i j : ImageFields) (schedule : List Entry) (w : World) (table other : StoreState) → FreshSidesAreReady → Begins (i ∷ j ∷ []) schedule w → (i.target ≡ MIPS) ⊎ (i.target ≡ SPARC) → (j.target ≡ MIPS) ⊎ (j.target ≡ SPARC)
    → HasShape table i.target → HasShape other j.target → AreFirst machine_behaviour near_conduct (Some w) (loaded i) (loaded j) table other
both_are i j schedule w table other ready begins known also shape too = record {
  first = fresh_is i w First w.first (Some (first_host machine_behaviour (loaded j))) table ready begins.0 refl (fresh_beside j begins.1.0 w.second ready begins.1.2 begins.1.1) known shape;
  second = fresh_is j w Second begins.1.0 (Some (first_host machine_behaviour (loaded i))) other ready begins.1.2 begins.1.1 (fresh_beside i w.first (Some w.first) ready begins.0 refl) also too;
}
