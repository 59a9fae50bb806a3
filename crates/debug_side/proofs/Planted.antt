-- The words of a step that are put, and those that are taken away again.
use Rattle.std.proofs.Common.{◌≡◌, refl, sym, subst, ℕ, Bool, true, false, List, map, Option, Some, None, Result, Ok, Err}
use Rattle.machine_state.specs.Regions.{Regions}
use Rattle.frame_bytes.specs.declared.frame.Place.{Place}
use Rattle.frame_bytes.specs.Bytes.{Bytes}
use Rattle.wire_talk.specs.declared.fault.TalkFault.{TalkFault}
use Rattle.wire_talk.specs.declared.fault.TalkFault.TheVariants as talk
use Rattle.abs_mem.specs.Meaning.{Seen, Same, Led}
use Rattle.abs_mem.specs.declared.memory.MemFault.{MemFault}
use Rattle.abs_mem.specs.declared.memory.MemFault.TheVariants as mem
use Rattle.break_plant.specs.declared.planting.PlantFault.{PlantFault}
use Rattle.break_plant.specs.declared.planting.PlantFault.TheVariants as plant
use Rattle.break_plant.specs.Planted.{noop_of, break_of, Planted, Plants, LedPlant}
use Rattle.table_points.specs.declared.row.Point.{Point}
use Rattle.debug_side.specs.Meant.{address_of}
use Rattle.debug_side.specs.Wrote.{none_written, writes, Wrote, words_put_back, Puts, LedTalk}
use Rattle.debug_side.specs.Planting.{LedOn, mem_fault, IsPut, PlantsOne, GivesUp}
use Rattle.debug_side.proofs.Putting.{left_of}

-- ---- one address

put_one : {R : Type 0} (target at : ℕ) (s s' : Seen R) → Planted target at s s' → Wrote s s' (IsPut target at)
put_one {R = R} target at s s' h = record {
  faults = h.faults;
  after = λ (b : Bytes) (r : R) t.
      let y = h.is b r t in
      let l = left_of b y.0 at (break_of target) y.1 in
      (l.regions, writes at (break_of target) none_written l.wrote, record { was = h.was.holds b r t; is = l.wrote }, subst (λ (z : Bytes). s'.tells z r) l.is y.2);
}

pub plants_one : {R : Type 0} (target at : ℕ) (s s' : Seen R) (x : Unit {0}) → Plants target at s (Ok x) s' → PlantsOne target at s (Ok true) s'
plants_one target at s s' x h = put_one target at s s' h

pub passes_one : {R : Type 0} (target at a word : ℕ) (s s' : Seen R) → Plants target at s (Err (plant.NotNoop a word)) s' → PlantsOne target at s (Ok false) s'
passes_one {R = R} target at a word s s' h = (h.2, record { holds = λ (b : Bytes) (r : R) t. record { word = word; there = h.3.holds b r t; differs = h.1 } })

pub fails_one : {R : Type 0} (target at : ℕ) (s s' : Seen R) (f : MemFault) → Plants target at s (Err (plant.Memory f)) s' → PlantsOne target at s (Err f) s'
fails_one target at s s' (mem.Outside place) h = (h.1, h.2)
fails_one target at s s' mem.LinkFault h = h
fails_one target at s s' (mem.BadReply frame) h = h

-- ---- one address, as the code has it

pub passes_here : {R : Type 0} (target at a word : ℕ) (s s' : Seen R) (f : PlantFault) → f ≡ plant.NotNoop a word → Plants target at s (Err f) s' → PlantsOne target at s (Ok false) s'
passes_here target at a word s s' f e h = passes_one target at a word s s' (subst (λ (z : PlantFault). Plants target at s (Err z) s') e h)

pub fails_here : {R : Type 0} (target at : ℕ) (s s' : Seen R) (f : MemFault) (z : PlantFault) → z ≡ plant.Memory f → Plants target at s (Err z) s' → PlantsOne target at s (Err f) s'
fails_here target at s s' f z e h = fails_one target at s s' f (subst (λ (y : PlantFault). Plants target at s (Err y) s') e h)

pub led_one : {M : Type 0} (leads : M → Option (List ℕ) → M → Type 0) (m m' : M) (a word : ℕ) (f : PlantFault) → f ≡ plant.NotNoop a word → LedPlant leads m (Err f) m' → leads m None m'
led_one {M = M} leads m m' a word f e h = subst (λ (z : PlantFault). LedPlant leads m (Err z) m') e h

led_memory : {M : Type 0} (leads : M → Option (List ℕ) → M → Type 0) (m m' : M) (f : MemFault) → LedPlant leads m (Err (plant.Memory f)) m' → Led {A = Bool} leads m (Err f) m'
led_memory leads m m' (mem.Outside place) h = h
led_memory leads m m' mem.LinkFault h = tt
led_memory leads m m' (mem.BadReply frame) h = h

pub led_fault : {M : Type 0} (leads : M → Option (List ℕ) → M → Type 0) (m m' : M) (f : MemFault) (z : PlantFault) → z ≡ plant.Memory f → LedPlant leads m (Err z) m' → Led {A = Bool} leads m (Err f) m'
led_fault {M = M} leads m m' f z e h = led_memory leads m m' f (subst (λ (y : PlantFault). LedPlant leads m (Err y) m') e h)

-- ---- what was planted is taken away again, as the code has it

same_of : {R : Type 0} (s : Seen R) → Same s s
same_of {R = R} s = record { faults = refl; keeps = λ (b : Bytes) (r : R) t. t }

pub gives_back : {R : Type 0} (target : ℕ) (planted : List Point) (s u : Seen R) (f : MemFault) (place : Place) → f ≡ mem.Outside place
    → Wrote s u (λ b r. r ≡ words_put_back b.order (noop_of target) (map address_of planted) b.regions) → GivesUp target s planted f (Err (mem.Outside place)) u
gives_back target planted s u f place e h = subst (λ (z : MemFault). GivesUp target s planted z (Err (mem.Outside place)) u) (sym e) (refl, h)

gives_fault : {R : Type 0} (target : ℕ) (planted : List Point) (s u : Seen R) (place : Place) (t : TalkFault) (P : Bytes → Regions → Type 0) → Puts s (Err t) P u → GivesUp target s planted (mem.Outside place) (Err (mem_fault t)) u
gives_fault target planted s u place talk.LinkFault P h = h
gives_fault target planted s u place (talk.BadReply frame) P h = h

pub gives_badly : {R : Type 0} (target : ℕ) (planted : List Point) (s u : Seen R) (f : MemFault) (place : Place) (t : TalkFault) (m : MemFault) (P : Bytes → Regions → Type 0) → f ≡ mem.Outside place → m ≡ mem_fault t
    → Puts s (Err t) P u → GivesUp target s planted f (Err m) u
gives_badly target planted s u f place t m P e is h =
    subst (λ (z : MemFault). GivesUp target s planted z (Err m) u) (sym e) (subst (λ (z : MemFault). GivesUp target s planted (mem.Outside place) (Err z) u) (sym is) (gives_fault target planted s u place t P h))

pub gives_link : {R : Type 0} (target : ℕ) (planted : List Point) (s : Seen R) (f : MemFault) → f ≡ mem.LinkFault → GivesUp target s planted f (Err mem.LinkFault) s
gives_link target planted s f e = subst (λ (z : MemFault). GivesUp target s planted z (Err mem.LinkFault) s) (sym e) (refl, same_of s)

pub gives_reply : {R : Type 0} (target : ℕ) (planted : List Point) (s : Seen R) (f : MemFault) (frame : _) → f ≡ mem.BadReply frame → GivesUp target s planted f (Err (mem.BadReply frame)) s
gives_reply target planted s f frame e = subst (λ (z : MemFault). GivesUp target s planted z (Err (mem.BadReply frame)) s) (sym e) (refl, same_of s)

led_mem : {M : Type 0} (leads : M → Option (List ℕ) → M → Type 0) (m m' : M) (t : TalkFault) → LedTalk {A = Unit {0}} leads m (Err t) m' → Led {A = Unit {0}} leads m (Err (mem_fault t)) m'
led_mem leads m m' talk.LinkFault h = tt
led_mem leads m m' (talk.BadReply frame) h = h

pub led_back : {M : Type 0} (leads : M → Option (List ℕ) → M → Type 0) (m m' : M) (f : MemFault) (place : Place) → f ≡ mem.Outside place → leads m None m' → LedOn leads m f (Err (mem.Outside place)) m'
led_back {M = M} leads m m' f place e h = subst (λ (z : MemFault). LedOn leads m z (Err (mem.Outside place)) m') (sym e) h

pub led_badly : {M : Type 0} (leads : M → Option (List ℕ) → M → Type 0) (m m' : M) (f : MemFault) (place : Place) (t : TalkFault) (x : MemFault) → f ≡ mem.Outside place → x ≡ mem_fault t → LedTalk {A = Unit {0}} leads m (Err t) m'
    → LedOn leads m f (Err x) m'
led_badly {M = M} leads m m' f place t x e is h =
    subst (λ (z : MemFault). LedOn leads m z (Err x) m') (sym e) (subst (λ (z : MemFault). Led {A = Unit {0}} leads m (Err z) m') (sym is) (led_mem leads m m' t h))

pub led_link : {M : Type 0} (leads : M → Option (List ℕ) → M → Type 0) (m : M) (f : MemFault) → f ≡ mem.LinkFault → LedOn leads m f (Err mem.LinkFault) m
led_link {M = M} leads m f e = subst (λ (z : MemFault). LedOn leads m z (Err mem.LinkFault) m) (sym e) (refl, refl)

pub led_reply : {M : Type 0} (leads : M → Option (List ℕ) → M → Type 0) (m : M) (f : MemFault) (frame : _) → f ≡ mem.BadReply frame → LedOn leads m f (Err (mem.BadReply frame)) m
led_reply {M = M} leads m f frame e = subst (λ (z : MemFault). LedOn leads m z (Err (mem.BadReply frame)) m) (sym e) (refl, refl)

-- ---- planting stops at a point

pub led_more : {M A : Type 0} (leads : M → Option (List ℕ) → M → Type 0) (law : (a b c : M) (o : Option (List ℕ)) → leads a None b → leads b o c → leads a o c) (a b c : M) (x : Result A MemFault) → leads a None b
    → Led leads b x c → Led leads a x c
led_more leads law a b c (Ok x) h k = law a b c None h k
led_more leads law a b c (Err (mem.Outside place)) h k = law a b c None h k
led_more leads law a b c (Err mem.LinkFault) h k = tt
led_more leads law a b c (Err (mem.BadReply frame)) h k = law a b c (Some frame.items) h k

pub led_stop : {M : Type 0} (leads : M → Option (List ℕ) → M → Type 0) (law : (a b c : M) (o : Option (List ℕ)) → leads a None b → leads b o c → leads a o c) (a b c d : M) (f : MemFault) (x : Result Unit MemFault) → leads a None b
    → Led {A = Bool} leads b (Err f) c → LedOn leads c f x d → Led {A = Unit {0}} leads a x d
led_stop leads law a b c d (mem.Outside place) x h k l = led_more leads law a c d x (law a b c None h k) l
led_stop leads law a b c d mem.LinkFault x h k l = subst (λ (y : Result Unit MemFault). Led leads a y d) (sym l.0) tt
led_stop {M = M} leads law a b c d (mem.BadReply frame) x h k l =
    subst (λ (y : Result Unit MemFault). Led leads a y d) (sym l.0) (subst (λ (m : M). leads a (Some frame.items) m) (sym l.1) (law a b c (Some frame.items) h k))
