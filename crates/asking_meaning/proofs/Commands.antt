-- The commands of one side, by what they ask.
use Rattle.std.proofs.Common.{◌≡◌, ℕ, suc, Bool, true, false, nat_eq, List, [], ◌∷◌, ◌++◌, append-nil, codes, decimal, length, Option, Some, None, refl, sym, ap, subst}
use Rattle.ldb_words.specs.declared.kinds.Kind.TheVariants.{Word}
use Rattle.machine_state.specs.Regions.{Regions, write_of}
use Rattle.machine_state.specs.declared.layout.TheConstants.{CONTEXT}
use Rattle.ps_step.specs.declared.fault.PsError.TheVariants.{RangeCheck}
use Rattle.ps_store.specs.StoreState.{StoreState}
use Rattle.frame_bytes.specs.declared.frame.Space.TheVariants.{Memory}
use Rattle.frame_bytes.specs.Bytes.{Bytes, stored, or_none}
use Rattle.table_model.specs.Rows.{PointRow}
use Rattle.table_model.specs.Frames.{told_frames, told_frame_at}
use Rattle.dialect_model.specs.TableUse.{Kind, Refused, Eval, Looks, gives, refuses, ◌>>=◌}
use Rattle.break_plant.specs.Planted as planted
use Rattle.break_plant.specs.Planted.{noop_of, break_of}
use Rattle.c_session.specs.declared.command.Spot.{Spot}
use Rattle.c_session.specs.declared.command.Spot.TheVariants.{Line, Func}
use Rattle.table_asks.specs.declared.fault.Cause.{Cause}
use Rattle.table_asks.specs.declared.fault.Cause.TheVariants as cause
use Rattle.asking.specs.Lines.{line, frame_lines}
use Rattle.asking.specs.Doing as doing
use Rattle.asking.specs.Doing.{Change as Stored}
use Rattle.asking.specs.Frames as asked_frames
use Rattle.asking.specs.Breaks as asked_breaks
use Rattle.claims.specs.Lines.{place_text, frame_text, frame_texts}
use Rattle.claims.specs.Side.{SideState, Change, OnSide, row_of, memory_of, with_memory, has, without}
use Rattle.claims.specs.Frames as side_frames
use Rattle.claims.specs.Breaks as side_breaks
use Rattle.asking_meaning.specs.Meant.{Covers, joined, Says, Stores}
use Rattle.asking_meaning.proofs.Covering.{gives_covers, fails_covers, bind_covers, after_gives, refused_behind, regrouped_covers, looks_cover}

abbrev Same : (A : Type 0) → A → A → Type 0
Same A x y = x ≡ y

-- ---- frames

joined_frames : (k : ℕ) (ps : List PointRow) → frame_lines k ps ≡ joined (frame_texts k ps)
joined_frames k [] = refl
joined_frames k (p ∷ ps) = ap (λ text. line (frame_text k p) ++ text) (joined_frames (suc k) ps)

pub listing_covers : (a : SideState) → Covers (Says a) (asked_frames.listing (row_of a) CONTEXT (memory_of a)) (side_frames.listing a)
listing_covers a =
    let q = λ (s : StoreState). told_frames (row_of a) s (memory_of a) CONTEXT in
    let f = λ (ps : List PointRow). gives (line (codes "frames " ++ decimal (length ps)) ++ frame_lines 0 ps) in
    let g = λ (ps : List PointRow). gives (record { lines = (codes "frames " ++ decimal (length ps)) ∷ frame_texts 0 ps; side = a }) in
    bind_covers {P = Same (List PointRow)} (Looks q) (Looks q) f g (looks_cover q q (λ s. refl)) (λ ps ps' e.
    subst (λ ps'. Covers (Says a) (f ps) (g ps')) e
    (gives_covers (line (codes "frames " ++ decimal (length ps)) ++ frame_lines 0 ps) (record { lines = (codes "frames " ++ decimal (length ps)) ∷ frame_texts 0 ps; side = a })
    (ap (λ text. line (codes "frames " ++ decimal (length ps)) ++ text) (joined_frames 0 ps), refl)))

or_frame_covers : (p : Option PointRow) → Covers (Same PointRow) (asked_frames.or_no_frame p) (side_frames.or_no_frame p)
or_frame_covers None = fails_covers (Refused cause.NoFrame)
or_frame_covers (Some p) = gives_covers p p refl

pub choosing_covers : (a : SideState) (n : ℕ) → Covers (Says (record a { frame = n })) (asked_frames.choosing (row_of a) CONTEXT n (memory_of a)) (side_frames.choosing a n)
choosing_covers a n =
    let q = λ (s : StoreState). told_frame_at (row_of a) s (memory_of a) CONTEXT n in
    let f = λ (p : PointRow). gives (line (frame_text n p)) in
    let g = λ (p : PointRow). gives (record { lines = frame_text n p ∷ []; side = record a { frame = n } }) in
    let says = λ (p p' : PointRow) (e : p ≡ p'). subst (λ p'. Covers (Says (record a { frame = n })) (f p) (g p')) e
    (gives_covers (line (frame_text n p)) (record { lines = frame_text n p ∷ []; side = record a { frame = n } }) (sym (append-nil (line (frame_text n p))), refl)) in
    bind_covers {P = Same (Option PointRow)} (Looks q) (Looks q) (λ told. asked_frames.or_no_frame told >>= f) (λ told. side_frames.or_no_frame told >>= g) (looks_cover q q (λ s. refl)) (λ o o' e.
    subst (λ o'. Covers (Says (record a { frame = n })) (asked_frames.or_no_frame o >>= f) (side_frames.or_no_frame o' >>= g)) e
    (bind_covers (asked_frames.or_no_frame o) (side_frames.or_no_frame o) f g (or_frame_covers o) says))

-- ---- breakpoints

same_query : (spot : Spot) (s : StoreState) → asked_breaks.point_of_spot spot s ≡ side_breaks.point_of_spot spot s
same_query (Line file l c) s = refl
same_query (Func name) s = refl

or_place_covers : (p : Option PointRow) → Covers (Same PointRow) (asked_breaks.or_no_place p) (side_breaks.or_no_place p)
or_place_covers None = fails_covers (Refused cause.NoPlace)
or_place_covers (Some p) = gives_covers p p refl

or_range_covers : {A : Type 0} (x : Option A) → Covers (Same A) (doing.or_range x) (side_breaks.or_range x)
or_range_covers None = fails_covers (Kind RangeCheck)
or_range_covers (Some x) = gives_covers x x refl

-- bytes of a target, and the side whose target has them
record Holds (a : SideState) (b : Bytes) (a' : SideState) : Type 0 where
  pub bytes : b ≡ memory_of a'
  pub side : a' ≡ with_memory b.regions a

abbrev put_back : Bytes → Option Regions → Option Bytes
put_back b None = None
put_back b (Some r) = Some (record b { regions = r })

abbrev bytes_in : SideState → Option Bytes → Option SideState
bytes_in a None = None
bytes_in a (Some b) = Some (with_memory b.regions a)

stored_is : (b : Bytes) (at w : ℕ) → stored b Memory at Word w ≡ put_back b (or_none (write_of b.order b.regions at 4 w))
unfolding stored
stored_is b at w = refl

regions_cover : (a : SideState) (r : Option Regions) → Covers (Holds a) (doing.or_range (put_back (memory_of a) r)) (side_breaks.or_range (bytes_in a (put_back (memory_of a) r)))
regions_cover a None = fails_covers (Kind RangeCheck)
regions_cover a (Some r) = gives_covers (record (memory_of a) { regions = r }) (with_memory r a) (record { bytes = refl; side = refl })

stored_covers : (a : SideState) (at w : ℕ) → Covers (Holds a) (doing.or_range (stored (memory_of a) Memory at Word w)) (side_breaks.or_range (side_breaks.with_word a at w))
stored_covers a at w =
    subst (λ (b : Option Bytes). Covers (Holds a) (doing.or_range b) (side_breaks.or_range (bytes_in a b))) (sym (stored_is (memory_of a) at w))
    (regions_cover a (or_none (write_of (memory_of a).order (memory_of a).regions at 4 w)))

abbrev puts : (target : ℕ) → Bytes → PointRow → (is_no_op : Bool) → Eval Cause Bytes
puts target b p true = doing.or_range (stored b Memory p.at Word (break_of target))
puts target b p false = refuses cause.NoPlace

puts_cover : (a : SideState) (p : PointRow) (is : Bool) → Covers (Holds a) (puts a.machine.target (memory_of a) p is) (side_breaks.planted_if a p is)
puts_cover a p true = stored_covers a p.at (break_of a.machine.target)
puts_cover a p false = fails_covers (Refused cause.NoPlace)

planting_covers : (a : SideState) (p : PointRow) → Covers (Holds a) (asked_breaks.planting a.machine.target a.breaks (memory_of a) p) (side_breaks.planting a p)
planting_covers a p =
    let f = λ (w : ℕ). puts a.machine.target (memory_of a) p (nat_eq w (noop_of a.machine.target)) in
    let g = λ (w : ℕ). side_breaks.planted_if a p (nat_eq w (noop_of a.machine.target)) in
    bind_covers {P = Same ℕ} (doing.or_range (planted.word_at (memory_of a) p.at)) (side_breaks.or_range (side_breaks.word_at a p.at)) f g (or_range_covers (planted.word_at (memory_of a) p.at)) (λ w w' e.
    subst (λ w'. Covers (Holds a) (f w) (g w')) e (puts_cover a p (nat_eq w (noop_of a.machine.target))))

-- what is said behind a breakpoint's change of the side
abbrev said : (word : List ℕ) → PointRow → SideState → OnSide Change
said word p a = gives (record { lines = (word ++ place_text p) ∷ []; side = a })

-- what is stored to the target, and said
abbrev stores : (word : List ℕ) → PointRow → List PointRow → Bytes → Stored
stores word p breaks b = record { text = line (word ++ place_text p); breaks = breaks; bytes = b }

stores_cover : (a a' : SideState) (word : List ℕ) (p : PointRow) (b : Bytes) (breaks : List PointRow) → a' ≡ record (with_memory b.regions a) { breaks = breaks } → b ≡ memory_of a'
    → Covers (Stores a) (gives (stores word p breaks b)) (said word p a')
stores_cover a a' word p b breaks side bytes =
    gives_covers (stores word p breaks b) (record { lines = (word ++ place_text p) ∷ []; side = a' }) ((sym (append-nil (line (word ++ place_text p))), side), bytes)

broken_covers : (a : SideState) (p : PointRow) (is : Bool) → Covers (Stores a) (asked_breaks.broken_at a.machine.target a.breaks (memory_of a) p is) (side_breaks.broken_at a p is >>= said (codes "break ") p)
broken_covers a p true = after_gives (gives (stores (codes "break ") p a.breaks (memory_of a))) a (said (codes "break ") p) (stores_cover a a (codes "break ") p (memory_of a) a.breaks refl refl)
broken_covers a p false =
    let breaks = a.breaks ++ p ∷ [] in
    let f = λ (b : Bytes). gives (stores (codes "break ") p breaks b) in
    let set = λ (a' : SideState). gives (record a' { breaks = a'.breaks ++ p ∷ [] }) in
    regrouped_covers (asked_breaks.planting a.machine.target a.breaks (memory_of a) p >>= f) (side_breaks.planting a p) set (said (codes "break ") p)
    (bind_covers {P = Holds a} (asked_breaks.planting a.machine.target a.breaks (memory_of a) p) (side_breaks.planting a p) f (λ a'. set a' >>= said (codes "break ") p) (planting_covers a p) (λ b a' h.
    after_gives (f b) (record a' { breaks = a'.breaks ++ p ∷ [] }) (said (codes "break ") p)
    (stores_cover a (record a' { breaks = a'.breaks ++ p ∷ [] }) (codes "break ") p b breaks (ap (λ (z : SideState). record z { breaks = z.breaks ++ p ∷ [] }) h.side) h.bytes)))

cleared_covers : (a : SideState) (p : PointRow) (is : Bool) → Covers (Stores a) (asked_breaks.cleared_at a.machine.target a.breaks (memory_of a) p is) (side_breaks.cleared_at a p is >>= said (codes "clear ") p)
cleared_covers a p true =
    let breaks = without p a.breaks in
    let f = λ (b : Bytes). gives (stores (codes "clear ") p breaks b) in
    let set = λ (a' : SideState). gives (record a' { breaks = without p a'.breaks }) in
    let m = doing.or_range (stored (memory_of a) Memory p.at Word (noop_of a.machine.target)) in
    let n = side_breaks.or_range (side_breaks.with_word a p.at (noop_of a.machine.target)) in
    regrouped_covers (m >>= f) n set (said (codes "clear ") p)
    (bind_covers {P = Holds a} m n f (λ a'. set a' >>= said (codes "clear ") p) (stored_covers a p.at (noop_of a.machine.target)) (λ b a' h.
    after_gives (f b) (record a' { breaks = without p a'.breaks }) (said (codes "clear ") p)
    (stores_cover a (record a' { breaks = without p a'.breaks }) (codes "clear ") p b breaks (ap (λ (z : SideState). record z { breaks = without p z.breaks }) h.side) h.bytes)))
cleared_covers a p false = refused_behind (said (codes "clear ") p)

-- ---- a spot's point, and what is done there

module _ (a : SideState) (spot : Spot) (f : PointRow → Eval Cause Stored) (g : PointRow → OnSide Change) (covers : (p : PointRow) → Covers (Stores a) (f p) (g p)) where
  pub at_spot : Covers (Stores a) (Looks (asked_breaks.point_of_spot spot) >>= λ found. asked_breaks.or_no_place found >>= f) (Looks (side_breaks.point_of_spot spot) >>= λ found. side_breaks.or_no_place found >>= g)
  at_spot =
      bind_covers {P = Same (Option PointRow)} (Looks (asked_breaks.point_of_spot spot)) (Looks (side_breaks.point_of_spot spot)) (λ found. asked_breaks.or_no_place found >>= f) (λ found. side_breaks.or_no_place found >>= g)
      (looks_cover (asked_breaks.point_of_spot spot) (side_breaks.point_of_spot spot) (same_query spot)) (λ o o' e.
      subst (λ o'. Covers (Stores a) (asked_breaks.or_no_place o >>= f) (side_breaks.or_no_place o' >>= g)) e
      (bind_covers (asked_breaks.or_no_place o) (side_breaks.or_no_place o) f g (or_place_covers o) (λ p p' s. subst (λ p'. Covers (Stores a) (f p) (g p')) s (covers p))))

pub breaking_covers : (a : SideState) (spot : Spot) → Covers (Stores a) (asked_breaks.breaking a.machine.target a.breaks (memory_of a) spot) (side_breaks.breaking a spot)
breaking_covers a spot =
    at_spot a spot (λ p. asked_breaks.broken_at a.machine.target a.breaks (memory_of a) p (has a.breaks p)) (λ p. side_breaks.broken_at a p (has a.breaks p) >>= said (codes "break ") p) (λ p. broken_covers a p (has a.breaks p))

pub clearing_covers : (a : SideState) (spot : Spot) → Covers (Stores a) (asked_breaks.clearing a.machine.target a.breaks (memory_of a) spot) (side_breaks.clearing a spot)
clearing_covers a spot =
    at_spot a spot (λ p. asked_breaks.cleared_at a.machine.target a.breaks (memory_of a) p (has a.breaks p)) (λ p. side_breaks.cleared_at a p (has a.breaks p) >>= said (codes "clear ") p) (λ p. cleared_covers a p (has a.breaks p))
