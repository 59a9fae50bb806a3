-- What a command of one side of the machine session may change of it.
use Rattle.std.proofs.Common.{◌≡◌, ◌∙◌, refl, sym, ap, subst, ℕ, Bool, true, false, nat_eq, List, [], ◌∷◌, ◌++◌, codes, decimal, length, Option, Some, None, Result, Ok, Err}
use Rattle.ldb_words.specs.declared.kinds.Kind.TheVariants.{Word}
use Rattle.ldb_words.specs.declared.event.Outside.{Outside}
use Rattle.machine_state.specs.declared.layout.TheConstants.{CONTEXT}
use Rattle.machine_state.specs.Regions.{Regions, write_of}
use Rattle.machine_state.specs.State.{order_of}
use Rattle.frame_bytes.specs.declared.frame.Space.TheVariants.{Memory}
use Rattle.frame_bytes.specs.Bytes.{Bytes, stored, or_none}
use Rattle.ps_step.specs.declared.fault.PsError.TheVariants.{RangeCheck}
use Rattle.ps_store.specs.StoreState.{StoreState}
use Rattle.break_plant.specs.Planted.{noop_of, break_of}
use Rattle.table_model.specs.Rows.{PointRow}
use Rattle.table_model.specs.Frames.{told_frames, told_frame_at}
use Rattle.debug_side.specs.Wrote.{Writes, none_written, writes}
use Rattle.dialect_model.specs.TableUse.{TableUse, use_of, Kind, onward, gives, fails, takes_memory, Looks, ◌>>=◌}
use Rattle.c_session.specs.declared.command.Spot.{Spot}
use Rattle.c_session.specs.declared.command.Command.{Command}
use Rattle.c_session.specs.declared.command.Command.TheVariants as command
use Rattle.claims.specs.Side.{SideState, Change, OnSide, Troubled, MOST_STEPS, row_of, memory_of, with_memory, side_after, has, without}
use Rattle.claims.specs.Lines.{frame_text, frame_texts, place_text}
use Rattle.claims.specs.Outcome as outcome
use Rattle.claims.specs.Outcome.{OneSide}
use Rattle.claims.specs.Frames as frames
use Rattle.claims.specs.Breaks as breaks
use Rattle.claims.specs.Printing as printing
use Rattle.side_meaning.proofs.Resuming.{put_back, stored_is}
use Rattle.session.specs.Meant.{IsPlain}

-- ---- the results of a part

-- each result is so
abbrev Gives : {A : Type 0} → (A → Type 0) → OnSide A → Type 0
Gives {A} P m = (t : TableUse) (x : A) (t' : TableUse) → m t (Ok x) t' → P x

abbrev ok_of : {A : Type 0} → A → Result A Troubled
ok_of x = Ok x

ok_is : {A : Type 0} (x y : A) → ok_of x ≡ ok_of y → x ≡ y
ok_is x y e = cc

never_ok : {A : Type 0} (x : A) (e : Troubled) → ok_of x ≡ Err e → ⊥
never_ok x e h = cc

gives_so : {A : Type 0} (P : A → Type 0) (x : A) → P x → Gives P (gives x)
gives_so P x p t y t' w = subst P (sym (ok_is y x w.0)) p

fails_so : {A : Type 0} (P : A → Type 0) (e : Troubled) → Gives P (fails e)
fails_so P e t y t' w = absurd (never_ok y e w.0)

module _ {A B : Type 0} (Q : A → Type 0) (P : B → Type 0) (f : A → OnSide B) (p : (x : A) → Q x → Gives P (f x)) where
  onward_so : (a : Result A Troubled) (u : TableUse) (x : B) (t' : TableUse) → ((y : A) → a ≡ Ok y → Q y) → onward f a u (Ok x) t' → P x
  onward_so (Ok y) u x t' q w = p y (q y refl) u x t' w
  onward_so (Err e) u x t' q w = absurd (never_ok x e w.0)

  bind_so : (m : OnSide A) → Gives Q m → Gives P (m >>= f)
  bind_so m q t x t' (a, u, h, o) = onward_so a u x t' (λ y e. q t y u (subst (λ (z : Result A Troubled). m t z u) e h)) o

abbrev Any : {A : Type 0} → A → Type 0
Any x = Unit {0}

any : {A : Type 0} (m : OnSide A) → Gives Any m
any m t x t' w = tt

after_any : {A B : Type 0} (P : B → Type 0) (m : OnSide A) (f : A → OnSide B) → ((x : A) → Gives P (f x)) → Gives P (m >>= f)
after_any P m f p = bind_so Any P f (λ x u. p x) m (any m)

whole_so : (P : Change → Type 0) (m : OnSide Change) → Gives P m → Gives P (outcome.with_memory_wanting m)
whole_so P m p =
    after_any P takes_memory (λ u. m >>= λ x. takes_memory >>= λ v. gives x) (λ u. bind_so P P (λ x. takes_memory >>= λ v. gives x) (λ x q. after_any P takes_memory (λ v. gives x) (λ v. gives_so P x q)) m p)

-- ---- what is left of a side

-- words of its target may be written, breakpoints set or taken away, and a frame chosen
record Left (a x : SideState) : Type 0 where
  memory : Regions
  wrote : Writes (order_of a.machine) a.machine.memory memory
  side : x ≡ record a { machine = record a.machine { memory = memory }; breaks = x.breaks; frame = x.frame }

left_same : (a : SideState) → Left a a
left_same a = record { memory = a.machine.memory; wrote = none_written; side = refl }

left_breaks : (a x : SideState) (ps : List PointRow) → Left a x → Left a (record x { breaks = ps })
left_breaks a x ps l = record { memory = l.memory; wrote = l.wrote; side = ap (λ (z : SideState). record z { breaks = ps }) l.side }

abbrev SideLeft : SideState → Change → Type 0
SideLeft a change = Left a change.side

-- ---- a word

some_is : {T : Type 0} (x y : T) → Some x ≡ Some y → x ≡ y
some_is x y e = cc

wrote_by : (b c : Bytes) (x : Result Regions Outside) → put_back b (or_none x) ≡ Some c → x ≡ Ok c.regions
wrote_by b c (Ok r) e = ap (λ (z : Bytes). Ok z.regions) (some_is (record b { regions = r }) c e)
wrote_by b c (Err f) e = cc

abbrev moved_by : SideState → Option Bytes → Option SideState
moved_by a None = None
moved_by a (Some b) = Some (with_memory b.regions a)

module _ (a : SideState) (at w : ℕ) where
  word_left : (o : Option Bytes) → stored (memory_of a) Memory at Word w ≡ o → Gives (Left a) (breaks.or_range (moved_by a o))
  word_left None e = fails_so (Left a) (Kind RangeCheck)
  word_left (Some b) e =
      gives_so (Left a) (with_memory b.regions a)
      (record { memory = b.regions; wrote = writes at w none_written (wrote_by (memory_of a) b (write_of (order_of a.machine) a.machine.memory at 4 w) (sym (stored_is (memory_of a) at w) ∙ e)); side = refl })

  stored_left : Gives (Left a) (breaks.or_range (breaks.with_word a at w))
  stored_left = word_left (stored (memory_of a) Memory at Word w) refl

-- ---- `break` and `clear`

planted_left : (a : SideState) (p : PointRow) (is : Bool) → Gives (Left a) (breaks.planted_if a p is)
planted_left a p true = stored_left a p.at (break_of a.machine.target)
planted_left a p false = fails_so (Left a) _

planting_left : (a : SideState) (p : PointRow) → Gives (Left a) (breaks.planting a p)
planting_left a p = after_any (Left a) (breaks.or_range (breaks.word_at a p.at)) (λ w. breaks.planted_if a p (nat_eq w (noop_of a.machine.target))) (λ w. planted_left a p (nat_eq w (noop_of a.machine.target)))

broken_left : (a : SideState) (p : PointRow) (is : Bool) → Gives (Left a) (breaks.broken_at a p is)
broken_left a p true = gives_so (Left a) a (left_same a)
broken_left a p false =
    bind_so (Left a) (Left a) (λ a'. gives (record a' { breaks = a'.breaks ++ p ∷ [] })) (λ x l. gives_so (Left a) (record x { breaks = x.breaks ++ p ∷ [] }) (left_breaks a x (x.breaks ++ p ∷ []) l)) (breaks.planting a p) (planting_left a p)

cleared_left : (a : SideState) (p : PointRow) (is : Bool) → Gives (Left a) (breaks.cleared_at a p is)
cleared_left a p true =
    bind_so (Left a) (Left a) (λ a'. gives (record a' { breaks = without p a'.breaks })) (λ x l. gives_so (Left a) (record x { breaks = without p x.breaks }) (left_breaks a x (without p x.breaks) l))
    (breaks.or_range (breaks.with_word a p.at (noop_of a.machine.target))) (stored_left a p.at (noop_of a.machine.target))
cleared_left a p false = fails_so (Left a) _

abbrev saying : (word : List ℕ) → PointRow → SideState → OnSide Change
saying word p x = gives (record { lines = (word ++ place_text p) ∷ []; side = x })

said_left : (a : SideState) (word : List ℕ) (p : PointRow) (m : OnSide SideState) → Gives (Left a) m → Gives (SideLeft a) (m >>= saying word p)
said_left a word p m l = bind_so (Left a) (SideLeft a) (saying word p) (λ x h. gives_so (SideLeft a) (record { lines = (word ++ place_text p) ∷ []; side = x }) h) m l

spot_left : (a : SideState) (spot : Spot) (g : PointRow → OnSide Change) → ((p : PointRow) → Gives (SideLeft a) (g p)) → Gives (SideLeft a) (Looks (breaks.point_of_spot spot) >>= λ found. breaks.or_no_place found >>= g)
spot_left a spot g l =
    after_any (SideLeft a) (Looks (breaks.point_of_spot spot)) (λ found. breaks.or_no_place found >>= g) (λ found. after_any (SideLeft a) (breaks.or_no_place found) g l)

breaking_left : (a : SideState) (spot : Spot) → Gives (SideLeft a) (breaks.breaking a spot)
breaking_left a spot = spot_left a spot (λ p. breaks.broken_at a p (has a.breaks p) >>= saying (codes "break ") p) (λ p. said_left a (codes "break ") p (breaks.broken_at a p (has a.breaks p)) (broken_left a p (has a.breaks p)))

clearing_left : (a : SideState) (spot : Spot) → Gives (SideLeft a) (breaks.clearing a spot)
clearing_left a spot = spot_left a spot (λ p. breaks.cleared_at a p (has a.breaks p) >>= saying (codes "clear ") p) (λ p. said_left a (codes "clear ") p (breaks.cleared_at a p (has a.breaks p)) (cleared_left a p (has a.breaks p)))

-- ---- `frames` and `frame`

listing_left : (a : SideState) → Gives (SideLeft a) (frames.listing a)
listing_left a =
    after_any (SideLeft a) (Looks (λ (s : StoreState). told_frames (row_of a) s (memory_of a) CONTEXT)) (λ ps. gives (record { lines = (codes "frames " ++ decimal (length ps)) ∷ frame_texts 0 ps; side = a }))
    (λ ps. gives_so (SideLeft a) (record { lines = (codes "frames " ++ decimal (length ps)) ∷ frame_texts 0 ps; side = a }) (left_same a))

choosing_left : (a : SideState) (n : ℕ) → Gives (SideLeft a) (frames.choosing a n)
choosing_left a n =
    let one = λ (p : PointRow). gives (record { lines = frame_text n p ∷ []; side = record a { frame = n } }) in
    after_any (SideLeft a) (Looks (λ (s : StoreState). told_frame_at (row_of a) s (memory_of a) CONTEXT n)) (λ told. frames.or_no_frame told >>= one)
    (λ told. after_any (SideLeft a) (frames.or_no_frame told) one
    (λ p. gives_so (SideLeft a) (record { lines = frame_text n p ∷ []; side = record a { frame = n } }) (record { memory = a.machine.memory; wrote = none_written; side = refl })))

-- ---- `print`

printing_left : (a : SideState) (name : List ℕ) → Gives (SideLeft a) (printing.printing a name)
printing_left a name =
    after_any (SideLeft a) _ _ (λ f. after_any (SideLeft a) _ _ (λ u. after_any (SideLeft a) _ _ (λ scope. after_any (SideLeft a) _ _ (λ found. after_any (SideLeft a) _ _ (λ x. after_any (SideLeft a) _ _ (λ function. after_any (SideLeft a) _ _ (λ v.
    after_any (SideLeft a) _ _ (λ type. after_any (SideLeft a) _ _ (λ text. gives_so (SideLeft a) (record { lines = (codes "value " ++ text) ∷ []; side = a }) (left_same a))))))))))

-- ---- whole commands

pub record Leaves (a x : SideState) : Type 0 where
  pub memory : Regions
  pub wrote : Writes (order_of a.machine) a.machine.memory memory
  pub side : x ≡ record a { machine = record a.machine { memory = memory }; table = x.table; breaks = x.breaks; frame = x.frame }

leaves_by : (a : SideState) (r : Result Change Troubled) (u : TableUse) → ((change : Change) → r ≡ Ok change → SideLeft a change) → Leaves a (side_after a r u)
leaves_by a (Ok change) u l =
    let x : Left a change.side = l change refl in
    let t : StoreState = (side_after a (Ok change) u).table in
    record { memory = x.memory; wrote = x.wrote; side = ap (λ (z : SideState). record z { table = t }) x.side }
leaves_by a (Err e) u l = record { memory = a.machine.memory; wrote = none_written; side = refl }

comes_left : (m : OnSide Change) (a : SideState) (r : Result Change Troubled) (x : SideState) → Gives (SideLeft a) m → outcome.Comes m a r x → Leaves a x
comes_left m a r x l c =
    subst (Leaves a) (sym c.leaves)
    (leaves_by a r c.use_after (λ change e. whole_so (SideLeft a) m l (use_of a.table MOST_STEPS) change c.use_after (subst (λ (z : Result Change Troubled). outcome.with_memory_wanting m (use_of a.table MOST_STEPS) z c.use_after) e c.comes)))

pub one_leaves : (now : Command) → IsPlain now → (a : SideState) (r : Result Change Troubled) (x : SideState) → OneSide now a r x → Leaves a x
one_leaves (command.Break spot) plain a r x c = comes_left (breaks.breaking a spot) a r x (breaking_left a spot) c
one_leaves (command.Clear spot) plain a r x c = comes_left (breaks.clearing a spot) a r x (clearing_left a spot) c
one_leaves command.Frames plain a r x c = comes_left (frames.listing a) a r x (listing_left a) c
one_leaves (command.Frame n) plain a r x c = comes_left (frames.choosing a n) a r x (choosing_left a n) c
one_leaves (command.Print name) plain a r x c = comes_left (printing.printing a name) a r x (printing_left a name) c
one_leaves c plain a r x w = absurd plain
