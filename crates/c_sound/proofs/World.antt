-- A world whose leaves hold values that fit them, and what accesses make of it.
use Rattle.std.proofs.Common.{◌≡◌, refl, sym, subst, ℕ, zero, suc, ◌+◌, List, [], ◌∷◌, ◌++◌, Bool, true, false, ◌&&◌, Option, Some, None, true≢false, drop}
use Rattle.std.specs.Prelude.{Result, Ok, Err, slice_get, slice_set, if◌then◌else◌, ◌==◌, pos, ℤ, negsuc, nat_le, ◌+ℤ◌}
use Rattle.std.specs.List.{AllByRecursion}
use Rattle.ldb_words.specs.declared.kinds.Kind.{Kind}
use Rattle.ldb_words.specs.declared.kinds.Kind.TheVariants.{Byte, Word, Address}
use Rattle.ldb_words.specs.declared.kinds.Undef.TheVariants.{Pointer}
use Rattle.runs.specs.Runs.{Why, Reason, Stale, IllTyped}
use Rattle.c_store.specs.Store.{Value, Number, Null, At, Cell, Object, World, same_kind, cell_at, with_cell, live_cells, leaf_at, is_stale, used, load, store, stored, may_hold, moved, load_all, store_all, load_struct, store_struct, ◌>>=◌}
use Rattle.c_store.specs.Frames.{Binding, Here, made, left}
use Rattle.c_sound.specs.Shapes.{is_place, Fits}

-- ---- a result has a property, or there is a reason of C's for none

abbrev pub Gives : {A : Type 0} → (A → Type 0) → Result A Why → Type 0
Gives P (Ok x) = P x
Gives P (Err (Reason u)) = Unit {0}
Gives P (Err Stale) = Unit {0}
Gives P (Err IllTyped) = ⊥

pub gives_then : {A B : Type 0} (P : A → Type 0) (Q : B → Type 0) (m : Result A Why) (g : A → Result B Why) → Gives P m → ((x : A) → P x → Gives Q (g x)) → Gives Q (m >>= g)
gives_then P Q (Ok x) g h f = f x h
gives_then P Q (Err (Reason u)) g h f = tt
gives_then P Q (Err Stale) g h f = tt
gives_then P Q (Err IllTyped) g h f = h

-- an option has a property where there is something
abbrev pub Where : {A : Type 0} → (A → Type 0) → Option A → Type 0
Where P None = Unit {0}
Where P (Some x) = P x

abbrev or_pointer : {A : Type 0} → Option A → Result A Why
or_pointer None = Err (Reason Pointer)
or_pointer (Some v) = Ok v

or_pointer_gives : {A : Type 0} (P : A → Type 0) (o : Option A) → Where P o → Gives P (or_pointer o)
or_pointer_gives P None h = tt
or_pointer_gives P (Some x) h = h

pub either_gives : {A : Type 0} (P : A → Type 0) (b : Bool) (x y : Result A Why) → Gives P x → Gives P y → Gives P (if b then x else y)
either_gives P true x y h k = h
either_gives P false x y h k = k

-- ---- lists

pub each_at : {A : Type 0} (P : A → Type 0) (xs : List A) (i : ℕ) → AllByRecursion P xs → Where P (slice_get xs i)
each_at P [] i h = tt
each_at P (x ∷ xs) zero h = h.0
each_at P (x ∷ xs) (suc i) h = each_at P xs i h.1

pub each_set : {A : Type 0} (P : A → Type 0) (xs : List A) (i : ℕ) (x : A) → AllByRecursion P xs → P x → AllByRecursion P (slice_set xs i x)
each_set P [] i x h p = tt
each_set P (y ∷ ys) zero x h p = (p, h.1)
each_set P (y ∷ ys) (suc i) x h p = (h.0, each_set P ys i x h.1 p)

pub each_append : {A : Type 0} (P : A → Type 0) (xs ys : List A) → AllByRecursion P xs → AllByRecursion P ys → AllByRecursion P (xs ++ ys)
each_append P [] ys h k = k
each_append P (x ∷ xs) ys h k = (h.0, each_append P xs ys h.1 k)

-- ---- worlds

abbrev pub CellFits : Cell → Type 0
CellFits c = Fits c.kind c.value

abbrev pub ObjectFits : Object → Type 0
ObjectFits o = AllByRecursion CellFits o.cells

abbrev pub WorldFits : World → Type 0
WorldFits w = AllByRecursion ObjectFits w.objects

by_kind : (b : Bool) (k j : Kind) (v : Value) (rest : Option Value) → Fits j v → Where (Fits k) rest → Where (Fits k) (if b && same_kind j k then Some v else rest)
by_kind false k j v rest h r = r
by_kind true Byte Byte v rest h r = h
by_kind true Byte Word v rest h r = r
by_kind true Byte Address v rest h r = r
by_kind true Word Byte v rest h r = r
by_kind true Word Word v rest h r = h
by_kind true Word Address v rest h r = r
by_kind true Address Byte v rest h r = r
by_kind true Address Word v rest h r = r
by_kind true Address Address v rest h r = h

cell_fits : (k : Kind) (i : ℕ) (cs : List Cell) → AllByRecursion CellFits cs → Where (Fits k) (cell_at k i cs)
cell_fits k i [] h = tt
cell_fits k i (c ∷ cs) h = by_kind (c.at == i) k c.kind c.value (cell_at k i cs) h.0 (cell_fits k i cs h.1)

if_live : (b : Bool) (cs : List Cell) → AllByRecursion CellFits cs → AllByRecursion CellFits (if b then cs else [])
if_live true cs h = h
if_live false cs h = tt

live_fit : (o : Option Object) → Where ObjectFits o → AllByRecursion CellFits (live_cells o)
live_fit None h = tt
live_fit (Some o) h = if_live o.live o.cells h

leaf_fits : (w : World) (k : Kind) (v : Value) → WorldFits w → Where (Fits k) (leaf_at w k v)
leaf_fits w k (Number n) h = tt
leaf_fits w k Null h = tt
leaf_fits w k (At o i) h = cell_fits k i (live_cells (slice_get w.objects o)) (live_fit (slice_get w.objects o) (each_at ObjectFits w.objects o h))

used_by : (b : Bool) (v : Value) → Gives (λ x. x ≡ v) (if b then Err Stale else Ok v)
used_by true v = tt
used_by false v = refl

pub used_gives : (w : World) (v : Value) → Gives (λ x. x ≡ v) (used w v)
used_gives w v = used_by (is_stale w v) v

pub load_gives : (w : World) (k : Kind) (v : Value) → WorldFits w → Gives (Fits k) (load w k v)
unfolding load
load_gives w k v h =
    gives_then (Fits k) (Fits k) (or_pointer (leaf_at w k v)) (used w) (or_pointer_gives (Fits k) (leaf_at w k v) (leaf_fits w k v h)) λ x f.
    gives_kept (Fits k) x (used w x) (used_gives w x) f
  where
    gives_kept : (P : Value → Type 0) (x : Value) (m : Result Value Why) → Gives (λ y. y ≡ x) m → P x → Gives P m
    gives_kept P x (Ok y) e h = subst P (sym e) h
    gives_kept P x (Err (Reason u)) e h = tt
    gives_kept P x (Err Stale) e h = tt
    gives_kept P x (Err IllTyped) e h = e

-- ---- writing

by_written : (b : Bool) (k : Kind) (c : Cell) (cs rest : List Cell) (v : Value) → CellFits c → AllByRecursion CellFits cs → AllByRecursion CellFits rest → Fits k v
    → AllByRecursion CellFits (if b && same_kind c.kind k then record c { value = v } ∷ cs else c ∷ rest)
by_written b k c cs rest v h t r f = by_kinds b c.kind refl
  where
    by_kinds : (b : Bool) (j : Kind) → c.kind ≡ j → AllByRecursion CellFits (if b && same_kind j k then record c { value = v } ∷ cs else c ∷ rest)
    by_kinds false j e = (h, r)
    by_kinds true j e = by_same j k e f
      where
        by_same : (j k : Kind) → c.kind ≡ j → Fits k v → AllByRecursion CellFits (if same_kind j k then record c { value = v } ∷ cs else c ∷ rest)
        by_same Byte Byte e f = (subst (λ q. Fits q v) (sym e) f, t)
        by_same Word Word e f = (subst (λ q. Fits q v) (sym e) f, t)
        by_same Address Address e f = (subst (λ q. Fits q v) (sym e) f, t)
        by_same Byte Word e f = (h, r)
        by_same Byte Address e f = (h, r)
        by_same Word Byte e f = (h, r)
        by_same Word Address e f = (h, r)
        by_same Address Byte e f = (h, r)
        by_same Address Word e f = (h, r)

written_cells : (k : Kind) (i : ℕ) (v : Value) (cs : List Cell) → AllByRecursion CellFits cs → Fits k v → AllByRecursion CellFits (with_cell k i v cs)
written_cells k i v [] h f = tt
written_cells k i v (c ∷ cs) h f = by_written (c.at == i) k c cs (with_cell k i v cs) v h.0 h.1 (written_cells k i v cs h.1 f) f

abbrev replaced : Kind → ℕ → Value → Option Object → List Object → ℕ → List Object
replaced k i v None objects o = objects
replaced k i v (Some ob) objects o = slice_set objects o (record ob { cells = with_cell k i v ob.cells })

replaced_fits : (k : Kind) (i : ℕ) (v : Value) (ob : Option Object) (objects : List Object) (o : ℕ) → AllByRecursion ObjectFits objects → Where ObjectFits ob → Fits k v → AllByRecursion ObjectFits (replaced k i v ob objects o)
replaced_fits k i v None objects o h g f = h
replaced_fits k i v (Some ob) objects o h g f = each_set ObjectFits objects o (record ob { cells = with_cell k i v ob.cells }) h (written_cells k i v ob.cells g f)

-- a value that fits may be held
pub fits_hold : (k : Kind) (v : Value) → Fits k v → may_hold k v ≡ true
fits_hold Byte (Number n) f = refl
fits_hold Word (Number n) f = refl
fits_hold Byte Null f = sym f
fits_hold Byte (At o i) f = sym f
fits_hold Word Null f = sym f
fits_hold Word (At o i) f = sym f
fits_hold Address (Number n) f = f
fits_hold Address Null f = refl
fits_hold Address (At o i) f = refl

pub held_gives : {A : Type 0} (P : A → Type 0) (k : Kind) (v : Value) (m : Result A Why) → Fits k v → Gives P m → Gives P (if may_hold k v then m else Err IllTyped)
held_gives P k v m f g = subst (λ b. Gives P (if b then m else Err IllTyped)) (sym (fits_hold k v f)) g

stored_gives : (w : World) (k : Kind) (place v : Value) → WorldFits w → Fits k v → Gives WorldFits (stored w k place v)
stored_gives w k (Number n) v h f = tt
stored_gives w k Null v h f = tt
stored_gives w k (At o i) v h f =
    gives_then (λ _. Unit {0}) WorldFits (or_pointer (leaf_at w k (At o i))) _ (or_pointer_gives (λ _. Unit {0}) (leaf_at w k (At o i)) (always (leaf_at w k (At o i)))) λ x u.
    either_gives WorldFits _ (Ok (record w { objects = replaced k i v (slice_get w.objects o) w.objects o })) (Err (Reason Pointer)) (replaced_fits k i v (slice_get w.objects o) w.objects o h (each_at ObjectFits w.objects o h) f) tt
  where
    always : (o : Option Value) → Where (λ _. Unit {0}) o
    always None = tt
    always (Some x) = tt

pub store_gives : (w : World) (k : Kind) (place v : Value) → WorldFits w → Fits k v → Gives WorldFits (store w k place v)
unfolding store
store_gives w k place v h f = held_gives WorldFits k v (stored w k place v) f (stored_gives w k place v h f)

-- ---- moving

abbrev within : ℕ → ℤ → Option Object → Result Value Why
within o (pos i) None = Err (Reason Pointer)
within o (pos i) (Some ob) = if nat_le i ob.size then Ok (At o i) else Err (Reason Pointer)
within o (negsuc i) ob = Err (Reason Pointer)

within_gives : (o : ℕ) (z : ℤ) (ob : Option Object) → Gives (λ x. is_place x ≡ true) (within o z ob)
within_gives o (pos i) None = tt
within_gives o (pos i) (Some ob) = either_gives (λ x. is_place x ≡ true) (nat_le i ob.size) (Ok (At o i)) (Err (Reason Pointer)) refl tt
within_gives o (negsuc i) ob = tt

pub moved_gives : (w : World) (v : Value) (by : ℤ) → is_place v ≡ true → Gives (λ x. is_place x ≡ true) (moved w v by)
unfolding moved
moved_gives w (Number n) by h = absurd (true≢false (sym h))
moved_gives w Null by h = tt
moved_gives w (At o i) by h =
    gives_then (λ x. x ≡ At o i) (λ x. is_place x ≡ true) (used w (At o i)) (λ p. within o (pos i +ℤ by) (slice_get w.objects o)) (used_gives w (At o i)) λ x e.
    within_gives o (pos i +ℤ by) (slice_get w.objects o)

-- ---- structs

abbrev pub FitEach : List Cell → List Value → Type 0
FitEach [] vs = Unit {0}
FitEach (l ∷ ls) [] = ⊥
FitEach (l ∷ ls) (v ∷ vs) = Fits l.kind v × FitEach ls vs

load_all_gives : (w : World) (o i : ℕ) (ls : List Cell) → WorldFits w → Gives (FitEach ls) (load_all w o i ls)
load_all_gives w o i [] h = tt
load_all_gives w o i (l ∷ ls) h =
    gives_then (Fits l.kind) (FitEach (l ∷ ls)) (load w l.kind (At o (i + l.at))) _ (load_gives w l.kind (At o (i + l.at)) h) λ v f.
    gives_then (FitEach ls) (FitEach (l ∷ ls)) (load_all w o i ls) _ (load_all_gives w o i ls h) λ vs g. (f, g)

pub load_struct_gives : (w : World) (ls : List Cell) (v : Value) → WorldFits w → is_place v ≡ true → Gives (FitEach ls) (load_struct w ls v)
unfolding load_struct
load_struct_gives w ls (Number n) h e = absurd (true≢false (sym e))
load_struct_gives w ls Null h e = tt
load_struct_gives w ls (At o i) h e = load_all_gives w o i ls h

store_all_gives : (w : World) (o i : ℕ) (ls : List Cell) (vs : List Value) → WorldFits w → FitEach ls vs → Gives WorldFits (store_all w o i ls vs)
store_all_gives w o i [] vs h f = h
store_all_gives w o i (l ∷ ls) [] h f = absurd f
store_all_gives w o i (l ∷ ls) (v ∷ vs) h f =
    gives_then WorldFits WorldFits (store w l.kind (At o (i + l.at)) v) _ (store_gives w l.kind (At o (i + l.at)) v h f.0) λ w' g.
    store_all_gives w' o i ls vs g f.1

pub store_struct_gives : (w : World) (ls : List Cell) (v : Value) (vs : List Value) → WorldFits w → is_place v ≡ true → FitEach ls vs → Gives WorldFits (store_struct w ls v vs)
unfolding store_struct
store_struct_gives w ls (Number n) vs h e f = absurd (true≢false (sym e))
store_struct_gives w ls Null vs h e f = tt
store_struct_gives w ls (At o i) vs h e f = store_all_gives w o i ls vs h f

-- ---- objects that begin and end

pub made_fits : (x size : ℕ) (cells : List Cell) (h : Here) → WorldFits h.world → AllByRecursion CellFits cells → WorldFits (made x size cells h).world
unfolding made
made_fits x size cells h w c = each_append ObjectFits h.world.objects (_ ∷ []) w (c, tt)

abbrev dead : Option Object → List Object → ℕ → List Object
dead None objects o = objects
dead (Some ob) objects o = slice_set objects o (record ob { live = false })

abbrev ended : List Binding → List Object → List Object
ended [] objects = objects
ended (b ∷ bs) objects = ended bs (dead (slice_get objects b.object) objects b.object)

dead_fits : (ob : Option Object) (objects : List Object) (o : ℕ) → AllByRecursion ObjectFits objects → Where ObjectFits ob → AllByRecursion ObjectFits (dead ob objects o)
dead_fits None objects o h g = h
dead_fits (Some ob) objects o h g = each_set ObjectFits objects o (record ob { live = false }) h g

ended_fits : (bs : List Binding) (objects : List Object) → AllByRecursion ObjectFits objects → AllByRecursion ObjectFits (ended bs objects)
ended_fits [] objects h = h
ended_fits (b ∷ bs) objects h = ended_fits bs (dead (slice_get objects b.object) objects b.object) (dead_fits (slice_get objects b.object) objects b.object h (each_at ObjectFits objects b.object h))

pub left_fits : (n : ℕ) (h : Here) → WorldFits h.world → WorldFits (left n h).world
unfolding left
left_fits n h w = ended_fits (drop n h.activation.locals) h.world.objects w
