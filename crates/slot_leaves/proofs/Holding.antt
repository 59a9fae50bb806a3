-- Each step keeps it that leaves hold what their kinds may hold.
use Rattle.std.proofs.Common.{◌≡◌, refl, sym, ap, subst, ◌∙◌, ℕ, zero, suc, ◌+◌, ◌*◌, List, [], ◌∷◌, ◌++◌, length, Bool, true, false, ◌&&◌, Option, Some, None, true≢false, slice_get, ◌⊎◌, inl, inr}
use Rattle.std.specs.Prelude.{Result, Ok, Err, slice_set, map, reverse, take, drop, ◌==◌, if◌then◌else◌}
use Rattle.std.specs.List.{AllByRecursion}
use Rattle.ldb_words.specs.declared.kinds.Kind.{Kind}
use Rattle.ldb_words.specs.declared.kinds.Kind.TheVariants.{Byte, Word, Address}
use Rattle.ldb_words.specs.declared.kinds.Undef.TheVariants.{Pointer}
use Rattle.runs.specs.Runs.{Next, Goes, Passes, Exits, Undefined, Why, Reason, IllTyped, Outcome, Reached, Breaks, after, after_count, past, then_on}
use Rattle.c_tree.specs.declared.types.Leaf.{Leaf}
use Rattle.c_operators.specs.Bits.{low_byte}
use Rattle.c_store.specs.Store.{Value, Number, Null, At, Cell, Object, World, is_here, same_kind, with_cell, leaf_at, or_pointer, may_write, may_hold, written, stored, store, used, load_struct, store_struct, store_all, with_first, zero_of, Auto, ◌>>=◌}
use Rattle.c_store.specs.Frames.{Here, ActivationRecord, Binding, made, left, is_free, new_activation, with_world}
use Rattle.c_store.specs.Assigned.{Assignment, History, stored_or, all_assigned, at_stop}
use Rattle.slot_ir.specs.declared.code.SlotCode.{SlotCode}
use Rattle.slot_ir.specs.declared.code.SlotLocal.{SlotLocal}
use Rattle.slot_ir.specs.declared.code.SlotObject.{SlotObject}
use Rattle.slot_ir.specs.declared.code.SlotStart.{SlotStart}
use Rattle.slot_ir.specs.declared.code.SlotValue.{SlotValue}
use Rattle.slot_ir.specs.declared.code.SlotValue.TheVariants as start
use Rattle.slot_ir.specs.declared.code.SlotOp.{SlotOp}
use Rattle.slot_ir.specs.declared.code.SlotOp.TheVariants as op
use Rattle.slot_ir.specs.Operators.{extended, number_in}
use Rattle.slot_ir.specs.Slots.{SlotState, Frame, code_of, local_row, zero_cell, zero_cells, zeroed_row, zeroed_local, leaf_count_in, given_row, given, entered, last_temps, leaves_in}
use Rattle.slot_ir.specs.Slots as slots
use Rattle.slot_ir.specs.Begin.{begin, acted, start_kind, start_cells, static_objects, characters, string_objects}
use Rattle.slot_ir.specs.WellFormed.{IsNumber, IsStart, IsObject}
use Rattle.slot_leaves.specs.Leaves.{HoldsItsKind, HaveKinds, LeavesHoldTheirKind}

abbrev Cells : List Cell → Type 0
Cells cs = AllByRecursion HoldsItsKind cs

abbrev Whole : Object → Type 0
Whole o = Cells o.cells

all_append : {A : Type 0} (P : A → Type 0) (xs ys : List A) → AllByRecursion P xs → AllByRecursion P ys → AllByRecursion P (xs ++ ys)
all_append P [] ys h k = k
all_append P (x ∷ xs) ys h k = (h.0, all_append P xs ys h.1 k)

all_set : {A : Type 0} (P : A → Type 0) (xs : List A) (i : ℕ) (x : A) → AllByRecursion P xs → P x → AllByRecursion P (slice_set xs i x)
all_set P [] i x h k = h
all_set P (y ∷ ys) zero x h k = (k, h.1)
all_set P (y ∷ ys) (suc i) x h k = (h.0, all_set P ys i x h.1 k)

at_item : {A : Type 0} (P : A → Type 0) (xs : List A) (i : ℕ) → AllByRecursion P xs → elim (slice_get xs i) as (λ _. Type 0) [ None ↦ Unit {0} | Some x ↦ P x ]
at_item P [] i h = tt
at_item P (y ∷ ys) zero h = h.0
at_item P (y ∷ ys) (suc i) h = at_item P ys i h.1

-- ---- writes

same_hold : (k l : Kind) (v : Value) → same_kind l k ≡ true → may_hold k v ≡ true → may_hold l v ≡ true
same_hold Byte Byte v e h = h
same_hold Word Word v e h = h
same_hold Address Address v e h = h
same_hold _ _ v e h = absurd (true≢false (sym e))

and_last : (a b : Bool) → a && b ≡ true → b ≡ true
and_last true b h = h
and_last false b h = absurd (true≢false (sym h))

with_cell_holds : (k : Kind) (i : ℕ) (v : Value) (cs : List Cell) → may_hold k v ≡ true → Cells cs → Cells (with_cell k i v cs)
with_cell_holds k i v [] m h = tt
with_cell_holds k i v (c ∷ cs) m h = by (is_here k i c) refl (with_cell_holds k i v cs m h.1)
  where
    by : (b : Bool) → is_here k i c ≡ b → Cells (with_cell k i v cs) → Cells (if b then record c { value = v } ∷ cs else c ∷ with_cell k i v cs)
    by true e rest = (same_hold k c.kind v (and_last (c.at == i) (same_kind c.kind k) e) m, h.1)
    by false e rest = (h.0, rest)

abbrev replaced : Kind → ℕ → Value → Option Object → List Object → ℕ → List Object
replaced k i v None objects o = objects
replaced k i v (Some ob) objects o = slice_set objects o (record ob { cells = with_cell k i v ob.cells })

written_holds : (w : World) (k : Kind) (place v : Value) → may_hold k v ≡ true → HaveKinds w.objects → HaveKinds (written w k place v).objects
written_holds w k (Number n) v m h = h
written_holds w k Null v m h = h
written_holds w k (At o i) v m h = by (slice_get w.objects o) (at_item Whole w.objects o h)
  where
    by : (q : Option Object) → elim q as (λ _. Type 0) [ None ↦ Unit {0} | Some x ↦ Whole x ] → HaveKinds (replaced k i v q w.objects o)
    by None g = h
    by (Some ob) g = all_set Whole w.objects o (record ob { cells = with_cell k i v ob.cells }) h (with_cell_holds k i v ob.cells m g)

abbrev Kept : Result World Why → Type 0
Kept (Ok w) = HaveKinds w.objects
Kept (Err e) = Unit {0}

store_holds : (w : World) (k : Kind) (place v : Value) → HaveKinds w.objects → Kept (store w k place v)
unfolding store
store_holds w k place v h = by (may_hold k v) refl
  where
    last : (b : Bool) → may_hold k v ≡ true → Kept (if b then Ok (written w k place v) else Err (Reason Pointer))
    last true m = written_holds w k place v m h
    last false m = tt

    leaf : (o : Option Value) → may_hold k v ≡ true → Kept (or_pointer o >>= λ old. if may_write w place then Ok (written w k place v) else Err (Reason Pointer))
    leaf None m = tt
    leaf (Some old) m = last (may_write w place) m

    by : (b : Bool) → may_hold k v ≡ b → Kept (if b then stored w k place v else Err IllTyped)
    by true m = leaf (leaf_at w k place) m
    by false m = tt

all_holds : (w : World) (o i : ℕ) (cs : List Cell) (vs : List Value) → HaveKinds w.objects → Kept (store_all w o i cs vs)
all_holds w o i [] vs h = h
all_holds w o i (l ∷ ls) [] h = tt
all_holds w o i (l ∷ ls) (v ∷ vs) h = by (store w l.kind (At o (i + l.at)) v) (store_holds w l.kind (At o (i + l.at)) v h) (λ w' g. all_holds w' o i ls vs g)
  where
    by : (r : Result World Why) → Kept r → ((w' : World) → HaveKinds w'.objects → Kept (store_all w' o i ls vs)) → Kept (r >>= λ w'. store_all w' o i ls vs)
    by (Ok w') g rest = rest w' g
    by (Err e) g rest = tt

struct_holds : (w : World) (cs : List Cell) (place : Value) (vs : List Value) → HaveKinds w.objects → Kept (store_struct w cs place vs)
unfolding store_struct
struct_holds w cs (Number n) vs h = tt
struct_holds w cs Null vs h = tt
struct_holds w cs (At o i) vs h = all_holds w o i cs vs h

assigned_holds : (changes : List Assignment) (w : World) → HaveKinds w.objects → HaveKinds (all_assigned changes w).objects
assigned_holds [] w h = h
assigned_holds (a ∷ rest) w h = assigned_holds rest (stored_or w (store w a.kind a.place a.value)) (by (store w a.kind a.place a.value) (store_holds w a.kind a.place a.value h))
  where
    by : (r : Result World Why) → Kept r → HaveKinds (stored_or w r).objects
    by (Ok w') g = g
    by (Err e) g = h

-- ---- objects that begin and end

zero_kind : (k : Kind) → may_hold k (zero_of k) ≡ true
zero_kind Byte = refl
zero_kind Word = refl
zero_kind Address = refl

zeros_hold : (ls : List Leaf) → Cells (zero_cells ls)
zeros_hold [] = tt
zeros_hold (l ∷ ls) = (zero_kind l.kind, zeros_hold ls)

made_holds : (x size : ℕ) (cs : List Cell) (h : Here) → Cells cs → HaveKinds h.world.objects → HaveKinds (made x size cs h).world.objects
unfolding made
made_holds x size cs h c k = all_append Whole h.world.objects (record { origin = Auto h.activation.function x h.activation.number; live = true; size = size; cells = cs } ∷ []) k (c, tt)

abbrev dead : Option Object → List Object → ℕ → List Object
dead None objects o = objects
dead (Some ob) objects o = slice_set objects o (record ob { live = false })

abbrev ended : List Binding → List Object → List Object
ended [] objects = objects
ended (b ∷ bs) objects = ended bs (dead (slice_get objects b.object) objects b.object)

ended_holds : (bs : List Binding) (objects : List Object) → HaveKinds objects → HaveKinds (ended bs objects)
ended_holds [] objects h = h
ended_holds (b ∷ bs) objects h = ended_holds bs (dead (slice_get objects b.object) objects b.object) (by (slice_get objects b.object) (at_item Whole objects b.object h))
  where
    by : (q : Option Object) → elim q as (λ _. Type 0) [ None ↦ Unit {0} | Some x ↦ Whole x ] → HaveKinds (dead q objects b.object)
    by None g = h
    by (Some ob) g = all_set Whole objects b.object (record ob { live = false }) h g

left_holds : (n : ℕ) (h : Here) → HaveKinds h.world.objects → HaveKinds (left n h).world.objects
unfolding left
left_holds n h k = ended_holds (drop n h.activation.locals) h.world.objects k

zeroed_holds : (o : Option SlotLocal) (x : ℕ) (h : Here) → HaveKinds h.world.objects → HaveKinds (zeroed_row o x h).world.objects
zeroed_holds None x h k = made_holds x 0 [] h tt k
zeroed_holds (Some l) x h k = made_holds x l.size (zero_cells l.leaves) h (zeros_hold l.leaves) k

abbrev Given : Result Here Why → Type 0
Given (Ok h) = HaveKinds h.world.objects
Given (Err w) = Unit {0}

abbrev First : Result (List Cell) Why → Type 0
First (Ok cs) = Cells cs
First (Err w) = Unit {0}

first_holds : (v : Value) (cs : List Cell) → Cells cs → First (with_first v cs)
first_holds v [] h = tt
first_holds v (c ∷ cs) h = by (may_hold c.kind v) refl
  where
    by : (b : Bool) → may_hold c.kind v ≡ b → First (if b then Ok (record c { value = v } ∷ cs) else Err IllTyped)
    by true e = (e, h.1)
    by false e = tt

row_holds : (o : Option SlotLocal) (x : ℕ) (v : Value) (h : Here) → HaveKinds h.world.objects → Given (given_row o x v h)
row_holds None x v h k = made_holds x 0 [] h tt k
row_holds (Some l) x v h k = by (extended l.access v)
  where
    cells : (r : Result (List Cell) Why) → First r → Given (r >>= λ cs. Ok (made x l.size cs h))
    cells (Err w) g = tt
    cells (Ok cs) g = made_holds x l.size cs h g k

    by : (r : Result Value Why) → Given (r >>= λ u. with_first u (zero_cells l.leaves) >>= λ cs. Ok (made x l.size cs h))
    by (Err w) = tt
    by (Ok u) = cells (with_first u (zero_cells l.leaves)) (first_holds u (zero_cells l.leaves) (zeros_hold l.leaves))

given_holds : (c : SlotCode) (f x : ℕ) (vs : List Value) (h : Here) → HaveKinds h.world.objects → Given (given c f x vs h)
given_holds c f x [] h k = k
given_holds c f x (v ∷ vs) h k = by (given_row (local_row c f x) x v h) (row_holds (local_row c f x) x v h k) (λ h' g. given_holds c f (suc x) vs h' g)
  where
    by : (r : Result Here Why) → Given r → ((h' : Here) → HaveKinds h'.world.objects → Given (given c f (suc x) vs h')) → Given (r >>= given c f (suc x) vs)
    by (Err w) g rest = tt
    by (Ok h') g rest = rest h' g

-- ---- steps

module _ (c : SlotCode) where
  abbrev Fine : Next SlotState → Type 0
  Fine (Goes n t) = HaveKinds t.here.world.objects
  Fine (Passes q n t) = HaveKinds t.here.world.objects
  Fine (Exits v n t) = HaveKinds t.here.world.objects
  Fine (Undefined w) = Unit {0}

  temp_fine : (o : Option Value) (go : Value → Next SlotState) → ((v : Value) → Fine (go v)) → Fine (slots.on_temp o go)
  temp_fine None go h = tt
  temp_fine (Some v) go h = h v

  temps_fine : (o : Option (List Value)) (go : List Value → Next SlotState) → ((vs : List Value) → Fine (go vs)) → Fine (slots.on_temps o go)
  temps_fine None go h = tt
  temps_fine (Some vs) go h = h vs

  some_fine : {A : Type 0} (o : Option A) (go : A → Next SlotState) → ((x : A) → Fine (go x)) → Fine (slots.on_some o go)
  some_fine None go h = tt
  some_fine (Some x) go h = h x

  ok_fine : {A : Type 0} (r : Result A Why) (go : A → Next SlotState) → ((x : A) → Fine (go x)) → Fine (slots.on_ok r go)
  ok_fine (Err w) go h = tt
  ok_fine (Ok x) go h = h x

  world_fine : (r : Result World Why) (go : World → Next SlotState) → Kept r → ((w : World) → HaveKinds w.objects → Fine (go w)) → Fine (slots.on_ok r go)
  world_fine (Err w) go k h = tt
  world_fine (Ok x) go k h = h x k

  here_fine : (r : Result Here Why) (go : Here → Next SlotState) → Given r → ((h : Here) → HaveKinds h.world.objects → Fine (go h)) → Fine (slots.on_ok r go)
  here_fine (Err w) go k h = tt
  here_fine (Ok x) go k h = h x k

  module _ (t : SlotState) (k : HaveKinds t.here.world.objects) where
    gives_fine : (d : ℕ) (r : Result Value Why) → Fine (slots.gives c t d r)
    gives_fine d r = ok_fine r (λ v. slots.sets c t d v) λ v. k

    two_fine : (i j d : ℕ) (g : Value → Value → Result Value Why) → Fine (slots.on_two c t i j g d)
    two_fine i j d g = temp_fine (t.temps i) _ λ x. temp_fine (t.temps j) _ λ y. gives_fine d (g x y)

    writes_fine : (kd : Kind) (place : Value) (j : ℕ) → Fine (slots.writes c t kd place j)
    writes_fine kd place j = temp_fine (t.temps j) _ λ v. world_fine (store t.here.world kd place v) _ (store_holds t.here.world kd place v k) λ w h. h

    copies_fine : (to from : ℕ) (ls : List Leaf) → Fine (slots.copies c t to from ls)
    copies_fine to from ls =
        temp_fine (t.temps to) _ λ x. temp_fine (t.temps from) _ λ y. ok_fine (load_struct t.here.world (zero_cells ls) y) _ λ vs.
        world_fine (store_struct t.here.world (zero_cells ls) x vs) _ (struct_holds t.here.world (zero_cells ls) x vs k) λ w h. h

    if_fine : (b : Bool) (y : ℕ) → Fine (slots.jumps_if c t b y)
    if_fine true y = k
    if_fine false y = k

    not_fine : (b : Bool) (y : ℕ) → Fine (if b then slots.jumps c t (t.pc + 1) else slots.jumps c t y)
    not_fine true y = k
    not_fine false y = k

    calls_fine : (d g n : ℕ) → Fine (slots.calls c t d g n)
    calls_fine d g n =
        temps_fine (last_temps t.temps d n) _ λ vs.
        here_fine (entered c (suc t.here.activation.number) g (reverse vs) t.here.world) _ (given_holds c g 0 (reverse vs) (record { world = t.here.world; activation = new_activation (suc t.here.activation.number) g }) k) λ h q. q

    returns_fine : (v : Value) (outer : List Frame) → Fine (slots.returns c t v outer)
    returns_fine v [] = ok_fine (number_in v) _ λ n. k
    returns_fine v (g ∷ outer) = left_holds 0 t.here k

    begins_fine : (x : ℕ) → Fine (slots.begins c t x)
    begins_fine x = by (is_free x t.here.activation.locals)
      where
        by : (b : Bool) → Fine (if b then slots.goes c t (leaf_count_in (local_row c t.here.activation.function x)) (zeroed_local c x t.here) else Undefined IllTyped)
        by true = zeroed_holds (local_row c t.here.activation.function x) x t.here k
        by false = tt

    act_fine : (o : SlotOp) → Fine (slots.act c t o)
    act_fine (op.Const d n) = k
    act_fine (op.Null d) = k
    act_fine (op.StaticAddress d x) = k
    act_fine (op.TextAddress d x) = k
    act_fine (op.LocalAddress d x) = some_fine (slots.address_of t.here x) _ λ v. k
    act_fine (op.Load d i kd a) = temp_fine (t.temps i) _ λ v. gives_fine d _
    act_fine (op.Store i j kd) = temp_fine (t.temps i) _ λ v. writes_fine kd v j
    act_fine (op.ReadRegister d x kd a) = some_fine (slots.address_of t.here x) _ λ v. gives_fine d _
    act_fine (op.WriteRegister j x kd) = some_fine (slots.address_of t.here x) _ λ v. writes_fine kd v j
    act_fine (op.Convert d a) = temp_fine (t.temps d) _ λ v. gives_fine d _
    act_fine (op.Unary d u) = temp_fine (t.temps d) _ λ v. gives_fine d _
    act_fine (op.Binary d i j b) = two_fine i j d _
    act_fine (op.Compare d i j b) = two_fine i j d _
    act_fine (op.Index d i j s u b) = two_fine i j d _
    act_fine (op.Distance d i j s) = two_fine i j d _
    act_fine (op.Offset d n) = temp_fine (t.temps d) _ λ v. gives_fine d _
    act_fine (op.Take d i) = temp_fine (t.temps i) _ λ v. k
    act_fine (op.Jump y) = k
    act_fine (op.JumpIfZero d y) = temp_fine (t.temps d) _ λ v. ok_fine (used t.here.world v) _ λ x. if_fine _ y
    act_fine (op.JumpIfNotZero d y) = temp_fine (t.temps d) _ λ v. ok_fine (used t.here.world v) _ λ x. not_fine _ y
    act_fine (op.JumpIfEqual d b y) = temp_fine (t.temps d) _ λ v. ok_fine (number_in v) _ λ m. if_fine _ y
    act_fine (op.Call d g n) = calls_fine d g n
    act_fine (op.Return d) = temp_fine (t.temps d) _ λ v. returns_fine v t.outer
    act_fine (op.Stop q) = k
    act_fine (op.Move i j s) = copies_fine i j (leaves_in (slice_get c.structs s))
    act_fine (op.Zero x) = begins_fine x
    act_fine (op.Leave n) = left_holds n t.here k
    act_fine (op.GetChar d) = k
    act_fine (op.PutChar d) = temp_fine (t.temps d) _ λ v. ok_fine (number_in v) _ λ n. k
    act_fine (op.Exit d) = temp_fine (t.temps d) _ λ v. ok_fine (number_in v) _ λ n. k

    step_fine : Fine (slots.step c t)
    step_fine = by (slice_get (code_of c t.here.activation.function) t.pc)
      where
        by : (o : Option SlotOp) → Fine (slots.at_op c t o)
        by None = tt
        by (Some o) = act_fine o

  -- ---- runs

  module _ (h : History) where
    abbrev Reaches : Outcome SlotState → Type 0
    Reaches (Reached m) = HaveKinds m.state.here.world.objects
    Reaches (Breaks w) = Unit {0}

    counted : (n : ℕ) (o : Outcome SlotState) → Reaches o → Reaches (after_count SlotState n o)
    counted n (Reached m) k = k
    counted n (Breaks w) k = tt

    passed : (q : ℕ) (o : Outcome SlotState) → Reaches o → Reaches (past SlotState q o)
    passed q (Reached m) k = k
    passed q (Breaks w) k = tt

    then_reaches : (n : Next SlotState) (rest : ℕ → SlotState → Outcome SlotState) (i : ℕ) → Fine n → ((i : ℕ) (t : SlotState) → HaveKinds t.here.world.objects → Reaches (rest i t)) → Reaches (then_on SlotState (slots.step c) (acted h) n rest i)
    then_reaches (Goes n t) rest i f k = counted n (rest i t) (k i t f)
    then_reaches (Passes q n t) rest i f k = counted n _ (passed q (rest (suc i) (acted h i t)) (k (suc i) (acted h i t) (assigned_holds (at_stop h i) t.here.world f)))
    then_reaches (Exits v n t) rest i f k = f
    then_reaches (Undefined w) rest i f k = tt

    runs_reach : (n i : ℕ) (t : SlotState) → HaveKinds t.here.world.objects → Reaches (after SlotState (slots.step c) (acted h) n i t)
    runs_reach zero i t g = g
    runs_reach (suc n) i t g = then_reaches (slots.step c t) (after SlotState (slots.step c) (acted h) n) i (step_fine t g) (λ i t g. runs_reach n i t g)

-- ---- the start

abbrev held : SlotCode → SlotValue → Value
held c (start.Number n) = Number n
held c start.Null = Null
held c (start.Object o i) = At o i
held c (start.Str k) = At (length c.objects + k) 0

abbrev kind_of_four : SlotValue → Kind
kind_of_four (start.Number n) = Word
kind_of_four _ = Address

start_holds : (c : SlotCode) (s : SlotStart) → IsStart c s → HoldsItsKind (record { at = s.at; kind = start_kind s.width s.value; value = held c s.value })
start_holds c s h = by s.width s.value h.0
  where
    four : (w : ℕ) (v : SlotValue) → start_kind w v ≡ kind_of_four v → may_hold (start_kind w v) (held c v) ≡ true
    four w v e = subst (λ k. may_hold k (held c v) ≡ true) (sym e) (each v)
      where
        each : (v : SlotValue) → may_hold (kind_of_four v) (held c v) ≡ true
        each (start.Number n) = refl
        each start.Null = refl
        each (start.Object o i) = refl
        each (start.Str k) = refl

    one : (v : SlotValue) → IsNumber v → may_hold Byte (held c v) ≡ true
    one (start.Number n) h = refl
    one _ h = absurd h

    by : (w : ℕ) (v : SlotValue) → (w ≡ 4) ⊎ ((w ≡ 1) × IsNumber v) → may_hold (start_kind w v) (held c v) ≡ true
    by w v (inl e) = subst (λ w. may_hold (start_kind w v) (held c v) ≡ true) (sym e) (four 4 v refl)
    by w v (inr e) = subst (λ w. may_hold (start_kind w v) (held c v) ≡ true) (sym e.0) (one v e.1)

starts_hold : (c : SlotCode) (ss : List SlotStart) → AllByRecursion (IsStart c) ss → Cells (start_cells c ss)
starts_hold c [] h = tt
starts_hold c (s ∷ ss) h = (start_holds c s h.0, starts_hold c ss h.1)

statics_hold : (c : SlotCode) (n : ℕ) (rows : List SlotObject) → AllByRecursion (IsObject c) rows → HaveKinds (static_objects c n rows)
statics_hold c n [] h = tt
statics_hold c n (row ∷ rows) h = (starts_hold c row.start h.0.0, statics_hold c (suc n) rows h.1)

characters_hold : (i : ℕ) (cs : List ℕ) → Cells (characters i cs)
characters_hold i [] = (refl, tt)
characters_hold i (c ∷ cs) = (refl, characters_hold (suc i) cs)

strings_hold : (k : ℕ) (ss : List (List ℕ)) → HaveKinds (string_objects k ss)
strings_hold k [] = tt
strings_hold k (s ∷ ss) = (characters_hold 0 s, strings_hold (suc k) ss)

pub leaves_hold : (c : SlotCode) → AllByRecursion (IsObject c) c.objects → LeavesHoldTheirKind c
leaves_hold c h = λ input hist n k e.
    subst (Reaches c hist) e (runs_reach c hist n 0 (begin c input) (all_append Whole (static_objects c 0 c.objects) (string_objects 0 c.strings) (statics_hold c 0 c.objects h) (strings_hold 0 c.strings)))
