-- Pieces of code that take no number but 0 as a pointer: where what stands behind a piece does so, the piece does.
use Rattle.std.proofs.Common.{◌≡◌, refl, sym, ap, subst, ◌∙◌, arith, ℕ, ◌+◌, ◌<◌, ◌≤◌, List, [], ◌∷◌, ◌++◌, length, length-append, append_assoc, Bool, true, false, not, Option, Some, slice_get}
use Rattle.std.specs.Prelude.{Ok}
use Rattle.std.proofs.lemmas.Bool.{ne_eqb}
use Rattle.std.proofs.Math.Dec.{eqb_refl}
use Rattle.ldb_words.specs.declared.kinds.Kind.{Kind}
use Rattle.ldb_words.specs.Word.{bit_of}
use Rattle.c_tree.specs.declared.types.CType.{CType}
use Rattle.c_tree.specs.declared.rows.Program.{Program}
use Rattle.c_tree.specs.declared.rows.Function.{Function}
use Rattle.c_typing.specs.Plain.{plain, is_pointer}
use Rattle.c_store.specs.Store.{Value, Number, Null, World, used}
use Rattle.c_store.specs.Frames.{Here}
use Rattle.slot_ir.specs.declared.code.Access.{Access}
use Rattle.slot_ir.specs.declared.code.Access.TheVariants as access
use Rattle.slot_ir.specs.declared.code.WordOp.{WordOp}
use Rattle.slot_ir.specs.declared.code.PointerOp.{PointerOp}
use Rattle.slot_ir.specs.declared.code.UnaryWordOp.{UnaryWordOp}
use Rattle.slot_ir.specs.declared.code.UnaryWordOp.TheVariants.{Truth}
use Rattle.slot_ir.specs.declared.code.SlotCode.{SlotCode}
use Rattle.slot_ir.specs.declared.code.SlotOp.{SlotOp}
use Rattle.slot_ir.specs.declared.code.SlotOp.TheVariants as op
use Rattle.slot_ir.specs.Operators.{extended, is_zero, unary, binary}
use Rattle.slot_ir.specs.Slots.{SlotState, Temps, with_temp, Frame}
use Rattle.slot_pointers.specs.Taken.{is_pointer as points, serves, takes}
use Rattle.slot_gen.specs.Expressions.{access_of, converting, cast_code, choice_code, and_code, or_code}
use Rattle.slot_formed.proofs.Lists.{some_same}
use Rattle.slot_formed.proofs.Quiet.{HasAt, has_front, has_back}
use Rattle.slot_formed.proofs.Claims.{Held, holds_all, cast_serves}
use Rattle.slot_formed.proofs.Safe as safe
use Rattle.slot_formed.proofs.Safe.{Safe, slot, In, From, code, fewer, bound_from, used_same}

-- ---- calls and returns

-- a result of a function
abbrev pub Gives : Function → Value → Type 0
Gives fn v = is_pointer (plain fn.result) ≡ true → points v ≡ true

-- where a function returns to, k steps are safe
abbrev pub Returning : SlotCode → Function → ℕ → ℕ → List Frame → Type 0
Returning c fn k at [] = Unit {0}
Returning c fn k at (g ∷ frames) = (j : ℕ) → j ≤ k → (w : World) (v : Value) → Gives fn v
    → Safe c j (record { here = record { world = w; activation = g.activation }; temps = with_temp g.temps at v; pc = g.pc; result_at = g.result_at; outer = frames })

-- fewer than k steps of each function are safe
abbrev pub Enters : Program → SlotCode → ℕ → Type 0
Enters p c k = (j : ℕ) → j < k → (g : ℕ) (fn : Function) → slice_get p.functions g ≡ Some fn → (at : ℕ) (frames : List Frame) → Returning c fn j at frames
    → (h : Here) → h.activation.function ≡ g → (temps : Temps) → Safe c j (slot c g at frames h temps 0)

-- ---- temporaries

put_same : (t : Temps) (d : ℕ) (v : Value) → with_temp t d v d ≡ Some v
put_same t d v = grind (arith, eqb_refl)

put_other : (t : Temps) (d i : ℕ) (v : Value) → i < d → with_temp t d v i ≡ t i
put_other t d i v h = grind (arith, ne_eqb)

put_above : (t : Temps) (d i : ℕ) (v : Value) → d < i → with_temp t d v i ≡ t i
put_above t d i v h = grind (arith, ne_eqb)

abbrev pub Below : ℕ → Temps → Temps → Type 0
Below d t u = (x : ℕ) → x < d → u x ≡ t x

-- a temporary was written
abbrev pub Sets : ℕ → (Value → Type 0) → Temps → Temps → Type 0
Sets d C t u = (v : Value) × C v × (u ≡ with_temp t d v)

pub sets_below : (d : ℕ) (C : Value → Type 0) (t u : Temps) → Sets d C t u → Below d t u
sets_below d C t u s x lt = ap (λ (w : Temps). w x) s.2 ∙ put_other t d x s.0 lt

pub sets_above : (d x : ℕ) (C : Value → Type 0) (t u : Temps) → d < x → Sets d C t u → u x ≡ t x
sets_above d x C t u lt s = ap (λ (w : Temps). w x) s.2 ∙ put_above t d x s.0 lt

pub sets_held : (d : ℕ) (C : Value → Type 0) (t u : Temps) → Sets d C t u → Held C (u d)
sets_held d C t u s w g = subst C (some_same s.0 w (sym (ap (λ (z : Temps). z d) s.2 ∙ put_same t d s.0) ∙ g)) s.1

pub held_same : (C : Value → Type 0) (o q : Option Value) → q ≡ o → Held C o → Held C q
held_same C o q e h v g = h v (sym e ∙ g)

pub below_less : (d e : ℕ) (t u : Temps) → d ≤ e → Below e t u → Below d t u
below_less d e t u le b x lt = b x (omega (arith, le, lt))

pub below_then : (d : ℕ) (t u w : Temps) → Below d t u → Below d u w → Below d t w
below_then d t u w a b x lt = b x lt ∙ a x lt

-- a temporary was converted, and the others are as they were
abbrev pub Casts : ℕ → Access → Temps → Temps → Type 0
Casts d a t u = ((x : ℕ) → x < d → u x ≡ t x) × ((x : ℕ) → d < x → u x ≡ t x) × ((z : Value) → u d ≡ Some z → (y : Value) × (t d ≡ Some y) × (extended a y ≡ Ok z))

abbrev pub Any : Temps → Type 0
Any t = Unit {0}

-- ---- pieces of code

module _ (c : SlotCode) (f r : ℕ) (frames : List Frame) (K : ℕ) where
  -- From temporaries that are as P says, the code at a place comes to its end with temporaries as Q says, and takes no number but 0 as a pointer.
  abbrev pub Runs : ℕ → (Temps → Type 0) → List SlotOp → (Temps → Temps → Type 0) → Type 0
  Runs at P l Q = (k : ℕ) → k ≤ K → HasAt (code c f r frames) at l → (h : Here) → In c f r frames h → (temps : Temps) → P temps → From c f r frames k (at + length l) (Q temps) → Safe c k (slot c f r frames h temps at)

  pub weaker : (at : ℕ) (P P' : Temps → Type 0) (l : List SlotOp) (Q : Temps → Temps → Type 0) → ((t : Temps) → P' t → P t) → Runs at P l Q → Runs at P' l Q
  weaker at P P' l Q w x k le has h i temps pre go = x k le has h i temps (w temps pre) go

  pub post : (at : ℕ) (P : Temps → Type 0) (l : List SlotOp) (Q R : Temps → Temps → Type 0) → ((t u : Temps) → P t → Q t u → R t u) → Runs at P l Q → Runs at P l R
  post at P l Q R w x k le has h i temps pre go = x k le has h i temps pre (λ j lj h' i' u q. go j lj h' i' u (w temps u pre q))

  pub nothing : (at : ℕ) (P : Temps → Type 0) (Q : Temps → Temps → Type 0) → ((t : Temps) → P t → Q t t) → Runs at P [] Q
  nothing at P Q w k le has h i temps pre go =
      let e : at + 0 ≡ at = omega arith in
      subst (λ pc. From c f r frames k pc (Q temps)) e go k (omega arith) h i temps (w temps pre)

  pub seq : (at : ℕ) (P : Temps → Type 0) (a b : List SlotOp) (Q R : Temps → Temps → Type 0) → Runs at P a Q → ((t : Temps) → P t → Runs (at + length a) (Q t) b (λ u w. R t w)) → Runs at P (a ++ b) R
  seq at P a b Q R x y k le has h i temps pre go =
      let e : at + length (a ++ b) ≡ at + length a + length b = omega (arith, length-append a b) in
      x k le (has_front (code c f r frames) at a b has) h i temps pre λ j lj h' i' u q.
      y temps pre j (omega (arith, le, lj)) (has_back (code c f r frames) at a b has) h' i' u q (fewer c f r frames k j (at + length a + length b) (R temps) lj (subst (λ pc. From c f r frames k pc (R temps)) e go))

  pub same_code : (at : ℕ) (P : Temps → Type 0) (l m : List SlotOp) (Q : Temps → Temps → Type 0) → l ≡ m → Runs at P l Q → Runs at P m Q
  same_code at P l m Q e x = subst (λ z. Runs at P z Q) e x

  -- ---- operators

  module _ (at : ℕ) (P : Temps → Type 0) where
    pub const_runs : (d n : ℕ) → Runs at P (op.Const d n ∷ []) (Sets d (λ v. v ≡ Number n))
    const_runs d n k le has h i temps pre go = safe.const_op c f r frames k h i temps at (Sets d (λ v. v ≡ Number n) temps) d n has.0 (Number n, refl, refl) go

    pub null_runs : (d : ℕ) → Runs at P (op.Null d ∷ []) (Sets d (λ v. points v ≡ true))
    null_runs d k le has h i temps pre go = safe.null_op c f r frames k h i temps at (Sets d (λ v. points v ≡ true) temps) d has.0 (Null, refl, refl) go

    pub static_runs : (d o : ℕ) → Runs at P (op.StaticAddress d o ∷ []) (Sets d (λ v. points v ≡ true))
    static_runs d o k le has h i temps pre go = safe.static_op c f r frames k h i temps at (Sets d (λ v. points v ≡ true) temps) d o has.0 (_, refl, refl) go

    pub text_runs : (d o : ℕ) → Runs at P (op.TextAddress d o ∷ []) (Sets d (λ v. points v ≡ true))
    text_runs d o k le has h i temps pre go = safe.text_op c f r frames k h i temps at (Sets d (λ v. points v ≡ true) temps) d o has.0 (λ v s. (v, s, refl)) go

    pub local_runs : (d x : ℕ) → Runs at P (op.LocalAddress d x ∷ []) (Sets d (λ v. points v ≡ true))
    local_runs d x k le has h i temps pre go = safe.local_op c f r frames k h i temps at (Sets d (λ v. points v ≡ true) temps) d x has.0 (λ v s. (v, s, refl)) go

    pub load_runs : (d x : ℕ) (kd : Kind) (a : Access) → Runs at P (op.Load d x kd a ∷ []) (Sets d (λ v. serves a v ≡ true))
    load_runs d x kd a k le has h i temps pre go = safe.load_op c f r frames k h i temps at (Sets d (λ v. serves a v ≡ true) temps) d x kd a has.0 (λ v s. (v, s, refl)) go

    pub read_runs : (d x : ℕ) (kd : Kind) (a : Access) → Runs at P (op.ReadRegister d x kd a ∷ []) (Sets d (λ v. serves a v ≡ true))
    read_runs d x kd a k le has h i temps pre go = safe.read_op c f r frames k h i temps at (Sets d (λ v. serves a v ≡ true) temps) d x kd a has.0 (λ v s. (v, s, refl)) go

    pub store_runs : (x y : ℕ) (kd : Kind) → Runs at P (op.Store x y kd ∷ []) (λ t u. u ≡ t)
    store_runs x y kd k le has h i temps pre go = safe.store_op c f r frames k h i temps at (λ u. u ≡ temps) x y kd has.0 refl go

    pub write_runs : (y x : ℕ) (kd : Kind) → Runs at P (op.WriteRegister y x kd ∷ []) (λ t u. u ≡ t)
    write_runs y x kd k le has h i temps pre go = safe.write_op c f r frames k h i temps at (λ u. u ≡ temps) y x kd has.0 refl go

    pub binary_runs : (d x y : ℕ) (b : WordOp) → Runs at P (op.Binary d x y b ∷ []) (λ t u. Sets d (λ v. (m n : Value) × (t x ≡ Some m) × (t y ≡ Some n) × (binary b m n ≡ Ok v)) t u)
    binary_runs d x y b k le has h i temps pre go =
        safe.binary_op c f r frames k h i temps at (λ u. Sets d (λ v. (m n : Value) × (temps x ≡ Some m) × (temps y ≡ Some n) × (binary b m n ≡ Ok v)) temps u) d x y b has.0 (λ m n v s e g. (v, (m, n, s, e, g), refl)) go

    -- a comparison of two temporaries, where it takes no number but 0
    pub compare_runs : (d x y : ℕ) (b : PointerOp) → ((s : SlotState) → P s.temps → takes c s (op.Compare d x y b) ≡ true) → Runs at P (op.Compare d x y b ∷ []) (Sets d (λ v. Unit {0}))
    compare_runs d x y b w k le has h i temps pre go = safe.compare_op c f r frames k h i temps at (Sets d (λ v. Unit {0}) temps) d x y b has.0 (w (slot c f r frames h temps at) pre) (λ v. (v, tt, refl)) go

    pub index_runs : (d x y size : ℕ) (u back : Bool) → Runs at P (op.Index d x y size u back ∷ []) (Sets d (λ v. points v ≡ true))
    index_runs d x y size u back k le has h i temps pre go = safe.index_op c f r frames k h i temps at (Sets d (λ v. points v ≡ true) temps) d x y size u back has.0 (λ v s. (v, s, refl)) go

    pub distance_runs : (d x y size : ℕ) → Runs at P (op.Distance d x y size ∷ []) (Sets d (λ v. Unit {0}))
    distance_runs d x y size k le has h i temps pre go = safe.distance_op c f r frames k h i temps at (Sets d (λ v. Unit {0}) temps) d x y size has.0 (λ v. (v, tt, refl)) go

    pub get_runs : (d : ℕ) → Runs at P (op.GetChar d ∷ []) (Sets d (λ v. Unit {0}))
    get_runs d k le has h i temps pre go = safe.get_op c f r frames k h i temps at (Sets d (λ v. Unit {0}) temps) d has.0 (λ v. (v, tt, refl)) go

    pub put_runs : (d : ℕ) → Runs at P (op.PutChar d ∷ []) (Sets d (λ v. Unit {0}))
    put_runs d k le has h i temps pre go = safe.put_op c f r frames k h i temps at (Sets d (λ v. Unit {0}) temps) d has.0 (λ v. (v, tt, refl)) go

    pub exit_runs : (d : ℕ) (Q : Temps → Temps → Type 0) → Runs at P (op.Exit d ∷ []) Q
    exit_runs d Q k le has h i temps pre go = safe.exit_op c f r frames k h i temps at (λ u. Unit {0}) d has.0

    pub unary_runs : (d : ℕ) (o : UnaryWordOp) → Runs at P (op.Unary d o ∷ []) (λ t u. Sets d (λ v. (w : World) × (x : Value) × (t d ≡ Some x) × (unary w o x ≡ Ok v)) t u)
    unary_runs d o k le has h i temps pre go = safe.unary_op c f r frames k h i temps at (λ u. Sets d (λ v. (w : World) × (x : Value) × (temps d ≡ Some x) × (unary w o x ≡ Ok v)) temps u) d o has.0 (λ x v s e. (v, (h.world, x, s, e), refl)) go

    pub offset_runs : (d n : ℕ) → Runs at P (op.Offset d n ∷ []) (Sets d (λ v. points v ≡ true))
    offset_runs d n k le has h i temps pre go = safe.offset_op c f r frames k h i temps at (Sets d (λ v. points v ≡ true) temps) d n has.0 (λ v s. (v, s, refl)) go

    pub take_runs : (d x : ℕ) → Runs at P (op.Take d x ∷ []) (λ t u. Sets d (λ v. t x ≡ Some v) t u)
    take_runs d x k le has h i temps pre go = safe.take_op c f r frames k h i temps at (λ u. Sets d (λ v. temps x ≡ Some v) temps u) d x has.0 (λ v s. (v, s, refl)) go

    pub move_runs : (x y s : ℕ) → Runs at P (op.Move x y s ∷ []) (λ t u. u ≡ t)
    move_runs x y s k le has h i temps pre go = safe.move_op c f r frames k h i temps at (λ u. u ≡ temps) x y s has.0 refl go

    pub stop_runs : (q : ℕ) → Runs at P (op.Stop q ∷ []) (λ t u. u ≡ t)
    stop_runs q k le has h i temps pre go = safe.stop_op c f r frames k h i temps at (λ u. u ≡ temps) q has.0 refl go

    -- ---- conversions

    stays : (d : ℕ) (t : Temps) → Casts d access.Word t t
    stays d t = (λ x lt. refl, λ x lt. refl, λ z e. (z, e, refl))

    converts : (d : ℕ) (a : Access) → ((t : Temps) → P t → Held (λ v. serves a v ≡ true) (t d)) → Runs at P (op.Convert d a ∷ []) (Casts d a)
    converts d a w k le has h i temps pre go =
        safe.convert_op c f r frames k h i temps at (Casts d a temps) d a has.0 (holds_all (serves a) (temps d) (w temps pre))
        (λ y z s e. (λ x lt. put_other temps d x z lt, λ x lt. put_above temps d x z lt, λ z' g. (y, s, e ∙ ap Ok (some_same z z' (sym (put_same temps d z) ∙ g))))) go

    converting_runs : (d : ℕ) (a : Access) → ((t : Temps) → P t → Held (λ v. serves a v ≡ true) (t d)) → Runs at P (converting d a) (Casts d a)
    converting_runs d access.Word w = nothing at P (Casts d access.Word) (λ t pre. stays d t)
    converting_runs d access.SignedByte w = converts d access.SignedByte w
    converting_runs d access.UnsignedByte w = converts d access.UnsignedByte w
    converting_runs d access.SignedHalf w = converts d access.SignedHalf w
    converting_runs d access.UnsignedHalf w = converts d access.UnsignedHalf w
    converting_runs d access.Pointer w = converts d access.Pointer w

    pub cast_runs : (d : ℕ) (t : CType) → ((u : Temps) → P u → Held (λ v. is_pointer (plain t) ≡ true → points v ≡ true) (u d)) → Runs at P (cast_code d t) (Casts d (access_of t))
    cast_runs d t w = converting_runs d (access_of t) (λ u pre v e. cast_serves t v (w u pre v e))

  -- ---- choices

  module _ (at : ℕ) (P : Temps → Type 0) (a b : List SlotOp) (R : Temps → Temps → Type 0) where
    -- code a, a jump over code b, and code b, behind an operator that comes to a or to b
    sides : (k : ℕ) → k ≤ K → (o : SlotOp) → HasAt (code c f r frames) at (o ∷ (a ++ op.Jump (at + 1 + length a + 1 + length b) ∷ b)) → (h : Here) → In c f r frames h → (temps : Temps) (A B : Temps → Type 0)
        → Runs (at + 1) A a R → Runs (at + 1 + length a + 1) B b R → From c f r frames k (at + 1 + length a + 1 + length b) (R temps)
        → ((j : ℕ) → j < k → A temps → Safe c j (slot c f r frames h temps (at + 1))) × ((j : ℕ) → j < k → B temps → Safe c j (slot c f r frames h temps (at + 1 + length a + 1)))
    sides k le o has h i temps A B x y go =
        let jump : SlotOp = op.Jump (at + 1 + length a + 1 + length b) in
        let there = has_back (code c f r frames) (at + 1) a (jump ∷ b) has.1 in (
          λ j lt pre. x j (omega (arith, le, lt)) (has_front (code c f r frames) (at + 1) a (jump ∷ b) has.1) h i temps pre λ m lm h' i' u q.
              safe.jump_op c f r frames m h' i' u (at + 1 + length a) (R temps) (at + 1 + length a + 1 + length b) there.0 q (λ n ln h'' i'' w g. go n (omega (arith, ln, lm, lt)) h'' i'' w g),
          λ j lt pre. y j (omega (arith, le, lt)) there.1 h i temps pre (fewer c f r frames k j (at + 1 + length a + 1 + length b) (R temps) (omega (arith, lt)) go),
        )

  abbrev pub Zero : ℕ → Bool → Temps → Type 0
  Zero d z t = (x : Value) × (t d ≡ Some x) × (is_zero x ≡ z)

  pub choice_runs : (at d : ℕ) (P : Temps → Type 0) (a b : List SlotOp) (R : Temps → Temps → Type 0) → Runs (at + 1) (λ t. P t × Zero d false t) a R → Runs (at + 1 + length a + 1) (λ t. P t × Zero d true t) b R → Runs at P (choice_code at d a b) R
  choice_runs at d P a b R x y k le has h i temps pre go =
      let jump : SlotOp = op.Jump (at + 1 + length a + 1 + length b) in
      let e : at + length (choice_code at d a b) ≡ at + 1 + length a + 1 + length b = omega (arith, length-append a (jump ∷ b)) in
      let parts = sides at P a b R k le (op.JumpIfZero d (at + 1 + length a + 1)) has h i temps (λ t. P t × Zero d false t) (λ t. P t × Zero d true t) x y (subst (λ pc. From c f r frames k pc (R temps)) e go) in
      safe.zero_jump c f r frames k h i temps at d (at + 1 + length a + 1) has.0 (λ j lt v s z. parts.1 j lt (pre, (v, s, z))) (λ j lt v s z. parts.0 j lt (pre, (v, s, z)))

  other_runs : (at d : ℕ) (P : Temps → Type 0) (a b : List SlotOp) (R : Temps → Temps → Type 0) → Runs (at + 1) (λ t. P t × Zero d true t) a R → Runs (at + 1 + length a + 1) (λ t. P t × Zero d false t) b R
      → Runs at P (op.JumpIfNotZero d (at + 1 + length a + 1) ∷ (a ++ op.Jump (at + 1 + length a + 1 + length b) ∷ b)) R
  other_runs at d P a b R x y k le has h i temps pre go =
      let jump : SlotOp = op.Jump (at + 1 + length a + 1 + length b) in
      let e : at + length (op.JumpIfNotZero d (at + 1 + length a + 1) ∷ (a ++ jump ∷ b)) ≡ at + 1 + length a + 1 + length b = omega (arith, length-append a (jump ∷ b)) in
      let parts = sides at P a b R k le (op.JumpIfNotZero d (at + 1 + length a + 1)) has h i temps (λ t. P t × Zero d true t) (λ t. P t × Zero d false t) x y (subst (λ pc. From c f r frames k pc (R temps)) e go) in
      safe.other_jump c f r frames k h i temps at d (at + 1 + length a + 1) has.0 (λ j lt v s z. parts.1 j lt (pre, (v, s, z))) (λ j lt v s z. parts.0 j lt (pre, (v, s, z)))

  -- what `Truth` leaves
  truth_is : (w : World) (x v : Value) → unary w Truth x ≡ Ok v → v ≡ Number (bit_of (not (is_zero x)))
  unfolding unary
  truth_is w x v e =
      let q = bound_from (used w x) (λ z. Ok (Number (bit_of (not (is_zero z))))) v e in
      let s : Number (bit_of (not (is_zero q.0))) ≡ v = cc in
      sym s ∙ ap (λ z. Number (bit_of (not (is_zero z)))) (sym (used_same w x q.0 q.1))

  module _ (at d : ℕ) (P : Temps → Type 0) (b : List SlotOp) (Q R : Temps → Temps → Type 0) where
    tested : (z : Bool) → Runs (at + 1) (λ t. P t × Zero d z t) b Q → ((t u w : Temps) → P t × Zero d z t → Q t u → Sets d (λ v. (x : Value) × (u d ≡ Some x) × (v ≡ Number (bit_of (not (is_zero x))))) u w → R t w)
        → Runs (at + 1) (λ t. P t × Zero d z t) (b ++ op.Unary d Truth ∷ []) R
    tested z x g =
        seq (at + 1) (λ t. P t × Zero d z t) b (op.Unary d Truth ∷ []) Q R x λ t pre.
        post (at + 1 + length b) (Q t) (op.Unary d Truth ∷ []) (λ u w. Sets d (λ v. (w : World) × (x : Value) × (u d ≡ Some x) × (unary w Truth x ≡ Ok v)) u w) (λ u w. R t w)
        (λ u w q s. g t u w pre q (s.0, (s.1.1, s.1.2, truth_is s.1.0 s.1.1 s.0 s.1.3), s.2)) (unary_runs (at + 1 + length b) (Q t) d Truth)

    joined : (j c : SlotOp) → (b ++ op.Unary d Truth ∷ []) ++ (j ∷ c ∷ []) ≡ b ++ (op.Unary d Truth ∷ j ∷ c ∷ [])
    joined j c = append_assoc b (op.Unary d Truth ∷ []) (j ∷ c ∷ [])

    pub and_runs : Runs (at + 1) (λ t. P t × Zero d false t) b Q → ((t u w : Temps) → P t × Zero d false t → Q t u → Sets d (λ v. (x : Value) × (u d ≡ Some x) × (v ≡ Number (bit_of (not (is_zero x))))) u w → R t w)
        → ((t u : Temps) → P t × Zero d true t → Sets d (λ v. v ≡ Number 0) t u → R t u) → Runs at P (and_code at d b) R
    and_runs x g z =
        let body : List SlotOp = b ++ op.Unary d Truth ∷ [] in
        let size : length body ≡ length b + 1 = length-append b (op.Unary d Truth ∷ []) in
        let to : at + 1 + length body + 1 ≡ at + 1 + length b + 2 = omega (arith, size) in
        let end : at + 1 + length body + 1 + 1 ≡ at + 1 + length b + 3 = omega (arith, size) in
        let same : choice_code at d body (op.Const d 0 ∷ []) ≡ and_code at d b =
        ap (λ n. op.JumpIfZero d n ∷ (body ++ op.Jump (at + 1 + length body + 1 + 1) ∷ op.Const d 0 ∷ [])) to
        ∙ ap (λ n. op.JumpIfZero d (at + 1 + length b + 2) ∷ (body ++ op.Jump n ∷ op.Const d 0 ∷ [])) end
        ∙ ap (λ l. op.JumpIfZero d (at + 1 + length b + 2) ∷ l) (joined (op.Jump (at + 1 + length b + 3)) (op.Const d 0)) in
        same_code at P (choice_code at d body (op.Const d 0 ∷ [])) (and_code at d b) R same
        (choice_runs at d P body (op.Const d 0 ∷ []) R (tested false x g) (post (at + 1 + length body + 1) (λ t. P t × Zero d true t) (op.Const d 0 ∷ []) (Sets d (λ v. v ≡ Number 0)) R z (const_runs (at + 1 + length body + 1) (λ t. P t × Zero d true t) d 0)))

    pub or_runs : Runs (at + 1) (λ t. P t × Zero d true t) b Q → ((t u w : Temps) → P t × Zero d true t → Q t u → Sets d (λ v. (x : Value) × (u d ≡ Some x) × (v ≡ Number (bit_of (not (is_zero x))))) u w → R t w)
        → ((t u : Temps) → P t × Zero d false t → Sets d (λ v. v ≡ Number 1) t u → R t u) → Runs at P (or_code at d b) R
    or_runs x g z =
        let body : List SlotOp = b ++ op.Unary d Truth ∷ [] in
        let size : length body ≡ length b + 1 = length-append b (op.Unary d Truth ∷ []) in
        let to : at + 1 + length body + 1 ≡ at + 1 + length b + 2 = omega (arith, size) in
        let end : at + 1 + length body + 1 + 1 ≡ at + 1 + length b + 3 = omega (arith, size) in
        let code : List SlotOp = op.JumpIfNotZero d (at + 1 + length body + 1) ∷ (body ++ op.Jump (at + 1 + length body + 1 + 1) ∷ op.Const d 1 ∷ []) in
        let same : code ≡ or_code at d b =
        ap (λ n. op.JumpIfNotZero d n ∷ (body ++ op.Jump (at + 1 + length body + 1 + 1) ∷ op.Const d 1 ∷ [])) to
        ∙ ap (λ n. op.JumpIfNotZero d (at + 1 + length b + 2) ∷ (body ++ op.Jump n ∷ op.Const d 1 ∷ [])) end
        ∙ ap (λ l. op.JumpIfNotZero d (at + 1 + length b + 2) ∷ l) (joined (op.Jump (at + 1 + length b + 3)) (op.Const d 1)) in
        same_code at P code (or_code at d b) R same
        (other_runs at d P body (op.Const d 1 ∷ []) R (tested true x g) (post (at + 1 + length body + 1) (λ t. P t × Zero d false t) (op.Const d 1 ∷ []) (Sets d (λ v. v ≡ Number 1)) R z (const_runs (at + 1 + length body + 1) (λ t. P t × Zero d false t) d 1)))
