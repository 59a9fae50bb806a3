-- What is done with the values computed last is answered by its code.
use Rattle.std.proofs.Common.{◌≡◌, ℕ, zero, suc, ◌+◌, ◌*◌, ◌<◌, List, [], ◌∷◌, ◌++◌, length, Option, Some, None, Bool, true, false, refl, sym, ap, ◌∙◌, subst, arith, length-append, ⊎_elim}
use Rattle.std.specs.Prelude.{slice_get, Result, Ok, Err, option_map, pos, not, if◌then◌else◌}
use Rattle.c_tree.specs.declared.types.CType.{CType}
use Rattle.c_tree.specs.declared.types.CType.TheVariants.{Struct}
use Rattle.c_tree.specs.declared.typed.BinaryOp.{BinaryOp}
use Rattle.c_tree.specs.declared.typed.UnaryOp.{UnaryOp}
use Rattle.c_tree.specs.Types.{kind_of, is_array}
use Rattle.ldb_words.specs.declared.kinds.Kind.{Kind}
use Rattle.ldb_words.specs.declared.kinds.Undef.TheVariants.{Pointer}
use Rattle.runs.specs.Runs.{Next, Goes as GoesOn, Why, Stale, Reason, IllTyped}
use Rattle.c_store.specs.Store.{Value, Number, Null, At, World, Cell, used, is_stale, load, store, moved, load_struct, store_struct, store_all, ◌>>=◌, leaf_at, may_write, may_hold, stored, written, or_pointer}
use Rattle.c_store.specs.Frames.{Here, with_world, bound}
use Rattle.c_source.specs.Blocks.{converted, cells_of}
use Rattle.c_source.specs.Operators.{combined, changed, is_zero}
use Rattle.c_source.specs.Control.{Item, State, Push, Bound, Load, Convert, Store, Copy, Update, Change, Combine, Offset, Use, Discard, Truth}
use Rattle.c_source.specs.Source as source
use Rattle.slot_ir.specs.declared.code.SlotOp.{SlotOp}
use Rattle.slot_ir.specs.declared.code.SlotOp.TheVariants as op
use Rattle.slot_ir.specs.declared.code.UnaryWordOp.TheVariants as unary
use Rattle.slot_ir.specs.declared.code.Access.{Access}
use Rattle.slot_ir.specs.declared.code.Access.TheVariants as access
use Rattle.slot_ir.specs.Operators.{extended}
use Rattle.slot_ir.specs.Slots.{Temps, with_temp, SlotState, Frame}
use Rattle.slot_ir.specs.Slots as slots
use Rattle.slot_ir.specs.Operators as slot_operators
use Rattle.slot_ir.specs.Begin as beginning
use Rattle.slot_gen.specs.Expressions.{access_of, cast_code, converting, unary_op, combine_op}
use Rattle.slot_gen.proofs.Follow.{HasAt, has_front, has_back, Where, InTemp, InReg, Holds}
use Rattle.slot_gen.proofs.Operators.{bind_same, converted_same, combined_gives, changed_gives}
use Rattle.slot_gen.proofs.Match.{Setting, Ground, Answered, SameOutput, Cast, D, F, L, Steps, slot, now, code, again, none_step, pure_step, one_step, set_step, give_step, some_steps, one, cast, silent_then, put_same, put_other, put_above, puts, same_below}

-- ---- what a store leaves as it was

abbrev KeepsOutput : World → Result World Why → Type 0
KeepsOutput w (Ok w') = w'.output ≡ w.output
KeepsOutput w (Err e) = Unit {0}

stored_keeps : (w : World) (k : Kind) (place v : Value) → KeepsOutput w (stored w k place v)
stored_keeps w k (Number n) v = tt
stored_keeps w k Null v = tt
stored_keeps w k (At o i) v = by (leaf_at w k (At o i)) (may_write w (At o i))
  where
    by : (q : Option Value) (b : Bool) → KeepsOutput w (or_pointer q >>= λ old. if b then Ok (written w k (At o i) v) else Err (Reason Pointer))
    by None b = tt
    by (Some x) true = refl
    by (Some x) false = tt

store_keeps : (w : World) (k : Kind) (place v : Value) → KeepsOutput w (store w k place v)
unfolding store
store_keeps w k place v = by (may_hold k v)
  where
    by : (b : Bool) → KeepsOutput w (if b then stored w k place v else Err IllTyped)
    by true = stored_keeps w k place v
    by false = tt

pub store_output : (w : World) (k : Kind) (place v : Value) (w' : World) → store w k place v ≡ Ok w' → w'.output ≡ w.output
store_output w k place v w' e = subst (KeepsOutput w) e (store_keeps w k place v)

all_keeps : (w : World) (o i : ℕ) (ls : List Cell) (vs : List Value) → KeepsOutput w (store_all w o i ls vs)
all_keeps w o i [] vs = refl
all_keeps w o i (l ∷ ls) [] = tt
all_keeps w o i (l ∷ ls) (v ∷ vs) = by (λ w'. all_keeps w' o i ls vs) (store w l.kind (At o (i + l.at)) v) refl
  where
    more : (w' : World) (r : Result World Why) → w'.output ≡ w.output → KeepsOutput w' r → KeepsOutput w r
    more w' (Ok u) e k = k ∙ e
    more w' (Err x) e k = tt

    by : ((w' : World) → KeepsOutput w' (store_all w' o i ls vs)) → (q : Result World Why) → store w l.kind (At o (i + l.at)) v ≡ q → KeepsOutput w (q >>= λ w'. store_all w' o i ls vs)
    by ih (Err x) e = tt
    by ih (Ok w') e = more w' (store_all w' o i ls vs) (store_output w l.kind (At o (i + l.at)) v w' e) (ih w')

struct_keeps : (w : World) (ls : List Cell) (place : Value) (vs : List Value) → KeepsOutput w (store_struct w ls place vs)
unfolding store_struct
struct_keeps w ls (Number n) vs = tt
struct_keeps w ls Null vs = tt
struct_keeps w ls (At o i) vs = all_keeps w o i ls vs

pub struct_output : (w : World) (ls : List Cell) (place : Value) (vs : List Value) (w' : World) → store_struct w ls place vs ≡ Ok w' → w'.output ≡ w.output
struct_output w ls place vs w' e = subst (KeepsOutput w) e (struct_keeps w ls place vs)

module _ (set : Setting) (g : Ground set) where
  pub push_answers : (v : Value) (k : List Item) (ws : List Where) (vs : List Value) (temps : Temps) (pc : ℕ) → D set g ws vs (Push v ∷ k) temps pc
      → Answered set (now set g vs (Push v ∷ k)) (GoesOn 1 (now set g (v ∷ vs) k)) (slot set g temps pc)
  push_answers (Number n) k ws vs temps pc d =
      set_step set g (Push (Number n) ∷ k) k ws ws vs vs temps pc 1 (Number n) (op.Const (length ws) n) d (omega arith) d.follows.0 refl d.holds d.loops d.follows.2
  push_answers Null k ws vs temps pc d =
      set_step set g (Push Null ∷ k) k ws ws vs vs temps pc 1 Null (op.Null (length ws)) d (omega arith) d.follows.0 refl d.holds d.loops d.follows.2
  push_answers (At o i) k ws vs temps pc d = absurd d.follows.1

  pub bound_answers : (x : ℕ) (k : List Item) (ws : List Where) (vs : List Value) (temps : Temps) (pc : ℕ) (q : Option ℕ) → bound x g.h.activation.locals ≡ q → D set g ws vs (Bound x ∷ k) temps pc
      → Answered set (now set g vs (Bound x ∷ k)) (source.on_some q (λ o. GoesOn 1 (now set g (At o 0 ∷ vs) k))) (slot set g temps pc)
  bound_answers x k ws vs temps pc None e d = tt
  bound_answers x k ws vs temps pc (Some o) e d =
      ⊎_elim
      (λ f. set_step set g (Bound x ∷ k) k ws ws vs vs temps pc 1 (At o 0) (op.LocalAddress (length ws) x) d (omega arith) f.0 (ap (λ q. slots.on_some (option_map (λ o. At o 0) q) (λ v. slots.sets set.c (slot set g temps pc) (length ws) v)) e) d.holds d.loops f.1)
      (λ f. none_step set g (Bound x ∷ k) k ws (InReg x ∷ ws) vs (At o 0 ∷ vs) temps pc 1 d (omega arith) (ap (option_map (λ o. At o 0)) e, d.holds) d.loops f)
      d.follows

  -- what a load gives, converted to its type
  read_gives : (t : CType) (place z : Value) (i : ℕ) (st : SlotState) → (load st.here.world (kind_of t) place >>= converted t) ≡ Ok z
      → slots.gives set.c st i (slots.read st.here.world (kind_of t) (access_of t) place) ≡ slots.sets set.c st i z
  read_gives t place z i st e = ap (slots.gives set.c st i) (sym (bind_same (load st.here.world (kind_of t) place) (converted t) (extended (access_of t)) (converted_same t)) ∙ e)

  pub load_answers : (b : Bool) (t : CType) (k : List Item) (ws : List Where) (a : Value) (vs : List Value) (temps : Temps) (pc : ℕ) → (d : D set g (InTemp ∷ ws) (a ∷ vs) (Load t ∷ k) temps pc)
      → HasAt (code set g) pc (if b then [] else op.Load (length ws) (length ws) (kind_of t) (access_of t) ∷ [])
      → F set g d.around (pc + length (if b then [] else op.Load (length ws) (length ws) (kind_of t) (access_of t) ∷ [])) (InTemp ∷ ws) k
      → Answered set (now set g (a ∷ vs) (Load t ∷ k)) (if b then GoesOn 1 (now set g (a ∷ vs) k) else source.on_ok (load g.h.world (kind_of t) a >>= converted t) (λ x. GoesOn 2 (now set g (x ∷ vs) k))) (slot set g temps pc)
  load_answers true t k ws a vs temps pc d has f =
      let e : pc + 0 ≡ pc = omega arith in
      pure_step set g (Load t ∷ k) k (InTemp ∷ ws) (a ∷ vs) temps pc 1 d (omega arith) d.loops (subst (λ i. F set g d.around i (InTemp ∷ ws) k) e f)
  load_answers false t k ws a vs temps pc d has f =
      let st = slot set g temps pc in
      give_step set g (Load t ∷ k) k (InTemp ∷ ws) ws (a ∷ vs) vs temps pc 2 (load g.h.world (kind_of t) a >>= converted t) (λ z. z) (op.Load (length ws) (length ws) (kind_of t) (access_of t)) d (omega arith) has.0
      (λ z e. ap (λ o. slots.on_temp o (λ q. slots.gives set.c st (length ws) (slots.read g.h.world (kind_of t) (access_of t) q))) d.holds.0 ∙ read_gives t a z (length ws) st e)
      d.holds.1 d.loops f

  pub read_answers : (t : CType) (x : ℕ) (k : List Item) (ws : List Where) (a : Value) (vs : List Value) (temps : Temps) (pc : ℕ) → D set g (InReg x ∷ ws) (a ∷ vs) (Load t ∷ k) temps pc
      → Answered set (now set g (a ∷ vs) (Load t ∷ k)) (if is_array t then GoesOn 1 (now set g (a ∷ vs) k) else source.on_ok (load g.h.world (kind_of t) a >>= converted t) (λ x. GoesOn 2 (now set g (x ∷ vs) k))) (slot set g temps pc)
  read_answers t x k ws a vs temps pc d =
      let st = slot set g temps pc in
      subst (λ b. Answered set (now set g (a ∷ vs) (Load t ∷ k)) (if b then GoesOn 1 (now set g (a ∷ vs) k) else source.on_ok (load g.h.world (kind_of t) a >>= converted t) (λ x. GoesOn 2 (now set g (x ∷ vs) k))) st) (sym d.follows.0)
      (give_step set g (Load t ∷ k) k (InReg x ∷ ws) ws (a ∷ vs) vs temps pc 2 (load g.h.world (kind_of t) a >>= converted t) (λ z. z) (op.ReadRegister (length ws) x (kind_of t) (access_of t)) d (omega arith) d.follows.1
      (λ z e. ap (λ o. slots.on_some o (λ q. slots.gives set.c st (length ws) (slots.read g.h.world (kind_of t) (access_of t) q))) d.holds.0 ∙ read_gives t a z (length ws) st e)
      d.holds.1 d.loops d.follows.2)

  one_cast_answers : (a : Access) (t : CType) (k : List Item) (ws : List Where) (v : Value) (vs : List Value) (temps : Temps) (pc : ℕ) → (d : D set g (InTemp ∷ ws) (v ∷ vs) (Convert t ∷ k) temps pc)
      → slice_get (code set g) pc ≡ Some (op.Convert (length ws) a) → F set g d.around (pc + 1) (InTemp ∷ ws) k
      → Answered set (now set g (v ∷ vs) (Convert t ∷ k)) (source.on_ok (extended a v) (λ x. GoesOn 1 (now set g (x ∷ vs) k))) (slot set g temps pc)
  one_cast_answers a t k ws v vs temps pc d has f =
      let st = slot set g temps pc in
      give_step set g (Convert t ∷ k) k (InTemp ∷ ws) ws (v ∷ vs) vs temps pc 1 (extended a v) (λ z. z) (op.Convert (length ws) a) d (omega arith) has
      (λ z e. ap (λ o. slots.on_temp o (λ v. slots.gives set.c st (length ws) (extended a v))) d.holds.0 ∙ ap (slots.gives set.c st (length ws)) e) d.holds.1 d.loops f

  cast_answers : (a : Access) (t : CType) (k : List Item) (ws : List Where) (v : Value) (vs : List Value) (temps : Temps) (pc : ℕ) → (d : D set g (InTemp ∷ ws) (v ∷ vs) (Convert t ∷ k) temps pc)
      → HasAt (code set g) pc (converting (length ws) a) → F set g d.around (pc + length (converting (length ws) a)) (InTemp ∷ ws) k
      → Answered set (now set g (v ∷ vs) (Convert t ∷ k)) (source.on_ok (extended a v) (λ x. GoesOn 1 (now set g (x ∷ vs) k))) (slot set g temps pc)
  cast_answers access.Word t k ws v vs temps pc d has f =
      let e : pc + 0 ≡ pc = omega arith in
      pure_step set g (Convert t ∷ k) k (InTemp ∷ ws) (v ∷ vs) temps pc 1 d (omega arith) d.loops (subst (λ i. F set g d.around i (InTemp ∷ ws) k) e f)
  cast_answers access.SignedByte t k ws v vs temps pc d has f = one_cast_answers access.SignedByte t k ws v vs temps pc d has.0 f
  cast_answers access.UnsignedByte t k ws v vs temps pc d has f = one_cast_answers access.UnsignedByte t k ws v vs temps pc d has.0 f
  cast_answers access.SignedHalf t k ws v vs temps pc d has f = one_cast_answers access.SignedHalf t k ws v vs temps pc d has.0 f
  cast_answers access.UnsignedHalf t k ws v vs temps pc d has f = one_cast_answers access.UnsignedHalf t k ws v vs temps pc d has.0 f
  cast_answers access.Pointer t k ws v vs temps pc d has f = one_cast_answers access.Pointer t k ws v vs temps pc d has.0 f

  pub convert_answers : (t : CType) (k : List Item) (ws : List Where) (v : Value) (vs : List Value) (temps : Temps) (pc : ℕ) → D set g (InTemp ∷ ws) (v ∷ vs) (Convert t ∷ k) temps pc
      → Answered set (now set g (v ∷ vs) (Convert t ∷ k)) (source.on_ok (converted t v) (λ x. GoesOn 1 (now set g (x ∷ vs) k))) (slot set g temps pc)
  convert_answers t k ws v vs temps pc d =
      subst (λ q. Answered set (now set g (v ∷ vs) (Convert t ∷ k)) (source.on_ok q (λ x. GoesOn 1 (now set g (x ∷ vs) k))) (slot set g temps pc)) (sym (converted_same t v))
      (cast_answers (access_of t) t k ws v vs temps pc d d.follows.0 d.follows.1)

  -- ---- what writes

  abbrev written_to : World → Temps → ℕ → SlotState
  written_to w temps pc = record { here = with_world g.h w; temps = temps; pc = pc; result_at = g.at; outer = g.frames }

  -- a write, after which a temporary's value is taken
  write_then_take : (o : State) (kind : Kind) (place v x : Value) (w : World) (temps : Temps) (pc d i j : ℕ) (wr : SlotOp) → o.here ≡ g.h → store g.h.world kind place v ≡ Ok w
      → slots.act set.c (slot set g temps pc) wr ≡ slots.writes set.c (slot set g temps pc) kind place j → temps j ≡ Some v → slice_get (code set g) pc ≡ Some wr
      → temps i ≡ Some x → slice_get (code set g) (pc + 1) ≡ Some (op.Take d i)
      → Steps set g o 2 2 (slot set g temps pc) (written_to w (with_temp temps d x) (pc + 1 + 1))
  write_then_take o kind place v x w temps pc d i j wr same e a tj hw ti ht =
      let st = slot set g temps pc in
      let u = written_to w temps (pc + 1) in
      let q : g.h.world.output ≡ o.here.world.output = ap (λ (h : Here). h.world.output) (sym same) in
      let first = ap (slots.at_op set.c st) hw ∙ a ∙ ap (λ q. slots.on_temp q (λ v. slots.on_ok (store g.h.world kind place v) (λ w. slots.goes set.c st 1 (with_world g.h w)))) tj ∙ ap (λ q. slots.on_ok q (λ w. slots.goes set.c st 1 (with_world g.h w))) e in
      let second = ap (slots.at_op set.c u) ht ∙ ap (λ q. slots.on_temp q (λ v. slots.sets set.c u d v)) ti in
      (1, 1, u, omega arith, first, (1, 0, written_to w (with_temp temps d x) (pc + 1 + 1), omega arith, second, (refl, refl), store_output g.h.world kind place v w e ∙ q), q)

  -- the value in temporary d + 1 is converted and written, and taken into d
  store_by : (t : CType) (k0 k : List Item) (ws ws0 : List Where) (v z place : Value) (vs vs0 : List Value) (temps : Temps) (pc : ℕ) (wr : SlotOp) (q : Result World Why) → converted t v ≡ Ok z → store g.h.world (kind_of t) place z ≡ q
      → (d : D set g ws0 vs0 k0 temps pc)
      → temps (suc (length ws)) ≡ Some v → Holds g.h.activation temps ws vs → L set g d.around k
      → ((after : Temps) (pc' : ℕ) → ((x : ℕ) → x < suc (length ws) → after x ≡ temps x) → slots.act set.c (slot set g after pc') wr ≡ slots.writes set.c (slot set g after pc') (kind_of t) place (suc (length ws)))
      → HasAt (code set g) pc (cast_code (suc (length ws)) t ++ wr ∷ op.Take (length ws) (suc (length ws)) ∷ [])
      → F set g d.around (pc + length (cast_code (suc (length ws)) t ++ wr ∷ op.Take (length ws) (suc (length ws)) ∷ [])) (InTemp ∷ ws) k
      → Answered set (now set g vs0 k0) (source.on_ok q (λ w. GoesOn 2 (record { here = with_world g.h w; values = z ∷ vs; control = k; outer = g.outer }))) (slot set g temps pc)
  store_by t k0 k ws ws0 v z place vs vs0 temps pc wr (Err x) ez e d tv hs l acts has f = tt
  store_by t k0 k ws ws0 v z place vs vs0 temps pc wr (Ok w) ez e d tv hs l acts has f =
      let n = length ws in
      let o = now set g vs0 k0 in
      let co = code set g in
      let cs = cast_code (suc n) t in
      let last = wr ∷ op.Take n (suc n) ∷ [] in
      let m : Cast set g o (suc n) (access_of t) z temps pc = cast set g o (suc n) (access_of t) v z temps pc refl tv (sym (converted_same t v) ∙ ez) (has_front co pc cs last has) in
      let hl = has_back co pc cs last has in
      let value = m.value in
      let two = write_then_take o (kind_of t) place z z w m.after (pc + length cs) n (suc n) (suc n) wr refl e (acts m.after (pc + length cs) m.below) value hl.0 value hl.1.0 in
      let all = silent_then SlotState (slots.step set.c) (beginning.acted set.hist) (SameOutput set o) m.count 2 m.count 2 (slot set g temps pc) (slot set g m.after (pc + length cs)) (written_to w (with_temp m.after n z) (pc + length cs + 1 + 1)) m.steps two in
      let len : pc + length (cs ++ last) ≡ pc + length cs + 1 + 1 = omega (arith, length-append cs last) in
      some_steps set g o _ (slot set g temps pc) (written_to w (with_temp m.after n z) (pc + length cs + 1 + 1)) 2 (m.count + 2) (m.count + 2) (omega arith) (omega (arith, m.bounded)) all
      (record {
        same = refl;
        ws = InTemp ∷ ws;
        doing = again set g ws0 (InTemp ∷ ws) vs0 (z ∷ vs) k0 k temps (with_temp m.after n z) pc (pc + length cs + 1 + 1) d
            (puts g.h.activation m.after z ws vs (same_below g.h.activation temps m.after n ws vs (omega arith) (λ x lt. m.below x (omega (arith, lt))) hs)) l (subst (λ i. F set g d.around i (InTemp ∷ ws) k) len f);
        outer = g.out;
      })

  pub store_answers : (t : CType) (k : List Item) (ws : List Where) (v place : Value) (vs : List Value) (temps : Temps) (pc : ℕ) → D set g (InTemp ∷ InTemp ∷ ws) (v ∷ place ∷ vs) (Store t ∷ k) temps pc
      → Answered set (now set g (v ∷ place ∷ vs) (Store t ∷ k)) (source.write set.p g.h g.outer t place v vs k) (slot set g temps pc)
  store_answers t k ws v place vs temps pc d = by (converted t v) refl
    where
      by : (q : Result Value Why) → converted t v ≡ q
          → Answered set (now set g (v ∷ place ∷ vs) (Store t ∷ k)) (source.on_ok q (λ x. source.on_ok (store g.h.world (kind_of t) place x) (λ w. GoesOn 2 (record { here = with_world g.h w; values = x ∷ vs; control = k; outer = g.outer })))) (slot set g temps pc)
      by (Err e) eq = tt
      by (Ok z) eq =
          store_by t (Store t ∷ k) k ws (InTemp ∷ InTemp ∷ ws) v z place vs (v ∷ place ∷ vs) temps pc (op.Store (length ws) (suc (length ws)) (kind_of t)) (store g.h.world (kind_of t) place z) eq refl d d.holds.0 d.holds.1.1 d.loops
          (λ after pc' below. ap (λ q. slots.on_temp q (λ x. slots.writes set.c (slot set g after pc') (kind_of t) x (suc (length ws)))) (below (length ws) (omega arith) ∙ d.holds.1.0))
          d.follows.0 d.follows.1

  pub write_answers : (t : CType) (x : ℕ) (k : List Item) (ws : List Where) (v place : Value) (vs : List Value) (temps : Temps) (pc : ℕ) → D set g (InTemp ∷ InReg x ∷ ws) (v ∷ place ∷ vs) (Store t ∷ k) temps pc
      → Answered set (now set g (v ∷ place ∷ vs) (Store t ∷ k)) (source.write set.p g.h g.outer t place v vs k) (slot set g temps pc)
  write_answers t x k ws v place vs temps pc d = by (converted t v) refl
    where
      by : (q : Result Value Why) → converted t v ≡ q
          → Answered set (now set g (v ∷ place ∷ vs) (Store t ∷ k)) (source.on_ok q (λ x. source.on_ok (store g.h.world (kind_of t) place x) (λ w. GoesOn 2 (record { here = with_world g.h w; values = x ∷ vs; control = k; outer = g.outer })))) (slot set g temps pc)
      by (Err e) eq = tt
      by (Ok z) eq =
          store_by t (Store t ∷ k) k ws (InTemp ∷ InReg x ∷ ws) v z place vs (v ∷ place ∷ vs) temps pc (op.WriteRegister (suc (length ws)) x (kind_of t)) (store g.h.world (kind_of t) place z) eq refl d d.holds.0 d.holds.1.1 d.loops
          (λ after pc' below. ap (λ q. slots.on_some q (λ y. slots.writes set.c (slot set g after pc') (kind_of t) y (suc (length ws)))) d.holds.1.0)
          d.follows.0 d.follows.1

  -- ---- compound assignment: the old value, the operation, the conversion, the write, and the value that is taken
  module _ (t : CType) (bo : BinaryOp) (s : CType) (new : Bool) (k0 k : List Item) (ws ws0 : List Where) (y place : Value) (vs vs0 : List Value) (temps : Temps) (pc : ℕ) (lo wr : SlotOp) (d : D set g ws0 vs0 k0 temps pc) where
    abbrev n : ℕ
    n = length ws

    abbrev o : State
    o = now set g vs0 k0

    abbrev taken : ℕ
    taken = if new then suc n else suc (suc n)

    abbrev last : List SlotOp
    last = wr ∷ op.Take n taken ∷ []

    abbrev rest_code : List SlotOp
    rest_code = combine_op set.p (suc n) (suc (suc n)) (suc n) bo t s ∷ (cast_code (suc n) t ++ last)

    abbrev with_old : Value → Temps
    with_old old = with_temp temps (suc (suc n)) old

    abbrev with_both : Value → Value → Temps
    with_both old x = with_temp (with_old old) (suc n) x

    -- the value of the assignment
    taken_value : (b : Bool) (old z : Value) (m : Temps) → m (suc n) ≡ Some z → m (suc (suc n)) ≡ Some old → m (if b then suc n else suc (suc n)) ≡ Some (if b then z else old)
    taken_value true old z m a c = a
    taken_value false old z m a c = c

    update_done : (old x z : Value) (w : World) → (load g.h.world (kind_of t) place >>= converted t) ≡ Ok old
        → temps (suc n) ≡ Some y → Holds g.h.activation temps ws vs → L set g d.around k
        → slots.act set.c (slot set g temps pc) lo ≡ slots.gives set.c (slot set g temps pc) (suc (suc n)) (slots.read g.h.world (kind_of t) (access_of t) place)
        → ((after : Temps) (pc' : ℕ) → ((x : ℕ) → x < suc n → after x ≡ temps x) → slots.act set.c (slot set g after pc') wr ≡ slots.writes set.c (slot set g after pc') (kind_of t) place (suc n))
        → HasAt (code set g) pc (lo ∷ rest_code) → F set g d.around (pc + length (lo ∷ rest_code)) (InTemp ∷ ws) k
        → combined set.p.defs g.h.world bo t s old y ≡ Ok x → converted t x ≡ Ok z → store g.h.world (kind_of t) place z ≡ Ok w
        → Answered set o (GoesOn 3 (record { here = with_world g.h w; values = (if new then z else old) ∷ vs; control = k; outer = g.outer })) (slot set g temps pc)
    update_done old x z w ea ty hs l la wa has f eq ez ew =
        let result = if new then z else old in
        let co = code set g in
        let cs = cast_code (suc n) t in
        let one_up = slot set g (with_old old) (pc + 1) in
        let loaded : Steps set g o 1 1 (slot set g temps pc) one_up = one set g o temps pc 1 lo one_up refl has.0 (la ∙ read_gives t place old (suc (suc n)) (slot set g temps pc) ea) in
        let two_up = slot set g (with_both old x) (pc + 1 + 1) in
        let comb = combine_op set.p (suc n) (suc (suc n)) (suc n) bo t s in
        let y_there = put_other temps (suc (suc n)) (suc n) old (omega arith) ∙ ty in
        let operated : Steps set g o 1 1 one_up two_up =
        one set g o (with_old old) (pc + 1) 1 comb two_up refl has.1.0
        (combined_gives set.c one_up set.p (suc n) (suc (suc n)) (suc n) old y (put_same temps (suc (suc n)) old) y_there bo t s x eq) in
        let x_there = put_same (with_old old) (suc n) x in
        let old_there = put_above (with_old old) (suc n) (suc (suc n)) x (omega arith) ∙ put_same temps (suc (suc n)) old in
        let hc = has.1.1 in
        let m : Cast set g o (suc n) (access_of t) z (with_both old x) (pc + 1 + 1) = cast set g o (suc n) (access_of t) x z (with_both old x) (pc + 1 + 1) refl x_there (sym (converted_same t x) ∙ ez) (has_front co (pc + 1 + 1) cs last hc) in
        let hl = has_back co (pc + 1 + 1) cs last hc in
        let at = pc + 1 + 1 + length cs in
        let new_there = m.value in
        let kept_there = m.above (suc (suc n)) (omega arith) ∙ old_there in
        let below : (i : ℕ) → i < suc n → m.after i ≡ temps i =
        (λ i lt. m.below i lt ∙ put_other (with_old old) (suc n) i x lt ∙ put_other temps (suc (suc n)) i old (omega (arith, lt))) in
        let end = written_to w (with_temp m.after n result) (at + 1 + 1) in
        let wrote = write_then_take o (kind_of t) place z result w m.after at n taken (suc n) wr refl ew (wa m.after at below) new_there hl.0 (taken_value new old z m.after new_there kept_there) hl.1.0 in
        let chain = silent_then SlotState (slots.step set.c) (beginning.acted set.hist) (SameOutput set o) in
        let all = chain 1 (1 + (m.count + 2)) 1 (1 + (m.count + 2)) (slot set g temps pc) one_up end loaded (chain 1 (m.count + 2) 1 (m.count + 2) one_up two_up end operated (chain m.count 2 m.count 2 two_up (slot set g m.after at) end m.steps wrote)) in
        let len : pc + length (lo ∷ rest_code) ≡ at + 1 + 1 = omega (arith, length-append cs last) in
        some_steps set g o _ (slot set g temps pc) end 3 (1 + (1 + (m.count + 2))) (1 + (1 + (m.count + 2))) (omega arith) (omega (arith, m.bounded)) all
        (record {
          same = refl;
          ws = InTemp ∷ ws;
          doing = again set g ws0 (InTemp ∷ ws) vs0 (result ∷ vs) k0 k temps (with_temp m.after n result) pc (at + 1 + 1) d
              (puts g.h.activation m.after result ws vs (same_below g.h.activation temps m.after n ws vs (omega arith) (λ i lt. below i (omega (arith, lt))) hs)) l (subst (λ i. F set g d.around i (InTemp ∷ ws) k) len f);
          outer = g.out;
        })

    abbrev rest : Value → Value → Next State
    rest old x = source.on_ok (store g.h.world (kind_of t) place x) (λ w. GoesOn 3 (record { here = with_world g.h w; values = (if new then x else old) ∷ vs; control = k; outer = g.outer }))

    update_by : (a : Result Value Why) (ea : (load g.h.world (kind_of t) place >>= converted t) ≡ a)
        → temps (suc n) ≡ Some y → Holds g.h.activation temps ws vs → L set g d.around k
        → slots.act set.c (slot set g temps pc) lo ≡ slots.gives set.c (slot set g temps pc) (suc (suc n)) (slots.read g.h.world (kind_of t) (access_of t) place)
        → ((after : Temps) (pc' : ℕ) → ((x : ℕ) → x < suc n → after x ≡ temps x) → slots.act set.c (slot set g after pc') wr ≡ slots.writes set.c (slot set g after pc') (kind_of t) place (suc n))
        → HasAt (code set g) pc (lo ∷ rest_code) → F set g d.around (pc + length (lo ∷ rest_code)) (InTemp ∷ ws) k
        → Answered set o (source.on_ok a (λ old.
        source.on_ok (combined set.p.defs g.h.world bo t s old y >>= converted t) (λ x.
        source.on_ok (store g.h.world (kind_of t) place x) (λ w. GoesOn 3 (record { here = with_world g.h w; values = (if new then x else old) ∷ vs; control = k; outer = g.outer }))))) (slot set g temps pc)
    update_by (Err e) ea ty hs l la wa has f = tt
    update_by (Ok old) ea ty hs l la wa has f = by_operation (combined set.p.defs g.h.world bo t s old y) refl
      where
        by_write : (x z : Value) → combined set.p.defs g.h.world bo t s old y ≡ Ok x → converted t x ≡ Ok z → (q : Result World Why) → store g.h.world (kind_of t) place z ≡ q
            → Answered set o (source.on_ok q (λ w. GoesOn 3 (record { here = with_world g.h w; values = (if new then z else old) ∷ vs; control = k; outer = g.outer }))) (slot set g temps pc)
        by_write x z eq ez (Err e) ew = tt
        by_write x z eq ez (Ok w) ew = update_done old x z w ea ty hs l la wa has f eq ez ew

        by_convert : (x : Value) → combined set.p.defs g.h.world bo t s old y ≡ Ok x → (q : Result Value Why) → converted t x ≡ q → Answered set o (source.on_ok q (rest old)) (slot set g temps pc)
        by_convert x eq (Err e) ez = tt
        by_convert x eq (Ok z) ez = by_write x z eq ez (store g.h.world (kind_of t) place z) refl

        by_operation : (q : Result Value Why) → combined set.p.defs g.h.world bo t s old y ≡ q → Answered set o (source.on_ok (q >>= converted t) (rest old)) (slot set g temps pc)
        by_operation (Err e) eq = tt
        by_operation (Ok x) eq = by_convert x eq (converted t x) refl

  pub update_answers : (t : CType) (bo : BinaryOp) (s : CType) (new : Bool) (k : List Item) (ws : List Where) (y place : Value) (vs : List Value) (temps : Temps) (pc : ℕ) → D set g (InTemp ∷ InTemp ∷ ws) (y ∷ place ∷ vs) (Update t bo s new ∷ k) temps pc
      → Answered set (now set g (y ∷ place ∷ vs) (Update t bo s new ∷ k)) (source.update set.p g.h g.outer t bo s new place y vs k) (slot set g temps pc)
  update_answers t bo s new k ws y place vs temps pc d =
      update_by t bo s new (Update t bo s new ∷ k) k ws (InTemp ∷ InTemp ∷ ws) y place vs (y ∷ place ∷ vs) temps pc (op.Load (suc (suc (length ws))) (length ws) (kind_of t) (access_of t)) (op.Store (length ws) (suc (length ws)) (kind_of t)) d
      (load g.h.world (kind_of t) place >>= converted t) refl d.holds.0 d.holds.1.1 d.loops
      (ap (λ q. slots.on_temp q (λ x. slots.gives set.c (slot set g temps pc) (suc (suc (length ws))) (slots.read g.h.world (kind_of t) (access_of t) x))) d.holds.1.0)
      (λ after pc' below. ap (λ q. slots.on_temp q (λ x. slots.writes set.c (slot set g after pc') (kind_of t) x (suc (length ws)))) (below (length ws) (omega arith) ∙ d.holds.1.0))
      d.follows.0 d.follows.1

  pub change_answers : (t : CType) (bo : BinaryOp) (s : CType) (new : Bool) (x : ℕ) (k : List Item) (ws : List Where) (y place : Value) (vs : List Value) (temps : Temps) (pc : ℕ) → D set g (InTemp ∷ InReg x ∷ ws) (y ∷ place ∷ vs) (Update t bo s new ∷ k) temps pc
      → Answered set (now set g (y ∷ place ∷ vs) (Update t bo s new ∷ k)) (source.update set.p g.h g.outer t bo s new place y vs k) (slot set g temps pc)
  change_answers t bo s new x k ws y place vs temps pc d =
      update_by t bo s new (Update t bo s new ∷ k) k ws (InTemp ∷ InReg x ∷ ws) y place vs (y ∷ place ∷ vs) temps pc (op.ReadRegister (suc (suc (length ws))) x (kind_of t) (access_of t)) (op.WriteRegister (suc (length ws)) x (kind_of t)) d
      (load g.h.world (kind_of t) place >>= converted t) refl d.holds.0 d.holds.1.1 d.loops
      (ap (λ q. slots.on_some q (λ x. slots.gives set.c (slot set g temps pc) (suc (suc (length ws))) (slots.read g.h.world (kind_of t) (access_of t) x))) d.holds.1.0)
      (λ after pc' below. ap (λ q. slots.on_some q (λ x. slots.writes set.c (slot set g after pc') (kind_of t) x (suc (length ws)))) d.holds.1.0)
      d.follows.0 d.follows.1

  -- ---- one value for one or two

  pub combine_answers : (o : BinaryOp) (s t : CType) (k : List Item) (ws : List Where) (y x : Value) (vs : List Value) (temps : Temps) (pc : ℕ) → D set g (InTemp ∷ InTemp ∷ ws) (y ∷ x ∷ vs) (Combine o s t ∷ k) temps pc
      → Answered set (now set g (y ∷ x ∷ vs) (Combine o s t ∷ k)) (source.on_ok (combined set.p.defs g.h.world o s t x y) (λ z. GoesOn 1 (now set g (z ∷ vs) k))) (slot set g temps pc)
  combine_answers o s t k ws y x vs temps pc d =
      give_step set g (Combine o s t ∷ k) k (InTemp ∷ InTemp ∷ ws) ws (y ∷ x ∷ vs) vs temps pc 1 (combined set.p.defs g.h.world o s t x y) (λ z. z) (combine_op set.p (length ws) (length ws) (suc (length ws)) o s t) d (omega arith) d.follows.0
      (λ z e. combined_gives set.c (slot set g temps pc) set.p (length ws) (length ws) (suc (length ws)) x y d.holds.1.0 d.holds.0 o s t z e)
      d.holds.1.1 d.loops d.follows.1

  pub change_by : (o : UnaryOp) (t : CType) (k : List Item) (ws : List Where) (x : Value) (vs : List Value) (temps : Temps) (pc : ℕ) → D set g (InTemp ∷ ws) (x ∷ vs) (Change o t ∷ k) temps pc
      → Answered set (now set g (x ∷ vs) (Change o t ∷ k)) (source.on_ok (changed g.h.world o t x) (λ z. GoesOn 1 (now set g (z ∷ vs) k))) (slot set g temps pc)
  change_by o t k ws x vs temps pc d =
      give_step set g (Change o t ∷ k) k (InTemp ∷ ws) ws (x ∷ vs) vs temps pc 1 (changed g.h.world o t x) (λ z. z) (op.Unary (length ws) (unary_op o t)) d (omega arith) d.follows.0
      (λ z e. changed_gives set.c (slot set g temps pc) (length ws) o t x d.holds.0 z e)
      d.holds.1 d.loops d.follows.1

  pub offset_answers : (m : ℕ) (k : List Item) (ws : List Where) (x : Value) (vs : List Value) (temps : Temps) (pc : ℕ) → D set g (InTemp ∷ ws) (x ∷ vs) (Offset m ∷ k) temps pc
      → Answered set (now set g (x ∷ vs) (Offset m ∷ k)) (source.on_ok (moved g.h.world x (pos m)) (λ z. GoesOn 1 (now set g (z ∷ vs) k))) (slot set g temps pc)
  offset_answers m k ws x vs temps pc d =
      let st = slot set g temps pc in
      give_step set g (Offset m ∷ k) k (InTemp ∷ ws) ws (x ∷ vs) vs temps pc 1 (moved g.h.world x (pos m)) (λ z. z) (op.Offset (length ws) m) d (omega arith) d.follows.0
      (λ z e. ap (λ q. slots.on_temp q (λ v. slots.gives set.c st (length ws) (moved g.h.world v (pos m)))) d.holds.0 ∙ ap (slots.gives set.c st (length ws)) e)
      d.holds.1 d.loops d.follows.1

  pub use_answers : (b : Bool) (k : List Item) (ws : List Where) (x : Value) (vs : List Value) (temps : Temps) (pc : ℕ) → D set g (InTemp ∷ ws) (x ∷ vs) (Use ∷ k) temps pc
      → Answered set (now set g (x ∷ vs) (Use ∷ k)) (source.on_ok (if b then Err Stale else Ok x) (λ z. GoesOn 1 (now set g (z ∷ vs) k))) (slot set g temps pc)
  use_answers true k ws x vs temps pc d = tt
  use_answers false k ws x vs temps pc d = pure_step set g (Use ∷ k) k (InTemp ∷ ws) (x ∷ vs) temps pc 1 d (omega arith) d.loops d.follows

  pub discard_answers : (k : List Item) (ws : List Where) (x : Value) (vs : List Value) (temps : Temps) (pc : ℕ) → D set g (InTemp ∷ ws) (x ∷ vs) (Discard ∷ k) temps pc
      → Answered set (now set g (x ∷ vs) (Discard ∷ k)) (GoesOn 1 (now set g vs k)) (slot set g temps pc)
  discard_answers k ws x vs temps pc d =
      let m = d.follows.0 in
      ⊎_elim
      (λ e. none_step set g (Discard ∷ k) k (InTemp ∷ ws) ws (x ∷ vs) vs temps pc 1 d (omega arith) d.holds.1 d.loops (subst (λ i. F set g d.around i ws k) (sym e) d.follows.2))
      (λ e. one_step set g (Discard ∷ k) k (x ∷ vs) vs temps temps pc m 1 1 ws (op.Jump m) (omega arith) e refl (again set g (InTemp ∷ ws) ws (x ∷ vs) vs (Discard ∷ k) k temps temps pc m d d.holds.1 d.loops d.follows.2))
      d.follows.1

  -- ---- conditions

  -- a condition is stale, or it holds, or it fails
  pub tested : (x : Value) (o : State) (holds fails : Next State) (st : SlotState)
      → (is_stale g.h.world x ≡ false → slot_operators.is_zero x ≡ false → Answered set o holds st) → (is_stale g.h.world x ≡ false → slot_operators.is_zero x ≡ true → Answered set o fails st)
      → Answered set o (source.on_test set.p g.h g.outer x holds fails) st
  tested x o holds fails st if_holds if_fails = by (is_stale g.h.world x) refl
    where
      at_value : (x' : Value) → is_stale g.h.world x ≡ false → slot_operators.is_zero x ≡ slot_operators.is_zero x' → Answered set o (if is_zero x' then fails else holds) st
      at_value (Number zero) s e = if_fails s e
      at_value (Number (suc m)) s e = if_holds s e
      at_value Null s e = if_fails s e
      at_value (At b i) s e = if_holds s e

      by : (b : Bool) → is_stale g.h.world x ≡ b → Answered set o (source.on_ok (if b then Err Stale else Ok x) (λ y. if is_zero y then fails else holds)) st
      by true s = tt
      by false s = at_value x s refl

  -- the jumps at a condition
  pub zero_jumps : (st : SlotState) (i m : ℕ) (x : Value) (b : Bool) → st.temps i ≡ Some x → is_stale st.here.world x ≡ false → slot_operators.is_zero x ≡ b → slots.act set.c st (op.JumpIfZero i m) ≡ slots.jumps_if set.c st b m
  zero_jumps st i m x b t s e =
      ap (λ q. slots.on_temp q (λ v. slots.on_ok (used st.here.world v) (λ x. slots.jumps_if set.c st (slot_operators.is_zero x) m))) t
      ∙ ap (λ b. slots.on_ok (if b then Err Stale else Ok x) (λ x. slots.jumps_if set.c st (slot_operators.is_zero x) m)) s
      ∙ ap (λ b. slots.jumps_if set.c st b m) e

  pub other_jumps : (st : SlotState) (i m : ℕ) (x : Value) (b : Bool) → st.temps i ≡ Some x → is_stale st.here.world x ≡ false → slot_operators.is_zero x ≡ b → slots.act set.c st (op.JumpIfNotZero i m) ≡ (if b then slots.jumps set.c st (st.pc + 1) else slots.jumps set.c st m)
  other_jumps st i m x b t s e =
      ap (λ q. slots.on_temp q (λ v. slots.on_ok (used st.here.world v) (λ x. if slot_operators.is_zero x then slots.jumps set.c st (st.pc + 1) else slots.jumps set.c st m))) t
      ∙ ap (λ b. slots.on_ok (if b then Err Stale else Ok x) (λ x. if slot_operators.is_zero x then slots.jumps set.c st (st.pc + 1) else slots.jumps set.c st m)) s
      ∙ ap (λ b. if b then slots.jumps set.c st (st.pc + 1) else slots.jumps set.c st m) e

  truth_acts : (st : SlotState) (i : ℕ) (x : Value) (b : Bool) → st.temps i ≡ Some x → is_stale st.here.world x ≡ false → slot_operators.is_zero x ≡ b → slots.act set.c st (op.Unary i unary.Truth) ≡ slots.sets set.c st i (Number (if not b then 1 else 0))
  unfolding slot_operators.unary
  truth_acts st i x b t s e =
      ap (λ q. slots.on_temp q (λ v. slots.gives set.c st i (slot_operators.unary st.here.world unary.Truth v))) t
      ∙ ap (λ b. slots.gives set.c st i ((if b then Err Stale else Ok x) >>= λ v. Ok (Number (if not (slot_operators.is_zero v) then 1 else 0)))) s
      ∙ ap (λ b. slots.sets set.c st i (Number (if not b then 1 else 0))) e

  pub truth_answers : (k : List Item) (ws : List Where) (x : Value) (vs : List Value) (temps : Temps) (pc : ℕ) → D set g (InTemp ∷ ws) (x ∷ vs) (Truth ∷ k) temps pc
      → Answered set (now set g (x ∷ vs) (Truth ∷ k)) (source.on_test set.p g.h g.outer x (GoesOn 1 (now set g (Number 1 ∷ vs) k)) (GoesOn 1 (now set g (Number 0 ∷ vs) k))) (slot set g temps pc)
  truth_answers k ws x vs temps pc d =
      let i = length ws in
      let st = slot set g temps pc in
      tested x (now set g (x ∷ vs) (Truth ∷ k)) (GoesOn 1 (now set g (Number 1 ∷ vs) k)) (GoesOn 1 (now set g (Number 0 ∷ vs) k)) st
      (λ s e. set_step set g (Truth ∷ k) k (InTemp ∷ ws) ws (x ∷ vs) vs temps pc 1 (Number 1) (op.Unary i unary.Truth) d (omega arith) d.follows.0 (truth_acts st i x false d.holds.0 s e) d.holds.1 d.loops d.follows.1)
      (λ s e. set_step set g (Truth ∷ k) k (InTemp ∷ ws) ws (x ∷ vs) vs temps pc 1 (Number 0) (op.Unary i unary.Truth) d (omega arith) d.follows.0 (truth_acts st i x true d.holds.0 s e) d.holds.1 d.loops d.follows.1)

  -- ---- a struct is copied

  pub copy_answers : (s : ℕ) (k : List Item) (ws : List Where) (from to : Value) (vs : List Value) (temps : Temps) (pc : ℕ) → (d : D set g (InTemp ∷ InTemp ∷ ws) (from ∷ to ∷ vs) (Copy (Struct s) ∷ k) temps pc)
      → HasAt (code set g) pc (op.Move (length ws) (suc (length ws)) s ∷ op.Const (length ws) 0 ∷ []) → F set g d.around (pc + 1 + 1) (InTemp ∷ ws) k
      → (a : Result (List Value) Why) → load_struct g.h.world (cells_of set.p.defs (Struct s)) from ≡ a
      → Answered set (now set g (from ∷ to ∷ vs) (Copy (Struct s) ∷ k)) (source.on_ok a (λ xs. source.on_ok (store_struct g.h.world (cells_of set.p.defs (Struct s)) to xs) (λ w. GoesOn (1 + 2 * length xs) (record { here = with_world g.h w; values = Number 0 ∷ vs; control = k; outer = g.outer })))) (slot set g temps pc)
  copy_answers s k ws from to vs temps pc d has f (Err e) ea = tt
  copy_answers s k ws from to vs temps pc d has f (Ok xs) ea = by (store_struct g.h.world (cells_of set.p.defs (Struct s)) to xs) refl
    where
      by : (q : Result World Why) → store_struct g.h.world (cells_of set.p.defs (Struct s)) to xs ≡ q
          → Answered set (now set g (from ∷ to ∷ vs) (Copy (Struct s) ∷ k)) (source.on_ok q (λ w. GoesOn (1 + 2 * length xs) (record { here = with_world g.h w; values = Number 0 ∷ vs; control = k; outer = g.outer }))) (slot set g temps pc)
      by (Err e) ew = tt
      by (Ok w) ew =
          let i = length ws in
          let cells = cells_of set.p.defs (Struct s) in
          let st = slot set g temps pc in
          let o = now set g (from ∷ to ∷ vs) (Copy (Struct s) ∷ k) in
          let u = written_to w temps (pc + 1) in
          let end = written_to w (with_temp temps i (Number 0)) (pc + 1 + 1) in
          let all_copied = λ (cs : List Cell) (y z : Value). slots.on_ok (load_struct g.h.world cs z) (λ vs. slots.on_ok (store_struct g.h.world cs y vs) (λ w. slots.goes set.c st (1 + 2 * length vs) (with_world g.h w))) in
          let first =
          ap (slots.at_op set.c st) has.0
          ∙ ap (λ q. slots.on_temp q (λ y. slots.on_temp (temps (suc i)) (λ z. all_copied (slots.zero_cells (slots.leaves_in (slice_get set.c.structs s))) y z))) d.holds.1.0
          ∙ ap (λ q. slots.on_temp q (λ z. all_copied (slots.zero_cells (slots.leaves_in (slice_get set.c.structs s))) to z)) d.holds.0
          ∙ ap (λ ls. all_copied (slots.zero_cells ls) to from) (set.is.structs s)
          ∙ ap (λ q. slots.on_ok q (λ vs. slots.on_ok (store_struct g.h.world cells to vs) (λ w. slots.goes set.c st (1 + 2 * length vs) (with_world g.h w)))) ea
          ∙ ap (λ q. slots.on_ok q (λ w. slots.goes set.c st (1 + 2 * length xs) (with_world g.h w))) ew in
          let second = ap (slots.at_op set.c u) has.1.0 in
          let n = 1 + 2 * length xs in
          some_steps set g o _ st end n 2 (n + 1) (omega arith) (omega arith) (n, 1, u, omega arith, first, (1, 0, end, omega arith, second, (refl, refl), struct_output g.h.world cells to xs w ew), refl)
          (record {
            same = refl;
            ws = InTemp ∷ ws;
            doing = again set g (InTemp ∷ InTemp ∷ ws) (InTemp ∷ ws) (from ∷ to ∷ vs) (Number 0 ∷ vs) (Copy (Struct s) ∷ k) k temps (with_temp temps i (Number 0)) pc (pc + 1 + 1) d (puts g.h.activation temps (Number 0) ws vs d.holds.1.1) d.loops f;
            outer = g.out;
          })
