-- Runs that take no number but 0 as a pointer for so many steps, whatever is assigned at stops: what each operator asks.
use Rattle.std.proofs.Common.{◌≡◌, refl, sym, ap, subst, ◌∙◌, arith, ℕ, zero, suc, ◌+◌, ◌<◌, ◌≤◌, List, length, Bool, true, false, Option, Some, None, slice_get, ℤ, pos, negsuc}
use Rattle.std.specs.Prelude.{Result, Ok, Err, ◌+ℤ◌, nat_le, if◌then◌else◌}
use Rattle.ldb_words.specs.declared.kinds.Kind.{Kind}
use Rattle.ldb_words.specs.declared.kinds.Undef.TheVariants.{Pointer as PointerReason}
use Rattle.runs.specs.Runs.{Next, Goes, Passes, Exits, Undefined, Why, Reason, IllTyped, Stale}
use Rattle.c_store.specs.Store.{Value, Number, Null, At, Object, World, used, is_stale, load, store, moved, load_struct, store_struct, ◌>>=◌}
use Rattle.c_store.specs.Frames.{Here, with_world, with_point, bound}
use Rattle.slot_ir.specs.declared.code.Access.{Access}
use Rattle.slot_ir.specs.declared.code.Access.TheVariants as access
use Rattle.slot_ir.specs.declared.code.SlotCode.{SlotCode}
use Rattle.slot_ir.specs.declared.code.SlotOp.{SlotOp}
use Rattle.slot_ir.specs.declared.code.SlotOp.TheVariants as op
use Rattle.slot_ir.specs.declared.code.PointerOp.{PointerOp}
use Rattle.slot_ir.specs.declared.code.UnaryWordOp.{UnaryWordOp}
use Rattle.slot_ir.specs.declared.code.WordOp.{WordOp}
use Rattle.slot_ir.specs.Operators.{extended, number_in, is_zero, unary, binary, compared, indexed, distance}
use Rattle.slot_ir.specs.Slots.{SlotState, Temps, with_temp, Frame, code_of, local_row, zero_cells, zeroed_local, leaf_count_in}
use Rattle.slot_ir.specs.Slots as slots
use Rattle.slot_pointers.specs.Taken.{is_pointer, serves, holds, takes, takes_at, takes_pointers}
use Rattle.slot_formed.proofs.Lists.{map_some}

-- ---- values

ok_is : {A : Type 0} (x y : A) → ◌≡◌ {A = Result A Why} (Ok x) (Ok y) → x ≡ y
ok_is x y e = cc

-- what a result comes from
pub bound_from : {A B : Type 0} (m : Result A Why) (f : A → Result B Why) (y : B) → (m >>= f) ≡ Ok y → (x : A) × (m ≡ Ok x) × (f x ≡ Ok y)
bound_from (Ok x) f y e = (x, refl, e)
bound_from (Err w) f y e = absurd cc

no_ok : {A B : Type 0} (w : Why) (x : A) → ◌≡◌ {A = Result A Why} (Err w) (Ok x) → B
no_ok w x e = absurd (cc e)

-- what is converted to a pointer is one
pub extended_serves : (a : Access) (u v : Value) → extended a u ≡ Ok v → serves a v ≡ true
extended_serves access.SignedByte u v e = refl
extended_serves access.UnsignedByte u v e = refl
extended_serves access.SignedHalf u v e = refl
extended_serves access.UnsignedHalf u v e = refl
extended_serves access.Word u v e = refl
extended_serves access.Pointer (Number n) v e = ap is_pointer (sym (ok_is Null v e))
extended_serves access.Pointer Null v e = ap is_pointer (sym (ok_is Null v e))
extended_serves access.Pointer (At o i) v e = ap is_pointer (sym (ok_is (At o i) v e))

pub used_same : (w : World) (v x : Value) → used w v ≡ Ok x → v ≡ x
used_same w v x e = by (is_stale w v) e
  where
    by : (b : Bool) → (if b then Err Stale else Ok v) ≡ Ok x → v ≡ x
    by true e = no_ok Stale x e
    by false e = ok_is v x e

within : ℕ → ℤ → Option Object → Result Value Why
within o (pos i) None = Err (Reason PointerReason)
within o (pos i) (Some ob) = if nat_le i ob.size then Ok (At o i) else Err (Reason PointerReason)
within o (negsuc i) ob = Err (Reason PointerReason)

within_pointer : (o : ℕ) (z : ℤ) (ob : Option Object) (v : Value) → within o z ob ≡ Ok v → is_pointer v ≡ true
unfolding within
within_pointer o (pos i) None v e = no_ok (Reason PointerReason) v e
within_pointer o (pos i) (Some ob) v e = by (nat_le i ob.size) e
  where
    by : (b : Bool) → (if b then Ok (At o i) else Err (Reason PointerReason)) ≡ Ok v → is_pointer v ≡ true
    by true e = ap is_pointer (sym (ok_is (At o i) v e))
    by false e = no_ok (Reason PointerReason) v e
within_pointer o (negsuc i) ob v e = no_ok (Reason PointerReason) v e

pub moved_pointer : (w : World) (x v : Value) (z : ℤ) → moved w x z ≡ Ok v → is_pointer v ≡ true
unfolding moved within
moved_pointer w (Number n) v z e = no_ok IllTyped v e
moved_pointer w Null v z e = no_ok (Reason PointerReason) v e
moved_pointer w (At o i) v z e =
    let q = bound_from (used w (At o i)) (λ p. within o (pos i +ℤ z) (slice_get w.objects o)) v e in
    within_pointer o (pos i +ℤ z) (slice_get w.objects o) v q.2

pub indexed_pointer : (w : World) (size : ℕ) (u back : Bool) (x y v : Value) → indexed w size u back x y ≡ Ok v → is_pointer v ≡ true
unfolding indexed
indexed_pointer w size u back x y v e = let q = bound_from (number_in y) _ v e in moved_pointer w x v _ q.2

-- ---- steps

module _ (c : SlotCode) where
  -- what holds of the states after a step, whatever is assigned at a stop
  abbrev pub After : (SlotState → Type 0) → Next SlotState → Type 0
  After go (Goes n t) = go t
  After go (Passes q n t) = (w : World) → go (record t { here = with_world t.here w })
  After go (Exits v n t) = takes_pointers c t ≡ true
  After go (Undefined why) = Unit {0}

  -- so many steps take no number but 0 as a pointer
  abbrev pub Safe : ℕ → SlotState → Type 0
  Safe zero t = Unit {0}
  Safe (suc k) t = (takes_pointers c t ≡ true) × After (Safe k) (slots.step c t)

  pub temp_after : (P : SlotState → Type 0) (o : Option Value) (go : Value → Next SlotState) → ((v : Value) → o ≡ Some v → After P (go v)) → After P (slots.on_temp o go)
  temp_after P None go h = tt
  temp_after P (Some v) go h = h v refl

  some_after : {A : Type 0} (P : SlotState → Type 0) (o : Option A) (go : A → Next SlotState) → ((v : A) → o ≡ Some v → After P (go v)) → After P (slots.on_some o go)
  some_after P None go h = tt
  some_after P (Some v) go h = h v refl

  pub ok_after : {A : Type 0} (P : SlotState → Type 0) (r : Result A Why) (go : A → Next SlotState) → ((v : A) → r ≡ Ok v → After P (go v)) → After P (slots.on_ok r go)
  ok_after P (Err w) go h = tt
  ok_after P (Ok v) go h = h v refl

  pub temps_after : (P : SlotState → Type 0) (o : Option (List Value)) (go : List Value → Next SlotState) → ((vs : List Value) → o ≡ Some vs → After P (go vs)) → After P (slots.on_temps o go)
  temps_after P None go h = tt
  temps_after P (Some vs) go h = h vs refl

  -- in an activation of function number f, with these outer ones
  module _ (f at : ℕ) (frames : List Frame) where
    abbrev pub slot : Here → Temps → ℕ → SlotState
    slot h temps pc = record { here = h; temps = temps; pc = pc; result_at = at; outer = frames }

    abbrev pub In : Here → Type 0
    In h = h.activation.function ≡ f

    abbrev pub code : List SlotOp
    code = code_of c f

    -- at most k steps from a place on are safe where the temporaries are so
    abbrev pub From : ℕ → ℕ → (Temps → Type 0) → Type 0
    From k pc Q = (j : ℕ) → j ≤ k → (h : Here) → In h → (temps : Temps) → Q temps → Safe j (slot h temps pc)

    pub fewer : (k j pc : ℕ) (Q : Temps → Type 0) → j ≤ k → From k pc Q → From j pc Q
    fewer k j pc Q le go i li h e temps q = go i (omega (arith, le, li)) h e temps q

    pub at_op : (k : ℕ) (h : Here) → In h → (temps : Temps) (pc : ℕ) (o : SlotOp) → slice_get code pc ≡ Some o → takes c (slot h temps pc) o ≡ true
        → ((j : ℕ) → j < k → After (Safe j) (slots.act c (slot h temps pc) o)) → Safe k (slot h temps pc)
    at_op zero h i temps pc o e t go = tt
    at_op (suc k) h i temps pc o e t go =
        let g : slice_get (code_of c h.activation.function) pc ≡ Some o = ap (λ n. slice_get (code_of c n) pc) i ∙ e in
        (ap (takes_at c (slot h temps pc)) g ∙ t, subst (After (Safe k)) (sym (ap (slots.at_op c (slot h temps pc)) g)) (go k (omega arith)))

    module _ (k : ℕ) (h : Here) (i : In h) (temps : Temps) (pc : ℕ) (Q : Temps → Type 0) where
      gives_to : (j : ℕ) → j < k → (d : ℕ) (r : Result Value Why) → ((v : Value) → r ≡ Ok v → Q (with_temp temps d v)) → From k (pc + 1) Q → After (Safe j) (slots.gives c (slot h temps pc) d r)
      gives_to j lt d (Err w) q go = tt
      gives_to j lt d (Ok v) q go = go j (omega (arith, lt)) h i (with_temp temps d v) (q v refl)

      two_to : (j : ℕ) → j < k → (x y d : ℕ) (g : Value → Value → Result Value Why) → ((a b v : Value) → temps x ≡ Some a → temps y ≡ Some b → g a b ≡ Ok v → Q (with_temp temps d v)) → From k (pc + 1) Q
          → After (Safe j) (slots.on_two c (slot h temps pc) x y g d)
      two_to j lt x y d g q go = temp_after (Safe j) (temps x) _ λ a s. temp_after (Safe j) (temps y) _ λ b t. gives_to j lt d (g a b) (λ v e. q a b v s t e) go

      pub const_op : (d n : ℕ) → slice_get code pc ≡ Some (op.Const d n) → Q (with_temp temps d (Number n)) → From k (pc + 1) Q → Safe k (slot h temps pc)
      const_op d n e q go = at_op k h i temps pc (op.Const d n) e refl λ j lt. go j (omega (arith, lt)) h i _ q

      pub null_op : (d : ℕ) → slice_get code pc ≡ Some (op.Null d) → Q (with_temp temps d Null) → From k (pc + 1) Q → Safe k (slot h temps pc)
      null_op d e q go = at_op k h i temps pc (op.Null d) e refl λ j lt. go j (omega (arith, lt)) h i _ q

      pub static_op : (d o : ℕ) → slice_get code pc ≡ Some (op.StaticAddress d o) → Q (with_temp temps d (At o 0)) → From k (pc + 1) Q → Safe k (slot h temps pc)
      static_op d o e q go = at_op k h i temps pc (op.StaticAddress d o) e refl λ j lt. go j (omega (arith, lt)) h i _ q

      pub text_op : (d o : ℕ) → slice_get code pc ≡ Some (op.TextAddress d o) → ((v : Value) → is_pointer v ≡ true → Q (with_temp temps d v)) → From k (pc + 1) Q → Safe k (slot h temps pc)
      text_op d o e q go = at_op k h i temps pc (op.TextAddress d o) e refl λ j lt. go j (omega (arith, lt)) h i _ (q (At (length c.objects + o) 0) refl)

      pub local_op : (d x : ℕ) → slice_get code pc ≡ Some (op.LocalAddress d x) → ((v : Value) → is_pointer v ≡ true → Q (with_temp temps d v)) → From k (pc + 1) Q → Safe k (slot h temps pc)
      local_op d x e q go = at_op k h i temps pc (op.LocalAddress d x) e refl λ j lt. some_after (Safe j) (slots.address_of h x) _ λ v s.
          go j (omega (arith, lt)) h i _ (q v (let m = map_some (λ o. At o 0) (bound x h.activation.locals) v s in ap is_pointer (sym m.2)))

      read_serves : (w : World) (kd : Kind) (a : Access) (p v : Value) → slots.read w kd a p ≡ Ok v → serves a v ≡ true
      read_serves w kd a p v e = let r = bound_from (load w kd p) (extended a) v e in extended_serves a r.0 v r.2

      pub load_op : (d x : ℕ) (kd : Kind) (a : Access) → slice_get code pc ≡ Some (op.Load d x kd a) → ((v : Value) → serves a v ≡ true → Q (with_temp temps d v)) → From k (pc + 1) Q → Safe k (slot h temps pc)
      load_op d x kd a e q go = at_op k h i temps pc (op.Load d x kd a) e refl λ j lt. temp_after (Safe j) (temps x) _ λ p s. gives_to j lt d (slots.read h.world kd a p) (λ v r. q v (read_serves h.world kd a p v r)) go

      pub read_op : (d x : ℕ) (kd : Kind) (a : Access) → slice_get code pc ≡ Some (op.ReadRegister d x kd a) → ((v : Value) → serves a v ≡ true → Q (with_temp temps d v)) → From k (pc + 1) Q → Safe k (slot h temps pc)
      read_op d x kd a e q go = at_op k h i temps pc (op.ReadRegister d x kd a) e refl λ j lt. some_after (Safe j) (slots.address_of h x) _ λ p s. gives_to j lt d (slots.read h.world kd a p) (λ v r. q v (read_serves h.world kd a p v r)) go

      writes_to : (j : ℕ) → j < k → (kd : Kind) (p : Value) (y : ℕ) → Q temps → From k (pc + 1) Q → After (Safe j) (slots.writes c (slot h temps pc) kd p y)
      writes_to j lt kd p y q go = temp_after (Safe j) (temps y) _ λ v s. ok_after (Safe j) (store h.world kd p v) _ λ w r. go j (omega (arith, lt)) (with_world h w) i temps q

      pub store_op : (x y : ℕ) (kd : Kind) → slice_get code pc ≡ Some (op.Store x y kd) → Q temps → From k (pc + 1) Q → Safe k (slot h temps pc)
      store_op x y kd e q go = at_op k h i temps pc (op.Store x y kd) e refl λ j lt. temp_after (Safe j) (temps x) _ λ p s. writes_to j lt kd p y q go

      pub write_op : (y x : ℕ) (kd : Kind) → slice_get code pc ≡ Some (op.WriteRegister y x kd) → Q temps → From k (pc + 1) Q → Safe k (slot h temps pc)
      write_op y x kd e q go = at_op k h i temps pc (op.WriteRegister y x kd) e refl λ j lt. some_after (Safe j) (slots.address_of h x) _ λ p s. writes_to j lt kd p y q go

      pub convert_op : (d : ℕ) (a : Access) → slice_get code pc ≡ Some (op.Convert d a) → holds (serves a) (temps d) ≡ true → ((u v : Value) → temps d ≡ Some u → extended a u ≡ Ok v → Q (with_temp temps d v)) → From k (pc + 1) Q → Safe k (slot h temps pc)
      convert_op d a e t q go = at_op k h i temps pc (op.Convert d a) e t λ j lt. temp_after (Safe j) (temps d) _ λ u s. gives_to j lt d (extended a u) (λ v r. q u v s r) go

      pub unary_op : (d : ℕ) (u : UnaryWordOp) → slice_get code pc ≡ Some (op.Unary d u) → ((x v : Value) → temps d ≡ Some x → unary h.world u x ≡ Ok v → Q (with_temp temps d v)) → From k (pc + 1) Q → Safe k (slot h temps pc)
      unary_op d u e q go = at_op k h i temps pc (op.Unary d u) e refl λ j lt. temp_after (Safe j) (temps d) _ λ x s. gives_to j lt d (unary h.world u x) (λ v r. q x v s r) go

      pub binary_op : (d x y : ℕ) (b : WordOp) → slice_get code pc ≡ Some (op.Binary d x y b) → ((u w v : Value) → temps x ≡ Some u → temps y ≡ Some w → binary b u w ≡ Ok v → Q (with_temp temps d v)) → From k (pc + 1) Q → Safe k (slot h temps pc)
      binary_op d x y b e q go = at_op k h i temps pc (op.Binary d x y b) e refl λ j lt. two_to j lt x y d (binary b) q go

      pub compare_op : (d x y : ℕ) (b : PointerOp) → slice_get code pc ≡ Some (op.Compare d x y b) → takes c (slot h temps pc) (op.Compare d x y b) ≡ true → ((v : Value) → Q (with_temp temps d v)) → From k (pc + 1) Q → Safe k (slot h temps pc)
      compare_op d x y b e t q go = at_op k h i temps pc (op.Compare d x y b) e t λ j lt. two_to j lt x y d (compared h.world b) (λ u w v s r g. q v) go

      pub index_op : (d x y size : ℕ) (u back : Bool) → slice_get code pc ≡ Some (op.Index d x y size u back) → ((v : Value) → is_pointer v ≡ true → Q (with_temp temps d v)) → From k (pc + 1) Q → Safe k (slot h temps pc)
      index_op d x y size u back e q go = at_op k h i temps pc (op.Index d x y size u back) e refl λ j lt. two_to j lt x y d (indexed h.world size u back) (λ a b v s r g. q v (indexed_pointer h.world size u back a b v g)) go

      pub distance_op : (d x y size : ℕ) → slice_get code pc ≡ Some (op.Distance d x y size) → ((v : Value) → Q (with_temp temps d v)) → From k (pc + 1) Q → Safe k (slot h temps pc)
      distance_op d x y size e q go = at_op k h i temps pc (op.Distance d x y size) e refl λ j lt. two_to j lt x y d (distance h.world size) (λ a b v s r g. q v) go

      pub offset_op : (d n : ℕ) → slice_get code pc ≡ Some (op.Offset d n) → ((v : Value) → is_pointer v ≡ true → Q (with_temp temps d v)) → From k (pc + 1) Q → Safe k (slot h temps pc)
      offset_op d n e q go = at_op k h i temps pc (op.Offset d n) e refl λ j lt. temp_after (Safe j) (temps d) _ λ x s. gives_to j lt d (moved h.world x (pos n)) (λ v r. q v (moved_pointer h.world x v (pos n) r)) go

      pub take_op : (d x : ℕ) → slice_get code pc ≡ Some (op.Take d x) → ((v : Value) → temps x ≡ Some v → Q (with_temp temps d v)) → From k (pc + 1) Q → Safe k (slot h temps pc)
      take_op d x e q go = at_op k h i temps pc (op.Take d x) e refl λ j lt. temp_after (Safe j) (temps x) _ λ v s. go j (omega (arith, lt)) h i _ (q v s)

      pub move_op : (x y s : ℕ) → slice_get code pc ≡ Some (op.Move x y s) → Q temps → From k (pc + 1) Q → Safe k (slot h temps pc)
      move_op x y s e q go = at_op k h i temps pc (op.Move x y s) e refl λ j lt. temp_after (Safe j) (temps x) _ λ a g. temp_after (Safe j) (temps y) _ λ b r.
          ok_after (Safe j) (load_struct h.world (zero_cells (slots.leaves_in (slice_get c.structs s))) b) _ λ vs u. ok_after (Safe j) (store_struct h.world (zero_cells (slots.leaves_in (slice_get c.structs s))) a vs) _ λ w v.
          go j (omega (arith, lt)) (with_world h w) i temps q

      pub stop_op : (q : ℕ) → slice_get code pc ≡ Some (op.Stop q) → Q temps → From k (pc + 1) Q → Safe k (slot h temps pc)
      stop_op q e z go = at_op k h i temps pc (op.Stop q) e refl λ j lt. λ w. go j (omega (arith, lt)) (with_world (with_point h q) w) i temps z

      pub get_op : (d : ℕ) → slice_get code pc ≡ Some (op.GetChar d) → ((v : Value) → Q (with_temp temps d v)) → From k (pc + 1) Q → Safe k (slot h temps pc)
      get_op d e q go = at_op k h i temps pc (op.GetChar d) e refl λ j lt. go j (omega (arith, lt)) _ i _ (q (Number (slots.next_byte h.world.input)))

      pub put_op : (d : ℕ) → slice_get code pc ≡ Some (op.PutChar d) → ((v : Value) → Q (with_temp temps d v)) → From k (pc + 1) Q → Safe k (slot h temps pc)
      put_op d e q go = at_op k h i temps pc (op.PutChar d) e refl λ j lt. temp_after (Safe j) (temps d) _ λ v s. ok_after (Safe j) (number_in v) _ λ n r. go j (omega (arith, lt)) _ i _ (q _)

      pub exit_op : (d : ℕ) → slice_get code pc ≡ Some (op.Exit d) → Safe k (slot h temps pc)
      exit_op d e = at_op k h i temps pc (op.Exit d) e refl λ j lt. temp_after (Safe j) (temps d) _ λ v s. ok_after (Safe j) (number_in v) _ λ n r.
          let g : slice_get (code_of c h.activation.function) pc ≡ Some (op.Exit d) = ap (λ n. slice_get (code_of c n) pc) i ∙ e in ap (takes_at c (slot h temps pc)) g

      -- ---- jumps

      pub jump_op : (to : ℕ) → slice_get code pc ≡ Some (op.Jump to) → Q temps → ((j : ℕ) → j < k → (h : Here) → In h → (temps : Temps) → Q temps → Safe j (slot h temps to)) → Safe k (slot h temps pc)
      jump_op to e q go = at_op k h i temps pc (op.Jump to) e refl λ j lt. go j lt h i temps q

      if_to : (j : ℕ) → j < k → (b : Bool) (to : ℕ) → (b ≡ true → Safe j (slot h temps to)) → (b ≡ false → Safe j (slot h temps (pc + 1))) → After (Safe j) (slots.jumps_if c (slot h temps pc) b to)
      if_to j lt true to y z = y refl
      if_to j lt false to y z = z refl

      not_to : (j : ℕ) (b : Bool) (to : ℕ) → (b ≡ true → Safe j (slot h temps (pc + 1))) → (b ≡ false → Safe j (slot h temps to)) → After (Safe j) (if b then slots.jumps c (slot h temps pc) (pc + 1) else slots.jumps c (slot h temps pc) to)
      not_to j true to y z = y refl
      not_to j false to y z = z refl

    module _ (k : ℕ) (h : Here) (i : In h) (temps : Temps) (pc : ℕ) where
      pub zero_jump : (d to : ℕ) → slice_get code pc ≡ Some (op.JumpIfZero d to)
          → ((j : ℕ) → j < k → (v : Value) → temps d ≡ Some v → is_zero v ≡ true → Safe j (slot h temps to))
          → ((j : ℕ) → j < k → (v : Value) → temps d ≡ Some v → is_zero v ≡ false → Safe j (slot h temps (pc + 1))) → Safe k (slot h temps pc)
      zero_jump d to e y z = at_op k h i temps pc (op.JumpIfZero d to) e refl λ j lt. temp_after (Safe j) (temps d) _ λ v s. ok_after (Safe j) (used h.world v) _ λ x r.
          let w = used_same h.world v x r in
          if_to k h i temps pc (λ t. Unit {0}) j lt (is_zero x) to (λ b. y j lt v s (ap is_zero w ∙ b)) (λ b. z j lt v s (ap is_zero w ∙ b))

      pub other_jump : (d to : ℕ) → slice_get code pc ≡ Some (op.JumpIfNotZero d to)
          → ((j : ℕ) → j < k → (v : Value) → temps d ≡ Some v → is_zero v ≡ false → Safe j (slot h temps to))
          → ((j : ℕ) → j < k → (v : Value) → temps d ≡ Some v → is_zero v ≡ true → Safe j (slot h temps (pc + 1))) → Safe k (slot h temps pc)
      other_jump d to e y z = at_op k h i temps pc (op.JumpIfNotZero d to) e refl λ j lt. temp_after (Safe j) (temps d) _ λ v s. ok_after (Safe j) (used h.world v) _ λ x r.
          let w = used_same h.world v x r in
          not_to k h i temps pc (λ t. Unit {0}) j (is_zero x) to (λ b. z j lt v s (ap is_zero w ∙ b)) (λ b. y j lt v s (ap is_zero w ∙ b))

      pub equal_jump : (d n to : ℕ) → slice_get code pc ≡ Some (op.JumpIfEqual d n to) → ((j : ℕ) → j < k → Safe j (slot h temps to)) → ((j : ℕ) → j < k → Safe j (slot h temps (pc + 1))) → Safe k (slot h temps pc)
      equal_jump d n to e y z = at_op k h i temps pc (op.JumpIfEqual d n to) e refl λ j lt. temp_after (Safe j) (temps d) _ λ v s. ok_after (Safe j) (number_in v) _ λ m r.
          if_to k h i temps pc (λ t. Unit {0}) j lt _ to (λ b. y j lt) (λ b. z j lt)
