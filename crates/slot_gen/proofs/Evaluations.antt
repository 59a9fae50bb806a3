-- Expressions that are taken up are answered by their code.
use Rattle.std.proofs.Common.{◌≡◌, ℕ, suc, ◌+◌, ◌*◌, ◌<◌, List, [], ◌∷◌, ◌++◌, length, Option, Some, None, Bool, true, false, refl, sym, ap, ◌∙◌, subst, arith, length-append, ⊎_elim, inl}
use Rattle.std.specs.Prelude.{slice_get, option_map, ◌⊎◌, if◌then◌else◌}
use Rattle.c_tree.specs.declared.types.CType.{CType}
use Rattle.c_tree.specs.declared.types.CType.TheVariants.{Int}
use Rattle.c_tree.specs.declared.typed.BinaryOp.TheVariants.{Add}
use Rattle.c_tree.specs.declared.typed.Head.{Head}
use Rattle.c_tree.specs.declared.typed.Typed.{Typed}
use Rattle.c_tree.specs.declared.typed.Typed.TheVariants.{Comma', Assign', Choice', Or', And', Binary', Cast', Before', Address', Follow', Unary', SizeOf', SizeOfType, Index', Call', Dot', Arrow', After', Name, Constant, Literal, Parens'}
use Rattle.c_tree.specs.declared.rows.SymbolRow.{SymbolRow}
use Rattle.c_tree.specs.declared.rows.Referent.{Referent}
use Rattle.c_tree.specs.declared.rows.Referent.TheVariants.{Object, Local, Function as Defined, Declared}
use Rattle.c_tree.specs.Rows.{exprs}
use Rattle.c_tree.specs.Types.{type_of, is_struct}
use Rattle.c_tree.specs.Layout.{size_of}
use Rattle.runs.specs.Runs.{Goes as GoesOn}
use Rattle.c_store.specs.Store.{Value, Number, At}
use Rattle.c_store.specs.Frames.{bound}
use Rattle.c_source.specs.Control.{Item, Eval, Locate, Push, Load, Convert, Store, Copy, Update, Change, Combine, Offset, Use, Discard, Truth, AndThen, OrElse, Pick, Joined, Enter, evals_of}
use Rattle.c_source.specs.Source.{dot_offset, arrow_offset, stepping, place_in, place_of}
use Rattle.c_source.specs.Source as source
use Rattle.slot_ir.specs.declared.code.SlotOp.{SlotOp}
use Rattle.slot_ir.specs.declared.code.SlotOp.TheVariants as op
use Rattle.slot_ir.specs.declared.code.UnaryWordOp.TheVariants as unary
use Rattle.slot_ir.specs.Slots.{Temps, SlotState, with_temp}
use Rattle.slot_ir.specs.Begin as beginning
use Rattle.slot_ir.specs.Slots as slots
use Rattle.slot_gen.specs.Expressions.{cast_code, combine_op, and_code, or_code, enter_code, unary_op, expr_code, place_code, args_code, name_code, referent_code, referent_register, register_named, register_in, register_of, if_register}
use Rattle.slot_gen.proofs.Follow.{HasAt, has_front, has_back, Where, InTemp, InReg, split, evals_follow, loops_evals, temps_on, binary_follows, assign_follows, compound_follows, stepped_follows, lvalue_follows, stored_follows, chosen_first, chosen_second, pick_of, row_args}
use Rattle.slot_gen.proofs.Weight.{weight, size, weight-evals}
use Rattle.slot_gen.proofs.Match.{Setting, Ground, Answered, SameOutput, D, F, L, slot, now, code, again, none_step, pure_step, one_step, set_step, some_steps, one, silent_then, puts}
use Rattle.slot_gen.proofs.Values.{tested, zero_jumps, other_jumps}

module _ (set : Setting) (g : Ground set) where
  -- where the function's code is, by the program and the function's number
  abbrev f : ℕ
  f = g.h.activation.function

  abbrev n : ℕ
  n = length g.h.activation.locals

  assign_weight : (b : Bool) (a e : Typed) (t : CType) (k : List Item) → weight (if b then Locate a ∷ Locate e ∷ Copy t ∷ k else Locate a ∷ Eval e ∷ Store t ∷ k) < 8 * suc (size a + size e) + 2 + weight k
  assign_weight true a e t k = omega arith
  assign_weight false a e t k = omega arith

  assign_loops : (b : Bool) (a e : Typed) (t : CType) (k : List Item) (r : _) → L set g r k → L set g r (if b then Locate a ∷ Locate e ∷ Copy t ∷ k else Locate a ∷ Eval e ∷ Store t ∷ k)
  assign_loops true a e t k r l = l
  assign_loops false a e t k r l = l

  pub eval_answers : (e : Typed) (k : List Item) (ws : List Where) (vs : List Value) (temps : Temps) (pc : ℕ) → D set g ws vs (Eval e ∷ k) temps pc
      → Answered set (now set g vs (Eval e ∷ k)) (source.evaluate set.p g.h g.outer e vs k) (slot set g temps pc)
  eval_answers (Comma' t x a y b) k ws vs temps pc d =
      let ca = expr_code set.p f pc (length ws) a in
      let u = split set.p f (code set g) d.around n ca (expr_code set.p f (pc + length ca) (length ws) b) pc (InTemp ∷ ws) k d.follows.0 d.follows.1 in
      pure_step set g (Eval (Comma' t x a y b) ∷ k) (Eval a ∷ Use ∷ Discard ∷ Eval b ∷ Use ∷ k) ws vs temps pc 1 d (omega arith) d.loops (u.0, (pc + length ca, inl refl, (u.1.0, u.1.1)))
  eval_answers (Assign' t x a None y b) k ws vs temps pc d =
      pure_step set g (Eval (Assign' t x a None y b) ∷ k) (if is_struct (type_of a) then Locate a ∷ Locate b ∷ Copy (type_of a) ∷ k else Locate a ∷ Eval b ∷ Store (type_of a) ∷ k) ws vs temps pc 1 d
      (assign_weight (is_struct (type_of a)) a b (type_of a) k) (assign_loops (is_struct (type_of a)) a b (type_of a) k d.around d.loops)
      (assign_follows set.p f (code set g) d.around n a b (is_struct (type_of a)) pc ws k refl d.follows.0 d.follows.1)
  eval_answers (Assign' t x a (Some o) y b) k ws vs temps pc d =
      pure_step set g (Eval (Assign' t x a (Some o) y b) ∷ k) (Locate a ∷ Eval b ∷ Update (type_of a) o (type_of b) true ∷ k) ws vs temps pc 1 d (omega arith) d.loops
      (compound_follows set.p f (code set g) d.around n a b o pc ws k d.follows.0 d.follows.1)
  eval_answers (Choice' t x e y a z b) k ws vs temps pc d =
      let ce = expr_code set.p f pc (length ws) e in
      let u = split set.p f (code set g) d.around n ce (pick_of set.p f (code set g) (pc + length ce) (length ws) t.ctype a b) pc (InTemp ∷ ws) k d.follows.0 d.follows.1 in
      pure_step set g (Eval (Choice' t x e y a z b) ∷ k) (Eval e ∷ Pick t.ctype a b ∷ k) ws vs temps pc 1 d (omega arith) d.loops (u.0, (u.1.0, u.1.1))
  eval_answers (Or' t x a y b) k ws vs temps pc d =
      let ca = expr_code set.p f pc (length ws) a in
      let u = split set.p f (code set g) d.around n ca (or_code (pc + length ca) (length ws) (expr_code set.p f (pc + length ca + 1) (length ws) b)) pc (InTemp ∷ ws) k d.follows.0 d.follows.1 in
      pure_step set g (Eval (Or' t x a y b) ∷ k) (Eval a ∷ OrElse b ∷ k) ws vs temps pc 1 d (omega arith) d.loops (u.0, (u.1.0, u.1.1))
  eval_answers (And' t x a y b) k ws vs temps pc d =
      let ca = expr_code set.p f pc (length ws) a in
      let u = split set.p f (code set g) d.around n ca (and_code (pc + length ca) (length ws) (expr_code set.p f (pc + length ca + 1) (length ws) b)) pc (InTemp ∷ ws) k d.follows.0 d.follows.1 in
      pure_step set g (Eval (And' t x a y b) ∷ k) (Eval a ∷ AndThen b ∷ k) ws vs temps pc 1 d (omega arith) d.loops (u.0, (u.1.0, u.1.1))
  eval_answers (Binary' t x a o y b) k ws vs temps pc d =
      pure_step set g (Eval (Binary' t x a o y b) ∷ k) (Eval a ∷ Eval b ∷ Combine o (type_of a) (type_of b) ∷ k) ws vs temps pc 1 d (omega arith) d.loops
      (binary_follows set.p f (code set g) d.around n a b (combine_op set.p (length ws) (length ws) (suc (length ws)) o (type_of a) (type_of b)) pc ws k d.follows.0 d.follows.1 (Combine o (type_of a) (type_of b) ∷ k) (λ i e q. (e, q)))
  eval_answers (Cast' t x a) k ws vs temps pc d =
      let u = split set.p f (code set g) d.around n (expr_code set.p f pc (length ws) a) (cast_code (length ws) t.ctype) pc (InTemp ∷ ws) k d.follows.0 d.follows.1 in
      pure_step set g (Eval (Cast' t x a) ∷ k) (Eval a ∷ Convert t.ctype ∷ k) ws vs temps pc 1 d (omega arith) d.loops (u.0, (u.1.0, u.1.1))
  eval_answers (Before' t o x a) k ws vs temps pc d =
      pure_step set g (Eval (Before' t o x a) ∷ k) (Locate a ∷ Push (Number 1) ∷ Update (type_of a) (stepping o) Int true ∷ k) ws vs temps pc 1 d (omega arith) d.loops
      (stepped_follows set.p f (code set g) d.around n a (stepping o) true pc ws k d.follows.0 d.follows.1)
  eval_answers (Address' t x a) k ws vs temps pc d =
      pure_step set g (Eval (Address' t x a) ∷ k) (Locate a ∷ k) ws vs temps pc 1 d (omega arith) d.loops (inl d.follows)
  eval_answers (Unary' t o x a) k ws vs temps pc d =
      let u = split set.p f (code set g) d.around n (expr_code set.p f pc (length ws) a) (op.Unary (length ws) (unary_op o (type_of a)) ∷ []) pc (InTemp ∷ ws) k d.follows.0 d.follows.1 in
      pure_step set g (Eval (Unary' t o x a) ∷ k) (Eval a ∷ Change o (type_of a) ∷ k) ws vs temps pc 1 d (omega arith) d.loops (u.0, (u.1.0.0, u.1.1))
  eval_answers (SizeOf' t x a) k ws vs temps pc d =
      set_step set g (Eval (SizeOf' t x a) ∷ k) k ws ws vs vs temps pc 1 (Number (size_of set.p.defs (type_of a))) (op.Const (length ws) (size_of set.p.defs (type_of a))) d (omega arith) d.follows.0.0 refl d.holds d.loops d.follows.1
  eval_answers (SizeOfType t of) k ws vs temps pc d =
      set_step set g (Eval (SizeOfType t of) ∷ k) k ws ws vs vs temps pc 1 (Number (size_of set.p.defs of)) (op.Const (length ws) (size_of set.p.defs of)) d (omega arith) d.follows.0.0 refl d.holds d.loops d.follows.1
  eval_answers (Call' t q x row) k ws vs temps pc d =
      let co = code set g in
      let es = exprs row in
      let last = enter_code (length ws) (slice_get set.p.symbols q) (length es) in
      let same = row_args set.p f pc (length ws) row in
      let args = args_code set.p f pc (length ws) es in
      let has = subst (λ l. HasAt co pc (l ++ last)) same d.follows.0 in
      let rest = subst (λ l. F set g d.around (pc + length (l ++ last)) (InTemp ∷ ws) k) same d.follows.1 in
      let u = split set.p f co d.around n args last pc (InTemp ∷ ws) k has rest in
      let enter : F set g d.around (pc + length args) (temps_on (length es) ws) (Enter q (length es) ∷ k) = (ws, refl, u.1.0, u.1.1) in
      pure_step set g (Eval (Call' t q x row) ∷ k) (evals_of es ++ Enter q (length es) ∷ k) ws vs temps pc 1 d (omega (arith, weight-evals row (Enter q (length es) ∷ k)))
      (loops_evals set.p f co d.around es (Enter q (length es) ∷ k) d.loops)
      (evals_follow set.p f co d.around n es pc ws (Enter q (length es) ∷ k) u.0 enter)
  eval_answers (After' t x a o) k ws vs temps pc d =
      pure_step set g (Eval (After' t x a o) ∷ k) (Locate a ∷ Push (Number 1) ∷ Update (type_of a) (stepping o) Int false ∷ k) ws vs temps pc 1 d (omega arith) d.loops
      (stepped_follows set.p f (code set g) d.around n a (stepping o) false pc ws k d.follows.0 d.follows.1)
  eval_answers (Constant t m) k ws vs temps pc d =
      set_step set g (Eval (Constant t m) ∷ k) k ws ws vs vs temps pc 1 (Number m) (op.Const (length ws) m) d (omega arith) d.follows.0.0 refl d.holds d.loops d.follows.1
  eval_answers (Parens' t x a) k ws vs temps pc d =
      pure_step set g (Eval (Parens' t x a) ∷ k) (Eval a ∷ k) ws vs temps pc 1 d (omega arith) d.loops d.follows
  eval_answers (Name t m) k ws vs temps pc d =
      pure_step set g (Eval (Name t m) ∷ k) (Locate (Name t m) ∷ Load t.ctype ∷ k) ws vs temps pc 1 d (omega arith) d.loops
      (lvalue_follows set.p f (code set g) d.around n (Name t m) (register_in set.p f (Name t m)) pc ws k refl d.follows.0 d.follows.1)
  eval_answers (Literal t m) k ws vs temps pc d =
      pure_step set g (Eval (Literal t m) ∷ k) (Locate (Literal t m) ∷ Load t.ctype ∷ k) ws vs temps pc 1 d (omega arith) d.loops
      (stored_follows set.p f (code set g) d.around n (Literal t m) pc ws k d.follows.0 d.follows.1)
  eval_answers (Follow' t x a) k ws vs temps pc d =
      pure_step set g (Eval (Follow' t x a) ∷ k) (Locate (Follow' t x a) ∷ Load t.ctype ∷ k) ws vs temps pc 1 d (omega arith) d.loops
      (stored_follows set.p f (code set g) d.around n (Follow' t x a) pc ws k d.follows.0 d.follows.1)
  eval_answers (Index' t x a y b) k ws vs temps pc d =
      pure_step set g (Eval (Index' t x a y b) ∷ k) (Locate (Index' t x a y b) ∷ Load t.ctype ∷ k) ws vs temps pc 1 d (omega arith) d.loops
      (stored_follows set.p f (code set g) d.around n (Index' t x a y b) pc ws k d.follows.0 d.follows.1)
  eval_answers (Dot' t x a m) k ws vs temps pc d =
      pure_step set g (Eval (Dot' t x a m) ∷ k) (Locate (Dot' t x a m) ∷ Load t.ctype ∷ k) ws vs temps pc 1 d (omega arith) d.loops
      (stored_follows set.p f (code set g) d.around n (Dot' t x a m) pc ws k d.follows.0 d.follows.1)
  eval_answers (Arrow' t x a m) k ws vs temps pc d =
      pure_step set g (Eval (Arrow' t x a m) ∷ k) (Locate (Arrow' t x a m) ∷ Load t.ctype ∷ k) ws vs temps pc 1 d (omega arith) d.loops
      (stored_follows set.p f (code set g) d.around n (Arrow' t x a m) pc ws k d.follows.0 d.follows.1)

  -- ---- places

  -- a lvalue that is no local in a register stands in the code
  only_temp : {A : Type 0} {B : ℕ → Type 0} → A ⊎ ((x : ℕ) × (None ≡ Some x) × B x) → A
  only_temp s = ⊎_elim (λ a. a) (λ r. absurd (cc r.1)) s

  local_answers : (t : Head) (m y : ℕ) (k : List Item) (ws : List Where) (vs : List Value) (temps : Temps) (pc : ℕ) → (d : D set g ws vs (Locate (Name t m) ∷ k) temps pc)
      → (HasAt (code set g) pc (op.LocalAddress (length ws) y ∷ []) × F set g d.around (pc + 1) (InTemp ∷ ws) k) ⊎ ((x : ℕ) × (if_register y (register_of set.p f y) ≡ Some x) × F set g d.around pc (InReg x ∷ ws) k)
      → (q : Option ℕ) → bound y g.h.activation.locals ≡ q
      → Answered set (now set g vs (Locate (Name t m) ∷ k)) (source.on_some (option_map (λ o. At o 0) q) (λ v. GoesOn 1 (now set g (v ∷ vs) k))) (slot set g temps pc)
  local_answers t m y k ws vs temps pc d s None e = tt
  local_answers t m y k ws vs temps pc d s (Some o) e =
      ⊎_elim
      (λ a. set_step set g (Locate (Name t m) ∷ k) k ws ws vs vs temps pc 1 (At o 0) (op.LocalAddress (length ws) y) d (omega arith) a.0.0 (ap (λ q. slots.on_some (option_map (λ o. At o 0) q) (λ v. slots.sets set.c (slot set g temps pc) (length ws) v)) e) d.holds d.loops a.1)
      (λ r. none_step set g (Locate (Name t m) ∷ k) k ws (InReg r.0 ∷ ws) vs (At o 0 ∷ vs) temps pc 1 d (omega arith)
      (ap (λ x. option_map (λ o. At o 0) (bound x g.h.activation.locals)) (sym (same_local y (register_of set.p f y) r.0 r.1)) ∙ ap (option_map (λ o. At o 0)) e, d.holds) d.loops r.2)
      s
    where
      same_local : (y : ℕ) (o : Option ℕ) (x : ℕ) → if_register y o ≡ Some x → y ≡ x
      same_local y None x e = absurd (cc e)
      same_local y (Some r) x e = cc e

  name_answers : (t : Head) (m : ℕ) (k : List Item) (ws : List Where) (vs : List Value) (temps : Temps) (pc : ℕ) → (d : D set g ws vs (Locate (Name t m) ∷ k) temps pc)
      → (q : Option SymbolRow)
      → (HasAt (code set g) pc (name_code set.p f (length ws) q) × F set g d.around (pc + length (name_code set.p f (length ws) q)) (InTemp ∷ ws) k) ⊎ ((x : ℕ) × (register_named set.p f q ≡ Some x) × F set g d.around pc (InReg x ∷ ws) k)
      → Answered set (now set g vs (Locate (Name t m) ∷ k)) (source.on_some (place_in q g.h) (λ v. GoesOn 1 (now set g (v ∷ vs) k))) (slot set g temps pc)
  name_answers t m k ws vs temps pc d None s = tt
  name_answers t m k ws vs temps pc d (Some row) s = by row.refers s
    where
      by : (q : Referent)
          → (HasAt (code set g) pc (referent_code (length ws) q) × F set g d.around (pc + length (referent_code (length ws) q)) (InTemp ∷ ws) k) ⊎ ((x : ℕ) × (referent_register set.p f q ≡ Some x) × F set g d.around pc (InReg x ∷ ws) k)
          → Answered set (now set g vs (Locate (Name t m) ∷ k)) (source.on_some (place_of q g.h) (λ v. GoesOn 1 (now set g (v ∷ vs) k))) (slot set g temps pc)
      by (Object o) s =
          let a = only_temp s in
          set_step set g (Locate (Name t m) ∷ k) k ws ws vs vs temps pc 1 (At o 0) (op.StaticAddress (length ws) o) d (omega arith) a.0.0 refl d.holds d.loops a.1
      by (Local y) s = local_answers t m y k ws vs temps pc d s (bound y g.h.activation.locals) refl
      by (Defined j) s = tt
      by Declared s = tt

  pub locate_answers : (e : Typed) (k : List Item) (ws : List Where) (vs : List Value) (temps : Temps) (pc : ℕ) → D set g ws vs (Locate e ∷ k) temps pc
      → Answered set (now set g vs (Locate e ∷ k)) (source.locate set.p g.h g.outer e vs k) (slot set g temps pc)
  locate_answers (Name t m) k ws vs temps pc d = name_answers t m k ws vs temps pc d (slice_get set.p.symbols m) d.follows
  locate_answers (Literal t m) k ws vs temps pc d =
      let a = only_temp d.follows in
      set_step set g (Locate (Literal t m) ∷ k) k ws ws vs vs temps pc 1 (At (length set.p.objects + m) 0) (op.TextAddress (length ws) m) d (omega arith) a.0.0 (ap (λ l. slots.sets set.c (slot set g temps pc) (length ws) (At (l + m) 0)) set.is.objects) d.holds d.loops a.1
  locate_answers (Follow' t x a) k ws vs temps pc d =
      let u = only_temp d.follows in
      pure_step set g (Locate (Follow' t x a) ∷ k) (Eval a ∷ Use ∷ k) ws vs temps pc 1 d (omega arith) d.loops (u.0, u.1)
  locate_answers (Index' t x a y b) k ws vs temps pc d =
      let u = only_temp d.follows in
      pure_step set g (Locate (Index' t x a y b) ∷ k) (Eval a ∷ Eval b ∷ Combine Add (type_of a) (type_of b) ∷ k) ws vs temps pc 1 d (omega arith) d.loops
      (binary_follows set.p f (code set g) d.around n a b (combine_op set.p (length ws) (length ws) (suc (length ws)) Add (type_of a) (type_of b)) pc ws k u.0 u.1 (Combine Add (type_of a) (type_of b) ∷ k) (λ i e q. (e, q)))
  locate_answers (Dot' t x a m) k ws vs temps pc d =
      let s = only_temp d.follows in
      let u = split set.p f (code set g) d.around n (place_code set.p f pc (length ws) a) (op.Offset (length ws) (dot_offset set.p a m) ∷ []) pc (InTemp ∷ ws) k s.0 s.1 in
      pure_step set g (Locate (Dot' t x a m) ∷ k) (Locate a ∷ Offset (dot_offset set.p a m) ∷ k) ws vs temps pc 1 d (omega arith) d.loops (inl (u.0, (u.1.0.0, u.1.1)))
  locate_answers (Arrow' t x a m) k ws vs temps pc d =
      let s = only_temp d.follows in
      let u = split set.p f (code set g) d.around n (expr_code set.p f pc (length ws) a) (op.Offset (length ws) (arrow_offset set.p a m) ∷ []) pc (InTemp ∷ ws) k s.0 s.1 in
      pure_step set g (Locate (Arrow' t x a m) ∷ k) (Eval a ∷ Offset (arrow_offset set.p a m) ∷ k) ws vs temps pc 1 d (omega arith) d.loops (u.0, (u.1.0.0, u.1.1))
  locate_answers (Parens' t x a) k ws vs temps pc d =
      pure_step set g (Locate (Parens' t x a) ∷ k) (Locate a ∷ k) ws vs temps pc 1 d (omega arith) d.loops d.follows
  locate_answers _ k ws vs temps pc d = tt

  -- ---- choices

  pub pick_answers : (t : CType) (a b : Typed) (k : List Item) (ws : List Where) (x : Value) (vs : List Value) (temps : Temps) (pc : ℕ) → D set g (InTemp ∷ ws) (x ∷ vs) (Pick t a b ∷ k) temps pc
      → Answered set (now set g (x ∷ vs) (Pick t a b ∷ k)) (source.on_test set.p g.h g.outer x (GoesOn 1 (now set g vs (Eval a ∷ Use ∷ Convert t ∷ Joined ∷ k))) (GoesOn 1 (now set g vs (Eval b ∷ Use ∷ Convert t ∷ k)))) (slot set g temps pc)
  pick_answers t a b k ws x vs temps pc d =
      let i = length ws in
      let co = code set g in
      let st = slot set g temps pc in
      let ca = expr_code set.p f (pc + 1) i a ++ cast_code i t in
      let cb = expr_code set.p f (pc + 1 + length ca + 1) i b ++ cast_code i t in
      let o = now set g (x ∷ vs) (Pick t a b ∷ k) in
      let u = chosen_first set.p f co d.around n i ca cb pc (InTemp ∷ ws) k d.follows.0 d.follows.1 in
      let ua = split set.p f co d.around n (expr_code set.p f (pc + 1) i a) (cast_code i t) (pc + 1) (InTemp ∷ ws) (Joined ∷ k) u.0 u.1 in
      let v = chosen_second set.p f co d.around n i ca cb pc (InTemp ∷ ws) k d.follows.0 d.follows.1 in
      let vb = split set.p f co d.around n (expr_code set.p f (pc + 1 + length ca + 1) i b) (cast_code i t) (pc + 1 + length ca + 1) (InTemp ∷ ws) k v.0 v.1 in
      tested set g x o (GoesOn 1 (now set g vs (Eval a ∷ Use ∷ Convert t ∷ Joined ∷ k))) (GoesOn 1 (now set g vs (Eval b ∷ Use ∷ Convert t ∷ k))) st
      (λ s e. one_step set g (Pick t a b ∷ k) (Eval a ∷ Use ∷ Convert t ∷ Joined ∷ k) (x ∷ vs) vs temps temps pc (pc + 1) 1 1 ws (op.JumpIfZero i (pc + 1 + length ca + 1)) (omega arith) d.follows.0.0 (zero_jumps set g st i (pc + 1 + length ca + 1) x false d.holds.0 s e)
      (again set g (InTemp ∷ ws) ws (x ∷ vs) vs (Pick t a b ∷ k) (Eval a ∷ Use ∷ Convert t ∷ Joined ∷ k) temps temps pc (pc + 1) d d.holds.1 d.loops (ua.0, (ua.1.0, ua.1.1))))
      (λ s e. one_step set g (Pick t a b ∷ k) (Eval b ∷ Use ∷ Convert t ∷ k) (x ∷ vs) vs temps temps pc (pc + 1 + length ca + 1) 1 1 ws (op.JumpIfZero i (pc + 1 + length ca + 1)) (omega arith) d.follows.0.0 (zero_jumps set g st i (pc + 1 + length ca + 1) x true d.holds.0 s e)
      (again set g (InTemp ∷ ws) ws (x ∷ vs) vs (Pick t a b ∷ k) (Eval b ∷ Use ∷ Convert t ∷ k) temps temps pc (pc + 1 + length ca + 1) d d.holds.1 d.loops (vb.0, (vb.1.0, vb.1.1))))

  -- `&&` and `||`: behind their jump stand the right operand, its truth, a jump past the end, and the other value
  module _ (e : Typed) (v : ℕ) (jump : SlotOp) (i0 : Item) (k : List Item) (ws : List Where) (x : Value) (vs : List Value) (temps : Temps) (pc : ℕ) (d : D set g (InTemp ∷ ws) (x ∷ vs) (i0 ∷ k) temps pc) where
    abbrev right : List SlotOp
    right = expr_code set.p f (pc + 1) (length ws) e

    abbrev over : List SlotOp
    over = op.Unary (length ws) unary.Truth ∷ op.Jump (pc + 1 + length right + 3) ∷ op.Const (length ws) v ∷ []

    over_at : (a : ℕ) → HasAt (code set g) pc (jump ∷ (right ++ over)) → a ≡ pc + 1 + length right + 2 → slice_get (code set g) a ≡ Some (op.Const (length ws) v)
    over_at a has q =
        let at : pc + 1 + length right + 1 + 1 ≡ a = omega (arith, q) in
        subst (λ i. slice_get (code set g) i ≡ Some (op.Const (length ws) v)) at (has_back (code set g) (pc + 1) right over has.1).1.1.0

    goes_right : HasAt (code set g) pc (jump ∷ (right ++ over)) → F set g d.around (pc + length (jump ∷ (right ++ over))) (InTemp ∷ ws) k → L set g d.around k
        → slots.act set.c (slot set g temps pc) jump ≡ slots.jumps set.c (slot set g temps pc) (pc + 1)
        → Answered set (now set g (x ∷ vs) (i0 ∷ k)) (GoesOn 1 (now set g vs (Eval e ∷ Truth ∷ Joined ∷ k))) (slot set g temps pc)
    goes_right has rest l a =
        let b = has_back (code set g) (pc + 1) right over has.1 in
        let len : pc + length (jump ∷ (right ++ over)) ≡ pc + 1 + length right + 3 = omega (arith, length-append right over) in
        one_step set g (i0 ∷ k) (Eval e ∷ Truth ∷ Joined ∷ k) (x ∷ vs) vs temps temps pc (pc + 1) 1 1 ws jump (omega arith) has.0 a
        (again set g (InTemp ∷ ws) ws (x ∷ vs) vs (i0 ∷ k) (Eval e ∷ Truth ∷ Joined ∷ k) temps temps pc (pc + 1) d d.holds.1 l
        (has_front (code set g) (pc + 1) right over has.1, (b.0, (pc + 1 + length right + 3, b.1.0, subst (λ i. F set g d.around i (InTemp ∷ ws) k) len rest))))

    goes_over : HasAt (code set g) pc (jump ∷ (right ++ over)) → F set g d.around (pc + length (jump ∷ (right ++ over))) (InTemp ∷ ws) k → L set g d.around k
        → slots.act set.c (slot set g temps pc) jump ≡ slots.jumps set.c (slot set g temps pc) (pc + 1 + length right + 2)
        → Answered set (now set g (x ∷ vs) (i0 ∷ k)) (GoesOn 1 (now set g (Number v ∷ vs) k)) (slot set g temps pc)
    goes_over has rest l a =
        let to = pc + 1 + length right + 2 in
        let o = now set g (x ∷ vs) (i0 ∷ k) in
        let u = slot set g temps to in
        let after = with_temp temps (length ws) (Number v) in
        let end = slot set g after (to + 1) in
        let len : pc + length (jump ∷ (right ++ over)) ≡ to + 1 = omega (arith, length-append right over) in
        let first = one set g o temps pc 1 jump u refl has.0 a in
        let second = one set g o temps to 1 (op.Const (length ws) v) end refl (over_at to has refl) refl in
        some_steps set g o (now set g (Number v ∷ vs) k) (slot set g temps pc) end 1 (1 + 1) (1 + 1) (omega arith) (omega arith)
        (silent_then SlotState (slots.step set.c) (beginning.acted set.hist) (SameOutput set o) 1 1 1 1 (slot set g temps pc) u end first second)
        (record {
          same = refl;
          ws = InTemp ∷ ws;
          doing = again set g (InTemp ∷ ws) (InTemp ∷ ws) (x ∷ vs) (Number v ∷ vs) (i0 ∷ k) k temps after pc (to + 1) d (puts g.h.activation temps (Number v) ws vs d.holds.1) l (subst (λ i. F set g d.around i (InTemp ∷ ws) k) len rest);
          outer = g.out;
        })

  pub and_answers : (e : Typed) (k : List Item) (ws : List Where) (x : Value) (vs : List Value) (temps : Temps) (pc : ℕ) → D set g (InTemp ∷ ws) (x ∷ vs) (AndThen e ∷ k) temps pc
      → Answered set (now set g (x ∷ vs) (AndThen e ∷ k)) (source.on_test set.p g.h g.outer x (GoesOn 1 (now set g vs (Eval e ∷ Truth ∷ Joined ∷ k))) (GoesOn 1 (now set g (Number 0 ∷ vs) k))) (slot set g temps pc)
  and_answers e k ws x vs temps pc d =
      let i = length ws in
      let st = slot set g temps pc in
      let to = pc + 1 + length (expr_code set.p f (pc + 1) i e) + 2 in
      tested set g x (now set g (x ∷ vs) (AndThen e ∷ k)) (GoesOn 1 (now set g vs (Eval e ∷ Truth ∷ Joined ∷ k))) (GoesOn 1 (now set g (Number 0 ∷ vs) k)) st
      (λ s z. goes_right e 0 (op.JumpIfZero i to) (AndThen e) k ws x vs temps pc d d.follows.0 d.follows.1 d.loops (zero_jumps set g st i to x false d.holds.0 s z))
      (λ s z. goes_over e 0 (op.JumpIfZero i to) (AndThen e) k ws x vs temps pc d d.follows.0 d.follows.1 d.loops (zero_jumps set g st i to x true d.holds.0 s z))

  pub or_answers : (e : Typed) (k : List Item) (ws : List Where) (x : Value) (vs : List Value) (temps : Temps) (pc : ℕ) → D set g (InTemp ∷ ws) (x ∷ vs) (OrElse e ∷ k) temps pc
      → Answered set (now set g (x ∷ vs) (OrElse e ∷ k)) (source.on_test set.p g.h g.outer x (GoesOn 1 (now set g (Number 1 ∷ vs) k)) (GoesOn 1 (now set g vs (Eval e ∷ Truth ∷ Joined ∷ k)))) (slot set g temps pc)
  or_answers e k ws x vs temps pc d =
      let i = length ws in
      let st = slot set g temps pc in
      let to = pc + 1 + length (expr_code set.p f (pc + 1) i e) + 2 in
      tested set g x (now set g (x ∷ vs) (OrElse e ∷ k)) (GoesOn 1 (now set g (Number 1 ∷ vs) k)) (GoesOn 1 (now set g vs (Eval e ∷ Truth ∷ Joined ∷ k))) st
      (λ s z. goes_over e 1 (op.JumpIfNotZero i to) (OrElse e) k ws x vs temps pc d d.follows.0 d.follows.1 d.loops (other_jumps set g st i to x false d.holds.0 s z))
      (λ s z. goes_right e 1 (op.JumpIfNotZero i to) (OrElse e) k ws x vs temps pc d d.follows.0 d.follows.1 d.loops (other_jumps set g st i to x true d.holds.0 s z))
