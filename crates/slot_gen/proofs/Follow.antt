-- The code at a place is the code of what remains to be done.
use Rattle.std.proofs.Common.{◌≡◌, ℕ, zero, suc, ◌+◌, ◌<◌, ◌≤◌, List, [], ◌∷◌, ◌++◌, length, Bool, true, false, Option, Some, None, refl, sym, ap, ◌∙◌, subst, arith, append_assoc, length-append, inl, inr}
use Rattle.std.specs.Prelude.{slice_get, ◌⊎◌, option_map, if◌then◌else◌}
use Rattle.std.proofs.Math.Seq.{get_or-append_seam}
use Rattle.std.proofs.lemmas.Option.{slice_get-get_or}
use Rattle.c_tree.specs.declared.types.CType.{CType}
use Rattle.c_tree.specs.declared.types.CType.TheVariants.{Char, Int, Unsigned, Void, Pointer', Array', Struct}
use Rattle.c_tree.specs.declared.typed.BinaryOp.{BinaryOp}
use Rattle.c_tree.specs.declared.typed.Typed.{Typed, Row_of-Typed, end_of-Typed, more_of-Typed}
use Rattle.c_tree.specs.declared.typed.Pointed.{Pointed}
use Rattle.c_tree.specs.declared.typed.Stmt.{Stmt}
use Rattle.c_tree.specs.declared.typed.Stmt.TheVariants.{While', Do', For'}
use Rattle.c_tree.specs.declared.rows.Program.{Program}
use Rattle.c_tree.specs.Rows.{exprs}
use Rattle.c_tree.specs.Types.{type_of, kind_of, is_array, is_struct}
use Rattle.c_store.specs.Store.{Value, Number, At}
use Rattle.c_store.specs.Frames.{ActivationRecord, bound}
use Rattle.c_tree.specs.Rows.{statements_in}
use Rattle.c_source.specs.Source.{struct_number}
use Rattle.c_source.specs.Control.{Item, Eval, Locate, Push, Bound, Load, Convert, Store, Copy, Update, Change, Combine, Offset, Use, Discard, Truth, AndThen, OrElse, Pick, Joined, Enter, Run, Stop, Choose, Open, Close, Turn, Again, Select, Seek, Switched, GiveBack, Leave, Label, runs_of, evals_of}
use Rattle.slot_ir.specs.declared.code.SlotOp.{SlotOp}
use Rattle.slot_ir.specs.declared.code.SlotOp.TheVariants as op
use Rattle.slot_ir.specs.declared.code.UnaryWordOp.TheVariants as unary
use Rattle.slot_ir.specs.Slots.{Temps}
use Rattle.slot_gen.specs.Expressions.{access_of, cast_code, load_code, store_code, write_code, combine_op, unary_op, choice_code, and_code, or_code, enter_code, update_code, change_code, read_at, write_at, update_at, unless_register, register_inside, register_in, expr_code, place_code, row_code, args_code}
use Rattle.slot_gen.specs.Statements.{Around, stmt_code, stmts_code, zeros_code, loop_body, loop_code, in_loop, in_switch, switch_code, targets_of, defaults_of, end_place}

-- these operators stand in the code at this place
abbrev pub HasAt : List SlotOp → ℕ → List SlotOp → Type 0
HasAt code pc [] = Unit {0}
HasAt code pc (i ∷ is) = (slice_get code pc ≡ Some i) × HasAt code (pc + 1) is

pub has_front : (code : List SlotOp) (pc : ℕ) (a b : List SlotOp) → HasAt code pc (a ++ b) → HasAt code pc a
has_front code pc [] b h = tt
has_front code pc (i ∷ a) b h = (h.0, has_front code (pc + 1) a b h.1)

pub has_back : (code : List SlotOp) (pc : ℕ) (a b : List SlotOp) → HasAt code pc (a ++ b) → HasAt code (pc + length a) b
has_back code pc [] b h = let e : pc ≡ pc + 0 = omega arith in subst (λ n. HasAt code n b) e h
has_back code pc (i ∷ a) b h =
    let e : pc + 1 + length a ≡ pc + length (i ∷ a) = omega arith in
    subst (λ n. HasAt code n b) e (has_back code (pc + 1) a b h.1)

pub has_all : (is pre : List SlotOp) → HasAt (pre ++ is) (length pre) is
has_all [] pre = tt
has_all (i ∷ is) pre =
    let within : length pre < length (pre ++ i ∷ is) = omega (arith, length-append pre (i ∷ is)) in
    let here = slice_get-get_or (pre ++ i ∷ is) (length pre) i within ∙ ap Some (get_or-append_seam pre i is i) in
    let n : length (pre ++ i ∷ []) ≡ length pre + 1 = omega (arith, length-append pre (i ∷ [])) in
    let rest = has_all is (pre ++ i ∷ []) in
    let rest' = subst (λ l. HasAt l (length (pre ++ i ∷ [])) is) (append_assoc pre (i ∷ []) is) rest in
    (here, subst (λ m. HasAt (pre ++ i ∷ is) m is) n rest')

-- a place, or one where a jump to it stands
abbrev pub Goes : List SlotOp → ℕ → ℕ → Type 0
Goes code pc n = (pc ≡ n) ⊎ (slice_get code pc ≡ Some (op.Jump n))

-- ---- where the values computed so far are: in the temporary of their number, or in a local in a register, whose place it is. A number may be kept in a temporary that is no value any more.
pub data Where : Type 0 where
  InTemp : Where
  InReg : (local : ℕ) → Where
  Kept : (number : ℕ) → Where

abbrev pub Holds : ActivationRecord → Temps → List Where → List Value → Type 0
Holds a t [] [] = Unit {0}
Holds a t [] (v ∷ vs) = ⊥
Holds a t (InTemp ∷ ws) [] = ⊥
Holds a t (InTemp ∷ ws) (v ∷ vs) = (t (length ws) ≡ Some v) × Holds a t ws vs
Holds a t (InReg x ∷ ws) [] = ⊥
Holds a t (InReg x ∷ ws) (v ∷ vs) = (option_map (λ o. At o 0) (bound x a.locals) ≡ Some v) × Holds a t ws vs
Holds a t (Kept n ∷ ws) vs = (t (length ws) ≡ Some (Number n)) × Holds a t ws vs

abbrev pub on_none : List Where → Type 0 → Type 0
on_none [] P = P
on_none (w ∷ ws) P = ⊥

abbrev pub on_temp : List Where → (List Where → Type 0) → Type 0
on_temp (InTemp ∷ ws) P = P ws
on_temp _ P = ⊥

abbrev pub on_last : List Where → Type 0 → Type 0
on_last (InTemp ∷ []) P = P
on_last _ P = ⊥

abbrev pub on_two : List Where → (List Where → Type 0) → Type 0
on_two (InTemp ∷ InTemp ∷ ws) P = P ws
on_two _ P = ⊥

-- a place alone, and one under a value
abbrev pub on_place : List Where → (List Where → Type 0) → (ℕ → List Where → Type 0) → Type 0
on_place (InTemp ∷ ws) P Q = P ws
on_place (InReg x ∷ ws) P Q = Q x ws
on_place _ P Q = ⊥

abbrev pub under_value : List Where → (List Where → Type 0) → (ℕ → List Where → Type 0) → Type 0
under_value (InTemp ∷ ws) P Q = on_place ws P Q
under_value _ P Q = ⊥

abbrev pub on_kept : List Where → (ℕ → Type 0) → Type 0
on_kept (Kept n ∷ []) P = P n
on_kept _ P = ⊥

abbrev pub where_of : Option ℕ → Where
where_of None = InTemp
where_of (Some x) = InReg x

abbrev pub temps_on : ℕ → List Where → List Where
temps_on zero ws = ws
temps_on (suc n) ws = InTemp ∷ temps_on n ws

abbrev pub constant_op : ℕ → Value → SlotOp
constant_op d (Number n) = op.Const d n
constant_op d v = op.Null d

abbrev pub IsConstant : Value → Type 0
IsConstant (At o i) = ⊥
IsConstant v = Unit {0}

-- ---- the parts of a loop

abbrev pub step_in : Stmt → Option Pointed
step_in (For' s i q t x b) = t
step_in s = None

abbrev pub test_in : Stmt → Option Pointed
test_in (While' s q x b) = Some q
test_in (Do' s x b q) = Some q
test_in (For' s i q t x b) = q
test_in s = None

abbrev pub body_in : Stmt → Stmt
body_in (While' s q x b) = b
body_in (Do' s x b q) = b
body_in (For' s i q t x b) = b
body_in s = s

abbrev pub tests_first : Stmt → Bool
tests_first (Do' s x b q) = false
tests_first s = true

abbrev pub IsLoop : Stmt → Type 0
IsLoop (While' s q x b) = Unit {0}
IsLoop (Do' s x b q) = Unit {0}
IsLoop (For' s i q t x b) = Unit {0}
IsLoop s = ⊥

abbrev pub IsInside : Around → ℕ → Type 0
IsInside r n = (r.leave_scope ≤ n) × (r.again_scope ≤ n)

-- In the code of a function, the code at a place does what remains to be done, where the values computed are at these places, n locals are in scope, and `break` and `continue` go where they go.
module _ (p : Program) (f : ℕ) (code : List SlotOp) where
  abbrev pub body_at : ℕ → Stmt → ℕ
  body_at start s = loop_body p f start (step_in s) (test_in s)

  abbrev pub loop_of : ℕ → ℕ → Stmt → List SlotOp
  loop_of start n s = loop_code p f start (tests_first s) (step_in s) (test_in s) (stmt_code p f (in_loop start n) n (body_at start s) (body_in s))

  abbrev pub choice_of : Around → ℕ → ℕ → Stmt → List Stmt → List SlotOp
  choice_of r n pc a b =
      let ca = stmt_code p f r n (pc + 1) a in
      choice_code pc 0 ca (stmts_code p f r n (pc + 1 + length ca + 1) b)

  abbrev pub pick_of : ℕ → ℕ → CType → Typed → Typed → List SlotOp
  pick_of pc d t a b =
      let ca = expr_code p f (pc + 1) d a ++ cast_code d t in
      choice_code pc d ca (expr_code p f (pc + 1 + length ca + 1) d b ++ cast_code d t)

  abbrev pub switch_of : Around → ℕ → ℕ → List Stmt → List SlotOp
  switch_of r n pc ss =
      switch_code pc (stmts_code p f (in_switch pc n r) n (pc + 2) ss) (targets_of p f (in_switch pc n r) n (pc + 2) ss) (defaults_of p f (in_switch pc n r) n (pc + 2) ss)

  -- statements at a place, and then a jump past the end of the `switch`
  abbrev pub RunsAt : Around → (n end place : ℕ) → List Stmt → Type 0
  RunsAt r n end d ss = HasAt code d (stmts_code p f r n d ss) × (slice_get code (d + length (stmts_code p f r n d ss)) ≡ Some (op.Jump end))

  abbrev pub Seeks : Around → (n end pc : ℕ) → List Label → List Stmt → Type 0
  Seeks r n end pc [] default = (d : ℕ) × (slice_get code pc ≡ Some (op.Jump d)) × RunsAt r n end d default
  Seeks r n end pc (l ∷ ls) default = (d : ℕ) × (slice_get code pc ≡ Some (op.JumpIfEqual 0 l.constant d)) × RunsAt r n end d l.from × Seeks r n end (pc + 1) ls default

  abbrev pub Follows : Around → (n pc : ℕ) → List Where → List Item → Type 0
  Follows r n pc ws [] = ⊥
  Follows r n pc ws (Eval e ∷ k) = HasAt code pc (expr_code p f pc (length ws) e) × Follows r n (pc + length (expr_code p f pc (length ws) e)) (InTemp ∷ ws) k
  Follows r n pc ws (Locate e ∷ k) =
      (HasAt code pc (place_code p f pc (length ws) e) × Follows r n (pc + length (place_code p f pc (length ws) e)) (InTemp ∷ ws) k)
      ⊎ ((x : ℕ) × (register_inside p f e ≡ Some x) × Follows r n pc (InReg x ∷ ws) k)
  Follows r n pc ws (Push v ∷ k) = (slice_get code pc ≡ Some (constant_op (length ws) v)) × IsConstant v × Follows r n (pc + 1) (InTemp ∷ ws) k
  Follows r n pc ws (Bound x ∷ k) =
      ((slice_get code pc ≡ Some (op.LocalAddress (length ws) x)) × Follows r n (pc + 1) (InTemp ∷ ws) k)
      ⊎ Follows r n pc (InReg x ∷ ws) k
  Follows r n pc ws (Load t ∷ k) =
      on_place ws
      (λ ws. HasAt code pc (load_code (length ws) t) × Follows r n (pc + length (load_code (length ws) t)) (InTemp ∷ ws) k)
      (λ x ws. (is_array t ≡ false) × (slice_get code pc ≡ Some (op.ReadRegister (length ws) x (kind_of t) (access_of t))) × Follows r n (pc + 1) (InTemp ∷ ws) k)
  Follows r n pc ws (Convert t ∷ k) = on_temp ws (λ ws. HasAt code pc (cast_code (length ws) t) × Follows r n (pc + length (cast_code (length ws) t)) (InTemp ∷ ws) k)
  Follows r n pc ws (Store t ∷ k) =
      under_value ws
      (λ ws. HasAt code pc (store_code (length ws) t) × Follows r n (pc + length (store_code (length ws) t)) (InTemp ∷ ws) k)
      (λ x ws. HasAt code pc (write_code (length ws) x t) × Follows r n (pc + length (write_code (length ws) x t)) (InTemp ∷ ws) k)
  Follows r n pc ws (Copy t ∷ k) = on_two ws (λ ws. (s : ℕ) × (t ≡ Struct s) × HasAt code pc (op.Move (length ws) (suc (length ws)) s ∷ op.Const (length ws) 0 ∷ []) × Follows r n (pc + 1 + 1) (InTemp ∷ ws) k)
  Follows r n pc ws (Update t o s new ∷ k) =
      under_value ws
      (λ ws. HasAt code pc (update_code p f (length ws) t o s new) × Follows r n (pc + length (update_code p f (length ws) t o s new)) (InTemp ∷ ws) k)
      (λ x ws. HasAt code pc (change_code p f (length ws) x t o s new) × Follows r n (pc + length (change_code p f (length ws) x t o s new)) (InTemp ∷ ws) k)
  Follows r n pc ws (Change o t ∷ k) = on_temp ws (λ ws. (slice_get code pc ≡ Some (op.Unary (length ws) (unary_op o t))) × Follows r n (pc + 1) (InTemp ∷ ws) k)
  Follows r n pc ws (Combine o s t ∷ k) =
      on_two ws (λ ws. (slice_get code pc ≡ Some (combine_op p (length ws) (length ws) (suc (length ws)) o s t)) × Follows r n (pc + 1) (InTemp ∷ ws) k)
  Follows r n pc ws (Offset m ∷ k) = on_temp ws (λ ws. (slice_get code pc ≡ Some (op.Offset (length ws) m)) × Follows r n (pc + 1) (InTemp ∷ ws) k)
  Follows r n pc ws (Use ∷ k) = on_temp ws (λ ws. Follows r n pc (InTemp ∷ ws) k)
  Follows r n pc ws (Discard ∷ k) = on_temp ws (λ ws. (m : ℕ) × Goes code pc m × Follows r n m ws k)
  Follows r n pc ws (Truth ∷ k) = on_temp ws (λ ws. (slice_get code pc ≡ Some (op.Unary (length ws) unary.Truth)) × Follows r n (pc + 1) (InTemp ∷ ws) k)
  Follows r n pc ws (AndThen e ∷ k) =
      on_temp ws (λ ws. HasAt code pc (and_code pc (length ws) (expr_code p f (pc + 1) (length ws) e)) × Follows r n (pc + length (and_code pc (length ws) (expr_code p f (pc + 1) (length ws) e))) (InTemp ∷ ws) k)
  Follows r n pc ws (OrElse e ∷ k) =
      on_temp ws (λ ws. HasAt code pc (or_code pc (length ws) (expr_code p f (pc + 1) (length ws) e)) × Follows r n (pc + length (or_code pc (length ws) (expr_code p f (pc + 1) (length ws) e))) (InTemp ∷ ws) k)
  Follows r n pc ws (Pick t a b ∷ k) = on_temp ws (λ ws. HasAt code pc (pick_of pc (length ws) t a b) × Follows r n (pc + length (pick_of pc (length ws) t a b)) (InTemp ∷ ws) k)
  Follows r n pc ws (Joined ∷ k) = (m : ℕ) × (slice_get code pc ≡ Some (op.Jump m)) × Follows r n m ws k
  Follows r n pc ws (Enter g m ∷ k) =
      (us : List Where) × (ws ≡ temps_on m us) × HasAt code pc (enter_code (length us) (slice_get p.symbols g) m) × Follows r n (pc + length (enter_code (length us) (slice_get p.symbols g) m)) (InTemp ∷ us) k
  Follows r n pc ws (Run s ∷ k) = on_none ws (IsInside r n × HasAt code pc (stmt_code p f r n pc s) × Follows r n (pc + length (stmt_code p f r n pc s)) [] k)
  Follows r n pc ws (Stop q ∷ k) = (slice_get code pc ≡ Some (op.Stop q)) × Follows r n (pc + 1) ws k
  Follows r n pc ws (Choose a b ∷ k) = on_last ws (IsInside r n × HasAt code pc (choice_of r n pc a b) × Follows r n (pc + length (choice_of r n pc a b)) [] k)
  Follows r n pc ws (Open ds ∷ k) = on_none ws ((m : ℕ) × Goes code pc m × HasAt code m (zeros_code ds) × Follows r (n + length ds) (m + length (zeros_code ds)) [] k)
  Follows r n pc ws (Close m ∷ k) = on_none ws ((m ≤ n) × (slice_get code pc ≡ Some (op.Leave m)) × Follows r m (pc + 1) [] k)
  Follows r n pc ws (Turn s m ∷ k) =
      on_last ws ((start : ℕ) × (n ≡ m) × IsLoop s × (slice_get code pc ≡ Some (op.JumpIfZero 0 (start + length (loop_of start m s)))) × (pc + 1 ≡ body_at start s) × HasAt code start (loop_of start m s) × Follows r m (start + length (loop_of start m s)) [] k)
  Follows r n pc ws (Again s m ∷ k) = on_none ws ((n ≡ m) × (slice_get code pc ≡ Some (op.Jump r.again)))
  Follows r n pc ws (Select b m ∷ k) =
      on_last ws ((n ≡ m) × IsInside r n × HasAt code pc (switch_of r n pc (statements_in b)) × Follows r n (pc + length (switch_of r n pc (statements_in b))) [] k)
  Follows r n pc ws (Seek v l ls default m ∷ k) =
      on_kept ws (λ x. (x ≡ v) × (n ≡ m) × IsInside r n × (u : Around) × (end : ℕ) × (slice_get code u.leave ≡ Some (op.Jump end)) × (u.leave_scope ≡ m) × (u.again ≡ r.again) × (u.again_scope ≡ r.again_scope) × Seeks u n end pc (l ∷ ls) default × Follows r m end [] k)
  Follows r n pc ws (Switched m ∷ k) = on_none ws ((n ≡ m) × (end : ℕ) × (slice_get code pc ≡ Some (op.Jump end)) × (slice_get code r.leave ≡ Some (op.Jump end)))
  Follows r n pc ws (GiveBack ∷ k) = on_last ws (slice_get code pc ≡ Some (op.Jump end_place))
  Follows r n pc ws (Leave ∷ k) = on_last ws (slice_get code pc ≡ Some (op.Return 0))

  -- the loops and `switch`es that remain to be left
  abbrev pub Loops : Around → List Item → Type 0
  Loops r [] = Unit {0}
  Loops r (Again s m ∷ k) =
      (start : ℕ) × (outer : Around) × (r ≡ in_loop start m) × IsLoop s × HasAt code start (loop_of start m s) × Follows outer m (start + length (loop_of start m s)) [] k × Loops outer k
  Loops r (Switched m ∷ k) =
      (end : ℕ) × (outer : Around) × (slice_get code r.leave ≡ Some (op.Jump end)) × (r.leave_scope ≡ m) × (r.again ≡ outer.again) × (r.again_scope ≡ outer.again_scope) × Follows outer m end [] k × Loops outer k
  Loops r (_ ∷ k) = Loops r k

  -- the same at an equal place
  pub follows_at : (r : Around) (n i j : ℕ) (ws : List Where) (k : List Item) → i ≡ j → Follows r n i ws k → Follows r n j ws k
  follows_at r n i j ws k e h = subst (λ i. Follows r n i ws k) e h

  -- code after code
  pub split : (r : Around) (n : ℕ) (a b : List SlotOp) (pc : ℕ) (ws : List Where) (k : List Item)
      → HasAt code pc (a ++ b) → Follows r n (pc + length (a ++ b)) ws k → HasAt code pc a × (HasAt code (pc + length a) b × Follows r n (pc + length a + length b) ws k)
  split r n a b pc ws k has h =
      let len : pc + length (a ++ b) ≡ pc + length a + length b = omega (arith, length-append a b) in
      (has_front code pc a b has, (has_back code pc a b has, follows_at r n _ _ ws k len h))

  -- an operator, and code
  pub after_one : (r : Around) (n : ℕ) (o : SlotOp) (b : List SlotOp) (pc : ℕ) (ws : List Where) (k : List Item)
      → HasAt code pc (o ∷ b) → Follows r n (pc + length (o ∷ b)) ws k → (slice_get code pc ≡ Some o) × (HasAt code (pc + 1) b × Follows r n (pc + 1 + length b) ws k)
  after_one r n o b pc ws k has h =
      let len : pc + length (o ∷ b) ≡ pc + 1 + length b = omega arith in
      (has.0, (has.1, follows_at r n _ _ ws k len h))

  pub temps_swap : (n : ℕ) (ws : List Where) → InTemp ∷ temps_on n ws ≡ temps_on n (InTemp ∷ ws)
  temps_swap zero ws = refl
  temps_swap (suc n) ws = ap (λ us. InTemp ∷ us) (temps_swap n ws)

  -- expressions one after another
  pub evals_follow : (r : Around) (n : ℕ) (es : List Typed) (pc : ℕ) (ws : List Where) (k : List Item)
      → HasAt code pc (args_code p f pc (length ws) es) → Follows r n (pc + length (args_code p f pc (length ws) es)) (temps_on (length es) ws) k → Follows r n pc ws (evals_of es ++ k)
  evals_follow r n [] pc ws k has h = follows_at r n (pc + 0) pc ws k (omega arith) h
  evals_follow r n (e ∷ es) pc ws k has h =
      let ce = expr_code p f pc (length ws) e in
      let u = split r n ce (args_code p f (pc + length ce) (suc (length ws)) es) pc (temps_on (suc (length es)) ws) k has h in
      (u.0, evals_follow r n es (pc + length ce) (InTemp ∷ ws) k u.1.0 (subst (λ us. Follows r n (pc + length ce + length (args_code p f (pc + length ce) (suc (length ws)) es)) us k) (temps_swap (length es) ws) u.1.1))

  pub loops_evals : (r : Around) (es : List Typed) (k : List Item) → Loops r k → Loops r (evals_of es ++ k)
  loops_evals r [] k l = l
  loops_evals r (e ∷ es) k l = loops_evals r es k l

  pub loops_runs : (r : Around) (ss : List Stmt) (k : List Item) → Loops r k → Loops r (runs_of ss ++ k)
  loops_runs r [] k l = l
  loops_runs r (s ∷ ss) k l = loops_runs r ss k l

  -- statements one after another
  pub runs_follow : (r : Around) (n : ℕ) (ss : List Stmt) (pc : ℕ) (k : List Item) → IsInside r n → HasAt code pc (stmts_code p f r n pc ss) → Follows r n (pc + length (stmts_code p f r n pc ss)) [] k → Follows r n pc [] (runs_of ss ++ k)
  runs_follow r n [] pc k i has h = follows_at r n (pc + 0) pc [] k (omega arith) h
  runs_follow r n (s ∷ ss) pc k i has h =
      let cs = stmt_code p f r n pc s in
      let u = split r n cs (stmts_code p f r n (pc + length cs) ss) pc [] k has h in
      (i, u.0, runs_follow r n ss (pc + length cs) k i u.1.0 u.1.1)

  -- ---- places

  scalar_by : (t : CType) (a s : Bool) (o : Option ℕ) (x : ℕ) → is_array t ≡ a → is_struct t ≡ s → (if a then None else (if s then None else o)) ≡ Some x → (is_array t ≡ false) × (o ≡ Some x)
  scalar_by t true s o x ea es e = absurd (cc e)
  scalar_by t false true o x ea es e = absurd (cc e)
  scalar_by t false false o x ea es e = (ea, e)

  if_scalar : (a s : Bool) (o : Option ℕ) → (if (if a then false else (if s then false else true)) then o else None) ≡ (if a then None else (if s then None else o))
  if_scalar true s o = refl
  if_scalar false true o = refl
  if_scalar false false o = refl

  pub of_register : (e : Typed) (x : ℕ) → register_in p f e ≡ Some x → (is_array (type_of e) ≡ false) × (register_inside p f e ≡ Some x)
  of_register e x h =
      scalar_by (type_of e) (is_array (type_of e)) (is_struct (type_of e)) (register_inside p f e) x refl refl (sym (if_scalar (is_array (type_of e)) (is_struct (type_of e)) (register_inside p f e)) ∙ h)

  pub place_follows : (r : Around) (n : ℕ) (e : Typed) (o : Option ℕ) (pc : ℕ) (ws : List Where) (k : List Item) → register_in p f e ≡ o
      → HasAt code pc (unless_register o (place_code p f pc (length ws) e)) → Follows r n (pc + length (unless_register o (place_code p f pc (length ws) e))) (where_of o ∷ ws) k
      → Follows r n pc ws (Locate e ∷ k)
  place_follows r n e None pc ws k q has h = inl (has, h)
  place_follows r n e (Some x) pc ws k q has h = inr (x, (of_register e x q).1, follows_at r n (pc + 0) pc (InReg x ∷ ws) k (omega arith) h)

  pub read_follows : (r : Around) (n : ℕ) (t : CType) (o : Option ℕ) (pc : ℕ) (ws : List Where) (k : List Item) → ((x : ℕ) → o ≡ Some x → is_array t ≡ false)
      → HasAt code pc (read_at p f (length ws) o t) → Follows r n (pc + length (read_at p f (length ws) o t)) (InTemp ∷ ws) k → Follows r n pc (where_of o ∷ ws) (Load t ∷ k)
  read_follows r n t None pc ws k q has h = (has, h)
  read_follows r n t (Some x) pc ws k q has h = (q x refl, has.0, h)

  pub write_follows : (r : Around) (n : ℕ) (t : CType) (o : Option ℕ) (pc : ℕ) (ws : List Where) (k : List Item)
      → HasAt code pc (write_at p f (length ws) o t) → Follows r n (pc + length (write_at p f (length ws) o t)) (InTemp ∷ ws) k → Follows r n pc (InTemp ∷ where_of o ∷ ws) (Store t ∷ k)
  write_follows r n t None pc ws k has h = (has, h)
  write_follows r n t (Some x) pc ws k has h = (has, h)

  pub update_follows : (r : Around) (n : ℕ) (t : CType) (b : BinaryOp) (s : CType) (new : Bool) (o : Option ℕ) (pc : ℕ) (ws : List Where) (k : List Item)
      → HasAt code pc (update_at p f (length ws) o t b s new) → Follows r n (pc + length (update_at p f (length ws) o t b s new)) (InTemp ∷ ws) k → Follows r n pc (InTemp ∷ where_of o ∷ ws) (Update t b s new ∷ k)
  update_follows r n t b s new None pc ws k has h = (has, h)
  update_follows r n t b s new (Some x) pc ws k has h = (has, h)

  -- an lvalue that is read
  pub lvalue_follows : (r : Around) (n : ℕ) (e : Typed) (o : Option ℕ) (pc : ℕ) (ws : List Where) (k : List Item) → register_in p f e ≡ o
      → HasAt code pc (unless_register o (place_code p f pc (length ws) e) ++ read_at p f (length ws) o (type_of e))
      → Follows r n (pc + length (unless_register o (place_code p f pc (length ws) e) ++ read_at p f (length ws) o (type_of e))) (InTemp ∷ ws) k
      → Follows r n pc ws (Locate e ∷ Load (type_of e) ∷ k)
  lvalue_follows r n e o pc ws k q has h =
      let a = unless_register o (place_code p f pc (length ws) e) in
      let u = split r n a (read_at p f (length ws) o (type_of e)) pc (InTemp ∷ ws) k has h in
      place_follows r n e o pc ws (Load (type_of e) ∷ k) q u.0 (read_follows r n (type_of e) o (pc + length a) ws k (λ x s. (of_register e x (q ∙ s)).0) u.1.0 u.1.1)

  -- one that is in no register
  pub stored_follows : (r : Around) (n : ℕ) (e : Typed) (pc : ℕ) (ws : List Where) (k : List Item)
      → HasAt code pc (place_code p f pc (length ws) e ++ load_code (length ws) (type_of e))
      → Follows r n (pc + length (place_code p f pc (length ws) e ++ load_code (length ws) (type_of e))) (InTemp ∷ ws) k
      → Follows r n pc ws (Locate e ∷ Load (type_of e) ∷ k)
  stored_follows r n e pc ws k has h = inl (split r n (place_code p f pc (length ws) e) (load_code (length ws) (type_of e)) pc (InTemp ∷ ws) k has h)

  -- two values, and an operator that takes them
  pub binary_follows : (r : Around) (n : ℕ) (a b : Typed) (o : SlotOp) (pc : ℕ) (ws : List Where) (k : List Item)
      → HasAt code pc (expr_code p f pc (length ws) a ++ (expr_code p f (pc + length (expr_code p f pc (length ws) a)) (suc (length ws)) b ++ o ∷ []))
      → Follows r n (pc + length (expr_code p f pc (length ws) a ++ (expr_code p f (pc + length (expr_code p f pc (length ws) a)) (suc (length ws)) b ++ o ∷ []))) (InTemp ∷ ws) k
      → (rest : List Item)
      → ((i : ℕ) → slice_get code i ≡ Some o → Follows r n (i + 1) (InTemp ∷ ws) k → Follows r n i (InTemp ∷ InTemp ∷ ws) rest)
      → Follows r n pc ws (Eval a ∷ Eval b ∷ rest)
  binary_follows r n a b o pc ws k has h rest go =
      let ca = expr_code p f pc (length ws) a in
      let cb = expr_code p f (pc + length ca) (suc (length ws)) b in
      let u = split r n ca (cb ++ o ∷ []) pc (InTemp ∷ ws) k has h in
      let v = split r n cb (o ∷ []) (pc + length ca) (InTemp ∷ ws) k u.1.0 u.1.1 in
      (u.0, (v.0, go (pc + length ca + length cb) v.1.0.0 v.1.1))

  abbrev pub assign_code : (pc d : ℕ) → Typed → Typed → Bool → List SlotOp
  assign_code pc d a b c =
      if c then
      (let ca = place_code p f pc d a in let cb = place_code p f (pc + length ca) (suc d) b in ca ++ (cb ++ op.Move d (suc d) (struct_number (type_of a)) ∷ op.Const d 0 ∷ []))
      else
      (let ca = unless_register (register_in p f a) (place_code p f pc d a) in ca ++ (expr_code p f (pc + length ca) (suc d) b ++ write_at p f d (register_in p f a) (type_of a)))

  abbrev pub compound_code : (pc d : ℕ) → Typed → Typed → BinaryOp → List SlotOp
  compound_code pc d a b o =
      let ca = unless_register (register_in p f a) (place_code p f pc d a) in
      ca ++ (expr_code p f (pc + length ca) (suc d) b ++ update_at p f d (register_in p f a) (type_of a) o (type_of b) true)

  -- a scalar that is assigned, and a struct
  pub assign_follows : (r : Around) (n : ℕ) (a b : Typed) (c : Bool) (pc : ℕ) (ws : List Where) (k : List Item) → is_struct (type_of a) ≡ c
      → HasAt code pc (assign_code pc (length ws) a b c) → Follows r n (pc + length (assign_code pc (length ws) a b c)) (InTemp ∷ ws) k
      → Follows r n pc ws (if c then Locate a ∷ Locate b ∷ Copy (type_of a) ∷ k else Locate a ∷ Eval b ∷ Store (type_of a) ∷ k)
  assign_follows r n a b true pc ws k q has h =
      let ca = place_code p f pc (length ws) a in
      let cb = place_code p f (pc + length ca) (suc (length ws)) b in
      let last = op.Move (length ws) (suc (length ws)) (struct_number (type_of a)) ∷ op.Const (length ws) 0 ∷ [] in
      let u = split r n ca (cb ++ last) pc (InTemp ∷ ws) k has h in
      let v = split r n cb last (pc + length ca) (InTemp ∷ ws) k u.1.0 u.1.1 in
      let len : pc + length ca + length cb + 2 ≡ pc + length ca + length cb + 1 + 1 = omega arith in
      inl (u.0, inl (v.0, (struct_number (type_of a), number_same (type_of a) q, v.1.0, follows_at r n _ _ (InTemp ∷ ws) k len v.1.1)))
    where
      number_same : (t : CType) → is_struct t ≡ true → t ≡ Struct (struct_number t)
      number_same (Struct s) e = refl
      number_same Char e = absurd (cc e)
      number_same Int e = absurd (cc e)
      number_same Unsigned e = absurd (cc e)
      number_same Void e = absurd (cc e)
      number_same (Pointer' x t) e = absurd (cc e)
      number_same (Array' x t m) e = absurd (cc e)
  assign_follows r n a b false pc ws k q has h =
      let o = register_in p f a in
      let ca = unless_register o (place_code p f pc (length ws) a) in
      let cb = expr_code p f (pc + length ca) (suc (length ws)) b in
      let u = split r n ca (cb ++ write_at p f (length ws) o (type_of a)) pc (InTemp ∷ ws) k has h in
      let v = split r n cb (write_at p f (length ws) o (type_of a)) (pc + length ca) (InTemp ∷ ws) k u.1.0 u.1.1 in
      place_follows r n a o pc ws (Eval b ∷ Store (type_of a) ∷ k) refl u.0 (v.0, write_follows r n (type_of a) o (pc + length ca + length cb) ws k v.1.0 v.1.1)

  -- a compound assignment
  pub compound_follows : (r : Around) (n : ℕ) (a b : Typed) (o : BinaryOp) (pc : ℕ) (ws : List Where) (k : List Item)
      → HasAt code pc (compound_code pc (length ws) a b o) → Follows r n (pc + length (compound_code pc (length ws) a b o)) (InTemp ∷ ws) k
      → Follows r n pc ws (Locate a ∷ Eval b ∷ Update (type_of a) o (type_of b) true ∷ k)
  compound_follows r n a b o pc ws k has h =
      let x = register_in p f a in
      let ca = unless_register x (place_code p f pc (length ws) a) in
      let cb = expr_code p f (pc + length ca) (suc (length ws)) b in
      let last = update_at p f (length ws) x (type_of a) o (type_of b) true in
      let u = split r n ca (cb ++ last) pc (InTemp ∷ ws) k has h in
      let v = split r n cb last (pc + length ca) (InTemp ∷ ws) k u.1.0 u.1.1 in
      place_follows r n a x pc ws (Eval b ∷ Update (type_of a) o (type_of b) true ∷ k) refl u.0 (v.0, update_follows r n (type_of a) o (type_of b) true x (pc + length ca + length cb) ws k v.1.0 v.1.1)

  -- `++` and `--`
  pub stepped_follows : (r : Around) (n : ℕ) (a : Typed) (o : BinaryOp) (new : Bool) (pc : ℕ) (ws : List Where) (k : List Item)
      → HasAt code pc (unless_register (register_in p f a) (place_code p f pc (length ws) a) ++ op.Const (suc (length ws)) 1 ∷ update_at p f (length ws) (register_in p f a) (type_of a) o Int new)
      → Follows r n (pc + length (unless_register (register_in p f a) (place_code p f pc (length ws) a) ++ op.Const (suc (length ws)) 1 ∷ update_at p f (length ws) (register_in p f a) (type_of a) o Int new)) (InTemp ∷ ws) k
      → Follows r n pc ws (Locate a ∷ Push (Number 1) ∷ Update (type_of a) o Int new ∷ k)
  stepped_follows r n a o new pc ws k has h =
      let x = register_in p f a in
      let ca = unless_register x (place_code p f pc (length ws) a) in
      let last = update_at p f (length ws) x (type_of a) o Int new in
      let u = split r n ca (op.Const (suc (length ws)) 1 ∷ last) pc (InTemp ∷ ws) k has h in
      let v = after_one r n (op.Const (suc (length ws)) 1) last (pc + length ca) (InTemp ∷ ws) k u.1.0 u.1.1 in
      place_follows r n a x pc ws (Push (Number 1) ∷ Update (type_of a) o Int new ∷ k) refl u.0 (v.0, tt, update_follows r n (type_of a) o Int new x (pc + length ca + 1) ws k v.1.0 v.1.1)

  -- ---- choices

  pub chosen_first : (r : Around) (n d : ℕ) (ca cb : List SlotOp) (pc : ℕ) (ws : List Where) (k : List Item) → HasAt code pc (choice_code pc d ca cb) → Follows r n (pc + length (choice_code pc d ca cb)) ws k
      → HasAt code (pc + 1) ca × Follows r n (pc + 1 + length ca) ws (Joined ∷ k)
  chosen_first r n d ca cb pc ws k has h =
      let over = op.Jump (pc + 1 + length ca + 1 + length cb) in
      let len : pc + length (choice_code pc d ca cb) ≡ pc + 1 + length ca + 1 + length cb = omega (arith, length-append ca (over ∷ cb)) in
      (has_front code (pc + 1) ca (over ∷ cb) has.1, (pc + 1 + length ca + 1 + length cb, (has_back code (pc + 1) ca (over ∷ cb) has.1).0, follows_at r n _ _ ws k len h))

  pub chosen_second : (r : Around) (n d : ℕ) (ca cb : List SlotOp) (pc : ℕ) (ws : List Where) (k : List Item) → HasAt code pc (choice_code pc d ca cb) → Follows r n (pc + length (choice_code pc d ca cb)) ws k
      → HasAt code (pc + 1 + length ca + 1) cb × Follows r n (pc + 1 + length ca + 1 + length cb) ws k
  chosen_second r n d ca cb pc ws k has h =
      let over = op.Jump (pc + 1 + length ca + 1 + length cb) in
      let len : pc + length (choice_code pc d ca cb) ≡ pc + 1 + length ca + 1 + length cb = omega (arith, length-append ca (over ∷ cb)) in
      ((has_back code (pc + 1) ca (over ∷ cb) has.1).1, follows_at r n _ _ ws k len h)

-- a row of arguments as a list
pub row_args : (p : Program) (f at d : ℕ) {m : _} (row : Row_of-Typed m) → row_code p f at d row ≡ args_code p f at d (exprs row)
row_args p f at d end_of-Typed = refl
row_args p f at d (more_of-Typed e rest) = ap (λ l. expr_code p f at d e ++ l) (row_args p f (at + length (expr_code p f at d e)) (suc d) rest)
