-- Statements that are taken up are answered by their code.
use Rattle.std.proofs.Common.{◌≡◌, ℕ, ◌+◌, ◌<◌, ◌≤◌, List, [], ◌∷◌, ◌++◌, length, take, Option, Some, None, Bool, true, false, refl, sym, ap, ◌∙◌, subst, arith, length-take-le, append_assoc, append-nil, inl, inr}
use Rattle.std.specs.Prelude.{slice_get, if◌then◌else◌}
use Rattle.c_tree.specs.declared.typed.Pointed.{Pointed}
use Rattle.c_tree.specs.declared.typed.DeclaredLocal.{DeclaredLocal}
use Rattle.c_tree.specs.declared.typed.Stmt.{Stmt, Row_of-Stmt, end_of-Stmt, more_of-Stmt, Held-Stmt-If-3, None', Some'}
use Rattle.c_tree.specs.declared.typed.Stmt.TheVariants.{Value as Expression, Block', If', While', Do', For', Switch', Case', Default', Break, Continue, Return}
use Rattle.c_tree.specs.declared.rows.Program.{Program}
use Rattle.c_tree.specs.Rows.{stmts}
use Rattle.runs.specs.Runs.{Goes as GoesOn}
use Rattle.c_store.specs.Store.{Value}
use Rattle.c_store.specs.Frames.{left}
use Rattle.c_source.specs.Blocks.{result_type}
use Rattle.c_tree.specs.Rows.{statements_in}
use Rattle.c_source.specs.Source.{else_of, no_value}
use Rattle.c_source.specs.Source as source
use Rattle.c_source.specs.Control.{Item, Eval, Push, Convert, Discard, Run, Stop, Choose, Open, Close, Again, Select, GiveBack, Round, runs_of, init_of, inits_of, test_of, broken, continued}
use Rattle.slot_ir.specs.declared.code.SlotOp.{SlotOp}
use Rattle.slot_ir.specs.declared.code.SlotOp.TheVariants as op
use Rattle.slot_ir.specs.Slots.{Temps, SlotState, with_temp}
use Rattle.slot_ir.specs.Slots as slots
use Rattle.slot_gen.specs.Expressions.{expr_code, cast_code, choice_code}
use Rattle.slot_gen.specs.Statements.{Around, stmt_code, stmts_code, block_code, else_code, zeros_code, part_code, inits_code, loop_test, in_switch, switch_code, body_code, body_targets, body_defaults, row_targets, row_defaults, targets_of, defaults_of, targets_at, constants_of, is_default, end_place}
use Rattle.slot_gen.proofs.Follow.{HasAt, has_front, has_back, Where, Follows, Loops, IsLoop, step_in, test_in, body_in, tests_first, body_at, loop_of, choice_of, switch_of, split, after_one, runs_follow, loops_runs}
use Rattle.slot_gen.proofs.Weight.{weight, part_weight, inits_weight, stmt_weight, weight-runs}
use Rattle.slot_gen.proofs.Rounds.{part_goes, part_follows, inits_follow, loops_inits, Stands, parts, body_stands, tests, Left, leaving, Turned, turning}
use Rattle.slot_gen.proofs.Match.{Setting, Ground, Doing, Answered, D, F, slot, now, code, at_op, pure_step, one_step}

-- ---- rows as lists

pub block_stmts : (p : Program) (f : ℕ) (r : Around) (n at : ℕ) {m : _} (row : Row_of-Stmt m) → block_code p f r n at row ≡ stmts_code p f r n at (stmts row)
block_stmts p f r n at end_of-Stmt = refl
block_stmts p f r n at (more_of-Stmt s rest) = ap (λ l. stmt_code p f r n at s ++ l) (block_stmts p f r n (at + length (stmt_code p f r n at s)) rest)

row_labels : (p : Program) (f : ℕ) (r : Around) (n at : ℕ) {m : _} (row : Row_of-Stmt m) → row_targets p f r n at row ≡ targets_of p f r n at (stmts row)
row_labels p f r n at end_of-Stmt = refl
row_labels p f r n at (more_of-Stmt s rest) = ap (λ l. targets_at at (constants_of s) ++ l) (row_labels p f r n (at + length (stmt_code p f r n at s)) rest)

row_others : (p : Program) (f : ℕ) (r : Around) (n at : ℕ) {m : _} (row : Row_of-Stmt m) → row_defaults p f r n at row ≡ defaults_of p f r n at (stmts row)
row_others p f r n at end_of-Stmt = refl
row_others p f r n at (more_of-Stmt s rest) = ap (λ l. if is_default s then at ∷ [] else l) (row_others p f r n (at + length (stmt_code p f r n at s)) rest)

else_stmts : (p : Program) (f : ℕ) (r : Around) (n at : ℕ) (b : Held-Stmt-If-3) → else_code p f r n at b ≡ stmts_code p f r n at (else_of b)
else_stmts p f r n at None' = refl
else_stmts p f r n at (Some' x s) = sym (append-nil (stmt_code p f r n at s))

-- ---- weights

weight-init : (p : Program) (f x : ℕ) (o : Option Pointed) (k : List Item) → weight (init_of p f x o ++ k) ≤ part_weight o + weight k
weight-init p f x None k = omega arith
weight-init p f x (Some q) k = omega arith

weight-inits : (p : Program) (f : ℕ) (ds : List DeclaredLocal) (k : List Item) → weight (inits_of p f ds ++ k) ≤ inits_weight ds + weight k
weight-inits p f [] k = omega arith
weight-inits p f (d ∷ ds) k =
    subst (λ l. weight l ≤ inits_weight (d ∷ ds) + weight k) (sym (append_assoc (init_of p f d.local d.init) (inits_of p f ds) k))
    (omega (arith, weight-init p f d.local d.init (inits_of p f ds ++ k), weight-inits p f ds k))

weight-test : (o : Option Pointed) (b s : Stmt) (n : ℕ) (k : List Item) → weight (test_of o b s n ++ k) ≤ part_weight o + stmt_weight b + weight k
weight-test None b s n k = omega arith
weight-test (Some q) b s n k = omega arith

module _ (set : Setting) (g : Ground set) where
  abbrev f : ℕ
  f = g.h.activation.function

  abbrev n : ℕ
  n = length g.h.activation.locals

  -- what stands is reached in no operator, or by a jump
  stand_none : (k0 k : List Item) (temps : Temps) (pc m : ℕ) → D set g [] [] k0 temps pc → weight k < weight k0 → Stands set.p f (code set g) n pc k → Answered set (now set g [] k0) (GoesOn m (now set g [] k)) (slot set g temps pc)
  stand_none k0 k temps pc m d lt s =
      (0, 0, slot set g temps pc, omega arith, (refl, refl), record { same = refl; ws = []; doing = record { fn = d.fn; found = d.found; ends = d.ends; around = s.around; loops = s.loops; holds = tt; follows = s.follows }; outer = g.out }, lt)

  pub stand_jump : (k0 k : List Item) (ws : List Where) (vs : List Value) (temps : Temps) (pc to : ℕ) (o : SlotOp) → D set g ws vs k0 temps pc → slice_get (code set g) pc ≡ Some o → slots.act set.c (slot set g temps pc) o ≡ slots.jumps set.c (slot set g temps pc) to
      → Stands set.p f (code set g) n to k → Answered set (now set g vs k0) (GoesOn 1 (now set g [] k)) (slot set g temps pc)
  stand_jump k0 k ws vs temps pc to o d e a s =
      one_step set g k0 k vs [] temps temps pc to 1 1 [] o (omega arith) e a
      (record { fn = d.fn; found = d.found; ends = d.ends; around = s.around; loops = s.loops; holds = tt; follows = s.follows })

  abbrev R : List Item → Temps → ℕ → Type 0
  R k temps pc = D set g [] [] k temps pc

  -- ---- loops, from their first jump on

  module _ (s : Stmt) (k : List Item) (temps : Temps) (pc0 pc : ℕ) (r : Around) (loop : IsLoop s) (has : HasAt (code set g) pc (loop_of set.p f (code set g) pc n s))
      (after : Follows set.p f (code set g) r n (pc + length (loop_of set.p f (code set g) pc n s)) [] k) (loops : Loops set.p f (code set g) r k) where
    tested_stands : Stands set.p f (code set g) n (loop_test set.p f pc (step_in s)) (test_of (test_in s) (body_in s) s n ++ k)
    tested_stands = tests set.p f (code set g) pc n s r k loop has after loops

    enters_at : (b : Bool) → tests_first s ≡ b → slice_get (code set g) pc ≡ Some (op.Jump (if b then loop_test set.p f pc (step_in s) else body_at set.p f (code set g) pc s))
    enters_at b e = subst (λ b. slice_get (code set g) pc ≡ Some (op.Jump (if b then loop_test set.p f pc (step_in s) else body_at set.p f (code set g) pc s))) e (parts set.p f (code set g) pc n s has).enters

    enters_test : tests_first s ≡ true → R (Run s ∷ k) temps pc → Answered set (now set g [] (Run s ∷ k)) (GoesOn 1 (now set g [] (test_of (test_in s) (body_in s) s n ++ k))) (slot set g temps pc)
    enters_test e d = stand_jump (Run s ∷ k) (test_of (test_in s) (body_in s) s n ++ k) [] [] temps pc (loop_test set.p f pc (step_in s)) (op.Jump (loop_test set.p f pc (step_in s))) d (enters_at true e) refl tested_stands

    enters_body : tests_first s ≡ false → R (Run s ∷ k) temps pc → Answered set (now set g [] (Run s ∷ k)) (GoesOn 1 (now set g [] (Run (body_in s) ∷ Again s n ∷ k))) (slot set g temps pc)
    enters_body e d =
        stand_jump (Run s ∷ k) (Run (body_in s) ∷ Again s n ∷ k) [] [] temps pc (body_at set.p f (code set g) pc s) (op.Jump (body_at set.p f (code set g) pc s)) d (enters_at false e) refl
        (body_stands set.p f (code set g) pc n s r k loop has after loops)

    -- after a first part
    enters_after : (q : Pointed) → tests_first s ≡ true → HasAt (code set g) pc0 (part_code set.p f pc0 (Some q)) → pc ≡ pc0 + length (part_code set.p f pc0 (Some q))
        → Stands set.p f (code set g) n pc0 (Stop q.point ∷ Eval q.e ∷ Discard ∷ (test_of (test_in s) (body_in s) s n ++ k))
    enters_after q e part at =
        let t = tested_stands in
        let ce = expr_code set.p f (pc0 + 1) 0 q.e in
        let there : pc ≡ pc0 + 1 + length ce = omega (arith, at) in
        record {
          around = t.around;
          loops = t.loops;
          follows = part_goes set.p f (code set g) t.around n q pc0 (loop_test set.p f pc (step_in s)) (test_of (test_in s) (body_in s) s n ++ k) part (inr (subst (λ i. slice_get (code set g) i ≡ Some (op.Jump (loop_test set.p f pc (step_in s)))) there (enters_at true e))) t.follows;
        }

  for_answers : (x : _) (i q t : Option Pointed) (y : _) (b : Stmt) (k : List Item) (temps : Temps) (pc : ℕ) → R (Run (For' x i q t y b) ∷ k) temps pc
      → Answered set (now set g [] (Run (For' x i q t y b) ∷ k)) (source.execute set.p g.h g.outer (For' x i q t y b) [] k) (slot set g temps pc)
  for_answers x None q t y b k temps pc d =
      let s = For' x None q t y b in
      let co = code set g in
      let e : pc + 0 ≡ pc = omega arith in
      let has = subst (λ i. HasAt co pc (loop_of set.p f co i n s)) e d.follows.1 in
      let after = subst (λ i. F set g d.around (pc + length (loop_of set.p f co i n s)) [] k) e d.follows.2 in
      enters_test s k temps pc pc d.around tt has after d.loops refl d
  for_answers x (Some j) q t y b k temps pc d =
      let s = For' x (Some j) q t y b in
      let co = code set g in
      let part = part_code set.p f pc (Some j) in
      let start = pc + length part in
      let u = split set.p f co d.around n part (loop_of set.p f co start n s) pc [] k d.follows.1 d.follows.2 in
      stand_none (Run s ∷ k) (Stop j.point ∷ Eval j.e ∷ Discard ∷ (test_of q b s n ++ k)) temps pc 1 d (omega (arith, weight-test q b s n k))
      (enters_after s k temps pc start d.around tt u.1.0 u.1.1 d.loops j refl u.0 refl)

  -- ---- out of loops and `switch`es

  break_answers : (x : _) (k : List Item) (temps : Temps) (pc : ℕ) → (d : R (Run (Break x) ∷ k) temps pc) → (q : Option Round) → broken k ≡ q
      → Answered set (now set g [] (Run (Break x) ∷ k)) (source.on_some q (λ r. GoesOn 1 (record { here = left r.scope g.h; values = []; control = r.control; outer = g.outer }))) (slot set g temps pc)
  unfolding left
  break_answers x k temps pc d None e = tt
  break_answers x k temps pc d (Some out) e =
      let co = code set g in
      let l : Left set.p f co d.around out = leaving set.p f co d.around k out e d.loops in
      let st = slot set g temps pc in
      let h' = left out.scope g.h in
      let at : ℕ → SlotState = λ i. record { here = h'; temps = temps; pc = i; result_at = g.at; outer = g.frames } in
      let u : SlotState = at (pc + 1) in
      let v : SlotState = at d.around.leave in
      let w : SlotState = at l.end in
      let has = d.follows.1 in
      let first = at_op set g temps pc (op.Leave d.around.leave_scope) has.0 ∙ ap (λ m. slots.goes set.c st 0 (left m g.h)) l.scope in
      let second = ap (slots.at_op set.c u) has.1.0 in
      let third = ap (slots.at_op set.c v) l.jumps in
      let le : out.scope ≤ n = omega (arith, d.follows.0.0, l.scope) in
      let len : length (take out.scope g.h.activation.locals) ≡ out.scope = length-take-le out.scope g.h.activation.locals le in (
        3,
        2,
        w,
        omega arith,
        (0, 2, u, omega arith, first, (1, 1, v, omega arith, second, (1, 0, w, omega arith, third, (refl, refl), refl), refl), refl),
        record {
          same = refl;
          ws = [];
          doing = record { fn = d.fn; found = d.found; ends = d.ends; around = l.around; loops = l.loops; holds = tt; follows = subst (λ i. Follows set.p f co l.around i l.end [] out.control) (sym len) l.follows };
          outer = g.out;
        },
        tt,
      )

  continue_answers : (x : _) (k : List Item) (temps : Temps) (pc : ℕ) → (d : R (Run (Continue x) ∷ k) temps pc) → (q : Option Round) → continued k ≡ q
      → Answered set (now set g [] (Run (Continue x) ∷ k)) (source.on_some q (λ r. GoesOn 1 (record { here = left r.scope g.h; values = []; control = r.control; outer = g.outer }))) (slot set g temps pc)
  unfolding left
  continue_answers x k temps pc d None e = tt
  continue_answers x k temps pc d (Some out) e =
      let co = code set g in
      let t : Turned set.p f co d.around out = turning set.p f co d.around k out e d.loops in
      let st = slot set g temps pc in
      let u : SlotState = record { here = left out.scope g.h; temps = temps; pc = pc + 1; result_at = g.at; outer = g.frames } in
      let has = d.follows.1 in
      let first = at_op set g temps pc (op.Leave d.around.again_scope) has.0 ∙ ap (λ m. slots.goes set.c st 0 (left m g.h)) t.scope in
      let le : out.scope ≤ n = omega (arith, d.follows.0.1, t.scope) in
      let len : length (take out.scope g.h.activation.locals) ≡ out.scope = length-take-le out.scope g.h.activation.locals le in
      let jump = has.1.0 ∙ ap (λ i. Some (op.Jump i)) (sym t.again) in (
        1,
        0,
        u,
        omega arith,
        (0, 0, u, omega arith, first, (refl, refl), refl),
        record {
          same = refl;
          ws = [];
          doing = subst (λ k. Doing set (left out.scope g.h).activation [] [] [] k temps (pc + 1)) (sym t.control) (record { fn = d.fn; found = d.found; ends = d.ends; around = t.around; loops = t.loops; holds = tt; follows = (len ∙ t.same, jump) });
          outer = g.out;
        },
        tt,
      )

  abbrev switch_parts : Around → Stmt → ℕ → List SlotOp
  switch_parts r b at = switch_code at (body_code set.p f (in_switch at n r) n (at + 2) b) (body_targets set.p f (in_switch at n r) n (at + 2) b) (body_defaults set.p f (in_switch at n r) n (at + 2) b)

  switch_same : (r : Around) (b : Stmt) (at : ℕ) → switch_parts r b at ≡ switch_of set.p f (code set g) r n at (statements_in b)
  switch_same r (Block' x ds y row l c) at =
      let u = in_switch at n r in
      ap (λ b. switch_code at b (row_targets set.p f u n (at + 2) row) (row_defaults set.p f u n (at + 2) row)) (block_stmts set.p f u n (at + 2) row)
      ∙ ap (λ l. switch_code at (stmts_code set.p f u n (at + 2) (stmts row)) l (row_defaults set.p f u n (at + 2) row)) (row_labels set.p f u n (at + 2) row)
      ∙ ap (switch_code at (stmts_code set.p f u n (at + 2) (stmts row)) (targets_of set.p f u n (at + 2) (stmts row))) (row_others set.p f u n (at + 2) row)
  switch_same r s at = refl

  pub run_answers : (s : Stmt) (k : List Item) (temps : Temps) (pc : ℕ) → R (Run s ∷ k) temps pc → Answered set (now set g [] (Run s ∷ k)) (source.execute set.p g.h g.outer s [] k) (slot set g temps pc)
  run_answers (Expression x None) k temps pc d =
      let e : pc + 0 ≡ pc = omega arith in
      pure_step set g (Run (Expression x None) ∷ k) k [] [] temps pc 1 d (omega arith) d.loops (subst (λ i. F set g d.around i [] k) e d.follows.2)
  run_answers (Expression x (Some q)) k temps pc d =
      pure_step set g (Run (Expression x (Some q)) ∷ k) (Stop q.point ∷ Eval q.e ∷ Discard ∷ k) [] [] temps pc 1 d (omega arith) d.loops
      (part_follows set.p f (code set g) d.around n (Some q) pc k d.follows.1 d.follows.2)
  run_answers (Block' x ds y row l c) k temps pc d =
      let co = code set g in
      let r = d.around in
      let zeros = zeros_code ds in
      let inits = inits_code set.p f (pc + length zeros) ds in
      let at = pc + length zeros + length inits in
      let m = n + length ds in
      let body = stmts_code set.p f r m at (stmts row) in
      let last = op.Leave n ∷ [] in
      let same = block_stmts set.p f r m at row in
      let has = subst (λ b. HasAt co pc (zeros ++ (inits ++ (b ++ last)))) same d.follows.1 in
      let rest = subst (λ b. F set g r (pc + length (zeros ++ (inits ++ (b ++ last)))) [] k) same d.follows.2 in
      let u = split set.p f co r n zeros (inits ++ (body ++ last)) pc [] k has rest in
      let v = split set.p f co r n inits (body ++ last) (pc + length zeros) [] k u.1.0 u.1.1 in
      let w = split set.p f co r n body last at [] k v.1.0 v.1.1 in
      let ends : Follows set.p f co r m (at + length body) [] (Close n ∷ k) = (omega arith, w.1.0.0, w.1.1) in
      let runs = runs_follow set.p f co r m (stmts row) at (Close n ∷ k) (omega (arith, d.follows.0.0), omega (arith, d.follows.0.1)) w.0 ends in
      let all = inits_follow set.p f co r m ds (pc + length zeros) (runs_of (stmts row) ++ Close n ∷ k) v.0 runs in
      pure_step set g (Run (Block' x ds y row l c) ∷ k) (Open ds ∷ (inits_of set.p f ds ++ (runs_of (stmts row) ++ Close n ∷ k))) [] [] temps pc 1 d
      (omega (arith, weight-inits set.p f ds (runs_of (stmts row) ++ Close n ∷ k), weight-runs row (Close n ∷ k)))
      (loops_inits set.p f co r ds (runs_of (stmts row) ++ Close n ∷ k) (loops_runs set.p f co r (stmts row) (Close n ∷ k) d.loops))
      (pc, inl refl, u.0, all)
  run_answers (If' x q y a b) k temps pc d =
      let co = code set g in
      let r = d.around in
      let test = expr_code set.p f (pc + 1) 0 q.e in
      let start = pc + 1 + length test in
      let ca = stmt_code set.p f r n (start + 1) a in
      let same = else_stmts set.p f r n (start + 1 + length ca + 1) b in
      let has = subst (λ e. HasAt co pc (op.Stop q.point ∷ (test ++ choice_code start 0 ca e))) same d.follows.1 in
      let rest = subst (λ e. F set g r (pc + length (op.Stop q.point ∷ (test ++ choice_code start 0 ca e))) [] k) same d.follows.2 in
      let ch = choice_of set.p f co r n start a (else_of b) in
      let u = after_one set.p f co r n (op.Stop q.point) (test ++ ch) pc [] k has rest in
      let v = split set.p f co r n test ch (pc + 1) [] k u.1.0 u.1.1 in
      pure_step set g (Run (If' x q y a b) ∷ k) (Stop q.point ∷ Eval q.e ∷ Choose a (else_of b) ∷ k) [] [] temps pc 1 d (omega arith) d.loops
      (u.0, (v.0, (d.follows.0, v.1.0, v.1.1)))
  run_answers (While' x q y b) k temps pc d = enters_test (While' x q y b) k temps pc pc d.around tt d.follows.1 d.follows.2 d.loops refl d
  run_answers (Do' x y b q) k temps pc d = enters_body (Do' x y b q) k temps pc pc d.around tt d.follows.1 d.follows.2 d.loops refl d
  run_answers (For' x i q t y b) k temps pc d = for_answers x i q t y b k temps pc d
  run_answers (Switch' x q y b) k temps pc d =
      let co = code set g in
      let r = d.around in
      let test = expr_code set.p f (pc + 1) 0 q.e in
      let start = pc + 1 + length test in
      let same = switch_same d.around b start in
      let has = subst (λ l. HasAt co pc (op.Stop q.point ∷ (test ++ l))) same d.follows.1 in
      let rest = subst (λ l. F set g r (pc + length (op.Stop q.point ∷ (test ++ l))) [] k) same d.follows.2 in
      let sw = switch_of set.p f co r n start (statements_in b) in
      let u = after_one set.p f co r n (op.Stop q.point) (test ++ sw) pc [] k has rest in
      let v = split set.p f co r n test sw (pc + 1) [] k u.1.0 u.1.1 in
      pure_step set g (Run (Switch' x q y b) ∷ k) (Stop q.point ∷ Eval q.e ∷ Select b n ∷ k) [] [] temps pc 1 d (omega arith) d.loops
      (u.0, (v.0, (refl, d.follows.0, v.1.0, v.1.1)))
  run_answers (Case' x c y s) k temps pc d = pure_step set g (Run (Case' x c y s) ∷ k) (Run s ∷ k) [] [] temps pc 1 d (omega arith) d.loops d.follows
  run_answers (Default' x y s) k temps pc d = pure_step set g (Run (Default' x y s) ∷ k) (Run s ∷ k) [] [] temps pc 1 d (omega arith) d.loops d.follows
  run_answers (Break x) k temps pc d = break_answers x k temps pc d (broken k) refl
  run_answers (Continue x) k temps pc d = continue_answers x k temps pc d (continued k) refl
  run_answers (Return x q None) k temps pc d =
      let has = d.follows.1 in
      pure_step set g (Run (Return x q None) ∷ k) (Stop q ∷ Push no_value ∷ GiveBack ∷ k) [] [] temps pc 1 d (omega arith) d.loops (has.0, (has.1.0, tt, has.1.1.0))
  run_answers (Return x q (Some e)) k temps pc d =
      let co = code set g in
      let has = d.follows.1 in
      let ce = expr_code set.p f (pc + 1) 0 e in
      let cs = cast_code 0 (result_type set.p f) in
      let last = op.Jump end_place ∷ [] in
      let hc = has_back co (pc + 1) ce (cs ++ last) has.1 in
      pure_step set g (Run (Return x q (Some e)) ∷ k) (Stop q ∷ Eval e ∷ Convert (result_type set.p f) ∷ GiveBack ∷ k) [] [] temps pc 1 d (omega arith) d.loops
      (has.0, (has_front co (pc + 1) ce (cs ++ last) has.1, (has_front co (pc + 1 + length ce) cs last hc, (has_back co (pc + 1 + length ce) cs last hc).0)))
