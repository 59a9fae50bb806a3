-- The code of a statement names the temporaries that it is said to take alone, and so does that of a function.
use Rattle.std.proofs.Common.{ℕ, ◌+◌, ◌<◌, ◌≤◌, List, [], ◌∷◌, length, Bool, true, false, Option, Some, None, subst, arith}
use Rattle.c_tree.specs.declared.types.CType.{CType}
use Rattle.c_tree.specs.declared.types.CType.TheVariants.{Char, Int, Unsigned, Void, Pointer', Array', Struct}
use Rattle.c_tree.specs.declared.typed.Pointed.{Pointed}
use Rattle.c_tree.specs.declared.typed.DeclaredLocal.{DeclaredLocal}
use Rattle.c_tree.specs.declared.typed.Stmt.{Stmt, Row_of-Stmt, end_of-Stmt, more_of-Stmt, Held-Stmt-If-3, None', Some'}
use Rattle.c_tree.specs.declared.typed.Stmt.TheVariants.{Value, Block', If', While', Do', For', Switch', Case', Default', Break, Continue, Return}
use Rattle.c_tree.specs.declared.rows.Program.{Program}
use Rattle.c_tree.specs.declared.rows.Function.{Function}
use Rattle.c_source.specs.Blocks.{local_type, result_type}
use Rattle.c_tree.specs.Rows.{declared_in, statements_in}
use Rattle.c_source.specs.Control.{outermost_of}
use Rattle.slot_ir.specs.declared.code.SlotOp.{SlotOp}
use Rattle.slot_ir.specs.declared.code.SlotOp.TheVariants as op
use Rattle.slot_gen.specs.Expressions.{access_of, cast_code, expr_code, unless_register, register_of, if_register, choice_code}
use Rattle.slot_gen.specs.Statements.{Around, Target, nowhere, stmt_code, stmts_code, block_code, else_code, body_code, body_targets, body_defaults, zeros_code, part_code, init_code, inits_code, test_code, loop_test, loop_body, loop_code, in_loop, in_switch, switch_code, seek_code, zero_code, body_place, function_code}
use Rattle.slot_gen.specs.Bounds.{part_temps, init_temps, inits_temps, stmt_temps, row_of_temps, else_temps, function_temps, IsBelow, AreBelow}
use Rattle.slot_gen.proofs.Executions.{block_stmts}
use Rattle.slot_gen.proofs.Temps.{below_append, some_temps, expr_below, write_below, cast_below}

zeros_below : (n : ℕ) (ds : List DeclaredLocal) → AreBelow n (zeros_code ds)
zeros_below n [] = tt
zeros_below n (d ∷ ds) = (tt, zeros_below n ds)

seeks_below : (n : ℕ) (ls : List Target) → 1 ≤ n → AreBelow n (seek_code ls)
seeks_below n [] le = tt
seeks_below n (l ∷ ls) le = (omega (arith, le), seeks_below n ls le)

zero_below : (n : ℕ) (t : CType) → 1 ≤ n → IsBelow n (zero_code t)
zero_below n Char le = omega (arith, le)
zero_below n Int le = omega (arith, le)
zero_below n Unsigned le = omega (arith, le)
zero_below n Void le = omega (arith, le)
zero_below n (Pointer' x t) le = omega (arith, le)
zero_below n (Array' x t m) le = omega (arith, le)
zero_below n (Struct s) le = omega (arith, le)

module _ (p : Program) (f n : ℕ) where
  part_below : (at : ℕ) (o : Option Pointed) → part_temps o ≤ n → AreBelow n (part_code p f at o)
  part_below at None le = tt
  part_below at (Some q) le = (tt, expr_below p f n q.e (at + 1) 0 (omega (arith, le)))

  address_below : (o : Option ℕ) (x : ℕ) → 1 ≤ n → AreBelow n (unless_register o (op.LocalAddress 0 x ∷ []))
  address_below None x le = (omega (arith, le), tt)
  address_below (Some y) x le = tt

  init_below : (at x : ℕ) (o : Option Pointed) → init_temps o ≤ n → AreBelow n (init_code p f at x o)
  init_below at x None le = tt
  init_below at x (Some q) le =
      let r = if_register x (register_of p f x) in
      let place = unless_register r (op.LocalAddress 0 x ∷ []) in
      let two : 1 < n = omega (arith, le, some_temps q.e) in
      (tt, below_append n place _ (address_below r x (omega (arith, two))) (below_append n (expr_code p f (at + 1 + length place) 1 q.e) _ (expr_below p f n q.e (at + 1 + length place) 1 (omega (arith, le))) (write_below p f n 0 r (local_type p f x) two)))

  inits_below : (at : ℕ) (ds : List DeclaredLocal) → inits_temps ds ≤ n → AreBelow n (inits_code p f at ds)
  inits_below at [] le = tt
  inits_below at (d ∷ ds) le = below_append n (init_code p f at d.local d.init) _ (init_below at d.local d.init (omega (arith, le))) (inits_below (at + length (init_code p f at d.local d.init)) ds (omega (arith, le)))

  test_below : (at : ℕ) (o : Option Pointed) (end : ℕ) → part_temps o ≤ n → AreBelow n (test_code p f at o end)
  test_below at None end le = tt
  test_below at (Some q) end le = (tt, below_append n (expr_code p f (at + 1) 0 q.e) _ (expr_below p f n q.e (at + 1) 0 (omega (arith, le))) (omega (arith, le, some_temps q.e), tt))

  loop_below : (at : ℕ) (first : Bool) (t q : Option Pointed) (body : List SlotOp) → part_temps t ≤ n → part_temps q ≤ n → AreBelow n body → AreBelow n (loop_code p f at first t q body)
  loop_below at first t q body a b c =
      (tt, (tt, below_append n (part_code p f (at + 2) t) _ (part_below (at + 2) t a) (below_append n (test_code p f (loop_test p f at t) q _) _ (test_below (loop_test p f at t) q _ b) (below_append n body _ c (tt, tt)))))

  switch_below : (at : ℕ) (body : List SlotOp) (ls : List Target) (ds : List ℕ) → 1 ≤ n → AreBelow n body → AreBelow n (switch_code at body ls ds)
  switch_below at body ls ds le b = (tt, (tt, below_append n body _ b (tt, below_append n (seek_code ls) _ (seeks_below n ls le) (tt, tt))))

  choose_below : (at : ℕ) (a b : List SlotOp) → 1 ≤ n → AreBelow n a → AreBelow n b → AreBelow n (choice_code at 0 a b)
  choose_below at a b le x y = (omega (arith, le), below_append n a _ x (tt, y))

  mutual
    pub stmt_below : (s : Stmt) (r : Around) (m at : ℕ) → stmt_temps s ≤ n → AreBelow n (stmt_code p f r m at s)
    stmt_below (Value x e) r m at le = part_below at e le
    stmt_below (Block' x ds y row l c) r m at le =
        let zeros = zeros_code ds in
        let inits = inits_code p f (at + length zeros) ds in
        below_append n zeros _ (zeros_below n ds) (below_append n inits _ (inits_below (at + length zeros) ds (omega (arith, le))) (below_append n (block_code p f r (m + length ds) (at + length zeros + length inits) row) _ (row_below row r (m + length ds) (at + length zeros + length inits) (omega (arith, le))) (tt, tt)))
    stmt_below (If' x q y a b) r m at le =
        let test = expr_code p f (at + 1) 0 q.e in
        let start = at + 1 + length test in
        let ca = stmt_code p f r m (start + 1) a in
        (tt, below_append n test _ (expr_below p f n q.e (at + 1) 0 (omega (arith, le))) (choose_below start ca _ (omega (arith, le, some_temps q.e)) (stmt_below a r m (start + 1) (omega (arith, le))) (else_below b r m (start + 1 + length ca + 1) (omega (arith, le)))))
    stmt_below (While' x q y b) r m at le =
        loop_below at true None (Some q) _ (omega arith) (omega (arith, le)) (stmt_below b (in_loop at m) m (loop_body p f at None (Some q)) (omega (arith, le)))
    stmt_below (Do' x y b q) r m at le =
        loop_below at false None (Some q) _ (omega arith) (omega (arith, le)) (stmt_below b (in_loop at m) m (loop_body p f at None (Some q)) (omega (arith, le)))
    stmt_below (For' x i q t y b) r m at le =
        let ci = part_code p f at i in
        let start = at + length ci in
        below_append n ci _ (part_below at i (omega (arith, le))) (loop_below start true t q _ (omega (arith, le)) (omega (arith, le)) (stmt_below b (in_loop start m) m (loop_body p f start t q) (omega (arith, le))))
    stmt_below (Switch' x q y b) r m at le =
        let test = expr_code p f (at + 1) 0 q.e in
        let start = at + 1 + length test in
        (tt, below_append n test _ (expr_below p f n q.e (at + 1) 0 (omega (arith, le))) (switch_below start (body_code p f (in_switch start m r) m (start + 2) b) (body_targets p f (in_switch start m r) m (start + 2) b) (body_defaults p f (in_switch start m r) m (start + 2) b) (omega (arith, le, some_temps q.e)) (body_below b (in_switch start m r) m (start + 2) (omega (arith, le)))))
    stmt_below (Case' x c y b) r m at le = stmt_below b r m at le
    stmt_below (Default' x y b) r m at le = stmt_below b r m at le
    stmt_below (Break x) r m at le = (tt, (tt, tt))
    stmt_below (Continue x) r m at le = (tt, (tt, tt))
    stmt_below (Return x q None) r m at le = (tt, (omega (arith, le), (tt, tt)))
    stmt_below (Return x q (Some e)) r m at le =
        (tt, below_append n (expr_code p f (at + 1) 0 e) _ (expr_below p f n e (at + 1) 0 (omega (arith, le))) (below_append n (cast_code 0 (result_type p f)) _ (cast_below n 0 (access_of (result_type p f)) (omega (arith, le, some_temps e))) (tt, tt)))

    row_below : {k : _} (row : Row_of-Stmt k) (r : Around) (m at : ℕ) → row_of_temps row ≤ n → AreBelow n (block_code p f r m at row)
    row_below end_of-Stmt r m at le = tt
    row_below (more_of-Stmt s rest) r m at le = below_append n (stmt_code p f r m at s) _ (stmt_below s r m at (omega (arith, le))) (row_below rest r m (at + length (stmt_code p f r m at s)) (omega (arith, le)))

    else_below : (b : Held-Stmt-If-3) (r : Around) (m at : ℕ) → else_temps b ≤ n → AreBelow n (else_code p f r m at b)
    else_below None' r m at le = tt
    else_below (Some' x s) r m at le = stmt_below s r m at le

    body_below : (b : Stmt) (r : Around) (m at : ℕ) → stmt_temps b ≤ n → AreBelow n (body_code p f r m at b)
    body_below (Block' x ds y row l c) r m at le = row_below row r m at (omega (arith, le))
    body_below s r m at le = tt

  body_inits : (b : Stmt) (at : ℕ) → stmt_temps b ≤ n → AreBelow n (inits_code p f at (declared_in b))
  body_inits (Block' x ds y row l c) at le = inits_below at ds (omega (arith, le))
  body_inits s at le = tt

  body_stmts : (b : Stmt) (r : Around) (m at : ℕ) → stmt_temps b ≤ n → AreBelow n (stmts_code p f r m at (statements_in b))
  body_stmts (Block' x ds y row l c) r m at le = subst (AreBelow n) (block_stmts p f r m at row) (row_below row r m at (omega (arith, le)))
  body_stmts s r m at le = tt

  pub function_below : (fn : Function) → function_temps fn ≤ n → AreBelow n (function_code p f fn)
  function_below fn le =
      let ds = declared_in fn.body in
      let zeros = zeros_code ds in
      let start = body_place + length zeros in
      let inits = inits_code p f start ds in
      let body = stmts_code p f nowhere (outermost_of fn) (start + length inits) (statements_in fn.body) in
      let one : 1 ≤ n = omega (arith, le) in
      let stmt : stmt_temps fn.body ≤ n = omega (arith, le) in (
        tt,
        (
          tt,
          (
            tt,
            (
              tt,
              (
                omega (arith, one),
                below_append n zeros _ (zeros_below n ds) (below_append n inits _ (body_inits fn.body start stmt)
                    (below_append n body _ (body_stmts fn.body nowhere (outermost_of fn) (start + length inits) stmt) (zero_below n fn.result one, (tt, tt)))),
              ),
            ),
          ),
        ),
      )
