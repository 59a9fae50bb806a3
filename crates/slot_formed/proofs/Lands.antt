-- In the code of a function each jump keeps the last point, or goes to where no call stands before the next stop.
use Rattle.std.proofs.Common.{◌≡◌, refl, sym, ap, subst, ◌∙◌, arith, ℕ, suc, ◌+◌, ◌<◌, ◌≤◌, List, [], ◌∷◌, ◌++◌, length, length-append, Bool, true, false, Option, Some, None}
use Rattle.std.specs.Prelude.{if◌then◌else◌}
use Rattle.std.specs.List.{AllByRecursion}
use Rattle.c_tree.specs.declared.types.CType.{CType}
use Rattle.c_tree.specs.declared.types.CType.TheVariants.{Char, Int, Unsigned, Void, Pointer', Array', Struct}
use Rattle.c_tree.specs.declared.typed.Typed.{Typed}
use Rattle.c_tree.specs.declared.typed.Pointed.{Pointed}
use Rattle.c_tree.specs.declared.typed.DeclaredLocal.{DeclaredLocal}
use Rattle.c_tree.specs.declared.typed.Stmt.{Stmt, Row_of-Stmt, end_of-Stmt, more_of-Stmt, Held-Stmt-If-3, None', Some'}
use Rattle.c_tree.specs.declared.typed.Stmt.TheVariants.{Value, Block', If', While', Do', For', Switch', Case', Default', Break, Continue, Return}
use Rattle.c_tree.specs.declared.rows.Program.{Program}
use Rattle.c_tree.specs.declared.rows.Function.{Function}
use Rattle.c_tree.specs.Rows.{declared_in, statements_in}
use Rattle.c_source.specs.Blocks.{local_type, result_type}
use Rattle.c_source.specs.Control.{outermost_of}
use Rattle.slot_ir.specs.declared.code.SlotOp.{SlotOp}
use Rattle.slot_ir.specs.declared.code.SlotOp.TheVariants as op
use Rattle.slot_gen.specs.Expressions.{access_of, cast_code, expr_code, unless_register, register_of, if_register, write_at}
use Rattle.slot_gen.specs.Statements.{Around, Target, nowhere, stmt_code, stmts_code, block_code, else_code, body_code, body_targets, body_defaults, row_targets, row_defaults, targets_at, constants_of, is_default, first_target, zeros_code, part_code, init_code, inits_code, test_code, loop_test, loop_body, loop_code, in_loop, in_switch, seek_code, zero_code, end_place, body_place, function_code}
use Rattle.slot_formed.proofs.Lists.{all_append}
use Rattle.slot_formed.proofs.Inside.{EachAt, each_append, IsStraight, AreStraight, LeadsOn, expr_on, cast_straight, write_straight}
use Rattle.slot_formed.proofs.Quiet.{HasAt, has_front, has_back, has_all, quiet_with, IsNoStop, Quiet, JumpsWell, AllJumpWell, to_quiet, walk_to, HasNoStop, here_in, quiet_stop, quiet_over, quiet_at, quiet_end}

test_length : (p : Program) (f at : ℕ) (o : Option Pointed) (end : ℕ) → length (test_code p f at o end) ≡ length (test_code p f at o 0)
test_length p f at None end = refl
test_length p f at (Some q) end = ap suc (length-append (expr_code p f (at + 1) 0 q.e) (op.JumpIfZero 0 end ∷ []) ∙ sym (length-append (expr_code p f (at + 1) 0 q.e) (op.JumpIfZero 0 0 ∷ [])))

seek_length : (ls : List Target) → length (seek_code ls) ≡ length ls
seek_length [] = refl
seek_length (l ∷ ls) = ap suc (seek_length ls)

module _ (p : Program) (f : ℕ) (code : List SlotOp) where
  abbrev Q : ℕ → Type 0
  Q i = Quiet code i

  abbrev J : ℕ → List SlotOp → Type 0
  J at l = AllJumpWell code at l

  abbrev H : ℕ → List SlotOp → Type 0
  H at l = HasAt code at l

  -- ---- pieces

  -- two codes, one behind the other, behind which nothing calls
  quiet_then : (at : ℕ) (a b : List SlotOp) → H at (a ++ b) → (H at a → Q (at + length a) → Q at) → (H (at + length a) b → Q (at + length a + length b) → Q (at + length a)) → Q (at + length (a ++ b)) → Q at
  quiet_then at a b h x y q =
      let e : at + length (a ++ b) ≡ at + length a + length b = omega (arith, length-append a b) in
      x (has_front code at a b h) (y (has_back code at a b h) (quiet_at code _ _ e q))

  -- and the place between them
  quiet_between : (at : ℕ) (a b : List SlotOp) → H at (a ++ b) → (H (at + length a) b → Q (at + length a + length b) → Q (at + length a)) → Q (at + length (a ++ b)) → Q (at + length a)
  quiet_between at a b h y q =
      let e : at + length (a ++ b) ≡ at + length a + length b = omega (arith, length-append a b) in
      y (has_back code at a b h) (quiet_at code _ _ e q)

  quiet_none : (at : ℕ) → Q (at + 0) → Q at
  quiet_none at q = let e : at + 0 ≡ at = omega arith in quiet_at code _ _ e q

  one_straight : (x : ℕ) (o : SlotOp) → IsStraight o → JumpsWell code x o
  one_straight x (op.Jump y) h = absurd h
  one_straight x (op.JumpIfZero d y) h = absurd h
  one_straight x (op.JumpIfNotZero d y) h = absurd h
  one_straight x (op.JumpIfEqual d b y) h = absurd h
  one_straight x _ h = tt

  straight_well : (at : ℕ) (l : List SlotOp) → AreStraight l → J at l
  straight_well at [] h = tt
  straight_well at (o ∷ l) h = (one_straight at o h.0, straight_well (at + 1) l h.1)

  -- ---- expressions

  no_stop : (end x : ℕ) (o : SlotOp) → LeadsOn p f end x o → IsNoStop o
  no_stop end x (op.Stop q) h = absurd h
  no_stop end x _ h = tt

  module _ (from end : ℕ) (clear : (i : ℕ) → from ≤ i → i < end → HasNoStop code i) where
    leads_well : (x : ℕ) (o : SlotOp) → from ≤ x → LeadsOn p f end x o → JumpsWell code x o
    leads_well x (op.Jump y) le h = walk_to code x y h.0 λ i a b. clear i (omega (arith, le, a)) (omega (arith, b, h.1))
    leads_well x (op.JumpIfZero d y) le h = walk_to code x y h.0 λ i a b. clear i (omega (arith, le, a)) (omega (arith, b, h.1))
    leads_well x (op.JumpIfNotZero d y) le h = walk_to code x y h.0 λ i a b. clear i (omega (arith, le, a)) (omega (arith, b, h.1))
    leads_well x (op.JumpIfEqual d c y) le h = walk_to code x y h.0 λ i a b. clear i (omega (arith, le, a)) (omega (arith, b, h.1))
    leads_well x _ le h = tt

    each_well : (at : ℕ) (l : List SlotOp) → from ≤ at → EachAt (LeadsOn p f end) at l → J at l
    each_well at [] le h = tt
    each_well at (o ∷ l) le h = (leads_well at o le h.0, each_well (at + 1) l (omega (arith, le)) h.1)

  expr_well : (at d : ℕ) (e : Typed) → H at (expr_code p f at d e) → J at (expr_code p f at d e)
  expr_well at d e has =
      let ce = expr_code p f at d e in
      let end = at + length ce in
      let on = expr_on p f end e at d (omega arith) in
      each_well at end (λ i a b. let q = here_in code (LeadsOn p f end) at ce i has on a b in (q.0, q.1, no_stop end i q.0 q.2)) at ce (omega arith) on

  -- ---- parts of statements

  part_quiet : (at : ℕ) (o : Option Pointed) → H at (part_code p f at o) → Q (at + length (part_code p f at o)) → Q at
  part_quiet at None h q = quiet_none at q
  part_quiet at (Some c) h q = quiet_stop code at c.point h.0

  part_well : (at : ℕ) (o : Option Pointed) → H at (part_code p f at o) → J at (part_code p f at o)
  part_well at None h = tt
  part_well at (Some c) h = (tt, expr_well (at + 1) 0 c.e h.1)

  zeros_quiet : (at : ℕ) (ds : List DeclaredLocal) → H at (zeros_code ds) → Q (at + length (zeros_code ds)) → Q at
  zeros_quiet at [] h q = quiet_none at q
  zeros_quiet at (d ∷ ds) h q =
      let e : at + length (zeros_code (d ∷ ds)) ≡ at + 1 + length (zeros_code ds) = omega arith in
      quiet_over code at (op.Zero d.local) h.0 (λ b. refl) (zeros_quiet (at + 1) ds h.1 (quiet_at code _ _ e q))

  zeros_straight : (ds : List DeclaredLocal) → AreStraight (zeros_code ds)
  zeros_straight [] = tt
  zeros_straight (d ∷ ds) = (tt, zeros_straight ds)

  init_quiet : (at x : ℕ) (o : Option Pointed) → H at (init_code p f at x o) → Q (at + length (init_code p f at x o)) → Q at
  init_quiet at x None h q = quiet_none at q
  init_quiet at x (Some c) h q = quiet_stop code at c.point h.0

  place_straight : (o : Option ℕ) (x : ℕ) → AreStraight (unless_register o (op.LocalAddress 0 x ∷ []))
  place_straight None x = (tt, tt)
  place_straight (Some y) x = tt

  init_well : (at x : ℕ) (o : Option Pointed) → H at (init_code p f at x o) → J at (init_code p f at x o)
  init_well at x None h = tt
  init_well at x (Some c) h =
      let r = if_register x (register_of p f x) in
      let place = unless_register r (op.LocalAddress 0 x ∷ []) in
      let ce = expr_code p f (at + 1 + length place) 1 c.e in
      let last = write_at p f 0 r (local_type p f x) in
      let behind = has_back code (at + 1) place (ce ++ last) h.1 in (
        tt,
        each_append (JumpsWell code) (at + 1) place (ce ++ last) (straight_well (at + 1) place (place_straight r x))
            (each_append (JumpsWell code) (at + 1 + length place) ce last (expr_well (at + 1 + length place) 1 c.e (has_front code (at + 1 + length place) ce last behind)) (straight_well _ last (write_straight p f 0 r (local_type p f x)))),
      )

  inits_quiet : (at : ℕ) (ds : List DeclaredLocal) → H at (inits_code p f at ds) → Q (at + length (inits_code p f at ds)) → Q at
  inits_quiet at [] h q = quiet_none at q
  inits_quiet at (d ∷ ds) h q =
      let ci = init_code p f at d.local d.init in
      quiet_then at ci (inits_code p f (at + length ci) ds) h (init_quiet at d.local d.init) (inits_quiet (at + length ci) ds) q

  inits_well : (at : ℕ) (ds : List DeclaredLocal) → H at (inits_code p f at ds) → J at (inits_code p f at ds)
  inits_well at [] h = tt
  inits_well at (d ∷ ds) h =
      let ci = init_code p f at d.local d.init in
      let cs = inits_code p f (at + length ci) ds in
      each_append (JumpsWell code) at ci cs (init_well at d.local d.init (has_front code at ci cs h)) (inits_well (at + length ci) ds (has_back code at ci cs h))

  test_quiet : (at : ℕ) (o : Option Pointed) (end : ℕ) → H at (test_code p f at o end) → Q (at + length (test_code p f at o end)) → Q at
  test_quiet at None end h q = quiet_none at q
  test_quiet at (Some c) end h q = quiet_stop code at c.point h.0

  test_well : (at : ℕ) (o : Option Pointed) (end : ℕ) → Q end → H at (test_code p f at o end) → J at (test_code p f at o end)
  test_well at None end q h = tt
  test_well at (Some c) end q h =
      let ce = expr_code p f (at + 1) 0 c.e in
      let last : List SlotOp = op.JumpIfZero 0 end ∷ [] in
      (tt, each_append (JumpsWell code) (at + 1) ce last (expr_well (at + 1) 0 c.e (has_front code (at + 1) ce last h.1)) (to_quiet code _ end q, tt))

  -- ---- loops, whose bodies begin where nothing calls

  module _ (at : ℕ) (first : Bool) (t c : Option Pointed) (body : List SlotOp) (h : H at (loop_code p f at first t c body)) (behind : Q (at + length (loop_code p f at first t c body)))
      (begins : H (loop_body p f at t c) body → Q (loop_body p f at t c + length body) → Q (loop_body p f at t c)) where
    abbrev end : ℕ
    end = loop_body p f at t c + length body + 1

    abbrev ct : List SlotOp
    ct = part_code p f (at + 2) t

    abbrev cq : List SlotOp
    cq = test_code p f (loop_test p f at t) c end

    abbrev back : List SlotOp
    back = op.Jump (at + 2) ∷ []

    parts : H (at + 2) (ct ++ (cq ++ (body ++ back)))
    parts = let e : at + 1 + 1 ≡ at + 2 = omega arith in subst (λ i. H i (ct ++ (cq ++ (body ++ back)))) e h.1.1

    tests : H (loop_test p f at t) (cq ++ (body ++ back))
    tests = has_back code (at + 2) ct (cq ++ (body ++ back)) parts

    body_is : loop_test p f at t + length cq ≡ loop_body p f at t c
    body_is = omega (arith, test_length p f (loop_test p f at t) c end)

    bodies : H (loop_body p f at t c) (body ++ back)
    bodies = subst (λ i. H i (body ++ back)) body_is (has_back code (loop_test p f at t) cq (body ++ back) tests)

    pub body_has : H (loop_body p f at t c) body
    body_has = has_front code (loop_body p f at t c) body back bodies

    end_quiet : Q end
    end_quiet =
        let one = length-append ct (cq ++ (body ++ back)) in
        let two = length-append cq (body ++ back) in
        let three = length-append body back in
        let e : at + length (loop_code p f at first t c body) ≡ end = omega (arith, one, two, three, body_is) in
        quiet_at code _ _ e behind

    pub last_quiet : Q (loop_body p f at t c + length body)
    last_quiet = quiet_over code _ (op.Jump (at + 2)) (has_back code (loop_body p f at t c) body back bodies).0 (λ b. refl) end_quiet

    pub body_quiet : Q (loop_body p f at t c)
    body_quiet = begins body_has last_quiet

    tests_quiet : Q (loop_test p f at t)
    tests_quiet = test_quiet (loop_test p f at t) c end (has_front code (loop_test p f at t) cq (body ++ back) tests) (quiet_at code _ _ (sym body_is) body_quiet)

    pub again_quiet : Q (at + 2)
    again_quiet = part_quiet (at + 2) t (has_front code (at + 2) ct (cq ++ (body ++ back)) parts) tests_quiet

    pub leave_quiet : Q (at + 1)
    leave_quiet = let e : at + 2 ≡ at + 1 + 1 = omega arith in quiet_over code (at + 1) (op.Jump end) h.1.0 (λ b. refl) (quiet_at code _ _ e again_quiet)

    pub loop_quiet : Q at
    loop_quiet = quiet_over code at (op.Jump (if first then loop_test p f at t else loop_body p f at t c)) h.0 (λ b. refl) leave_quiet

    start_quiet : (b : Bool) → Q (if b then loop_test p f at t else loop_body p f at t c)
    start_quiet true = tests_quiet
    start_quiet false = body_quiet

    pub loop_well : J (loop_body p f at t c) body → J at (loop_code p f at first t c body)
    loop_well w =
        let e : at + 2 ≡ at + 1 + 1 = omega arith in
        let last : J (loop_body p f at t c) (body ++ back) = each_append (JumpsWell code) (loop_body p f at t c) body back w (to_quiet code _ (at + 2) again_quiet, tt) in
        let middle : J (loop_test p f at t) (cq ++ (body ++ back)) =
        each_append (JumpsWell code) (loop_test p f at t) cq (body ++ back) (test_well (loop_test p f at t) c end end_quiet (has_front code (loop_test p f at t) cq (body ++ back) tests)) (subst (λ i. J i (body ++ back)) (sym body_is) last) in
        let front : J (at + 2) (ct ++ (cq ++ (body ++ back))) = each_append (JumpsWell code) (at + 2) ct (cq ++ (body ++ back)) (part_well (at + 2) t (has_front code (at + 2) ct (cq ++ (body ++ back)) parts)) middle in
        (to_quiet code at _ (start_quiet first), (to_quiet code (at + 1) end end_quiet, subst (λ i. J i (ct ++ (cq ++ (body ++ back)))) e front))

  -- ---- labels

  abbrev AllQuiet : List Target → Type 0
  AllQuiet ls = AllByRecursion (λ (l : Target). Q l.place) ls

  abbrev AllPlacesQuiet : List ℕ → Type 0
  AllPlacesQuiet ds = AllByRecursion Q ds

  targets_quiet : (at : ℕ) (cs : List ℕ) → Q at → AllQuiet (targets_at at cs)
  targets_quiet at [] q = tt
  targets_quiet at (c ∷ cs) q = (q, targets_quiet at cs q)

  seeks_quiet : (at : ℕ) (ls : List Target) → H at (seek_code ls) → Q (at + length (seek_code ls)) → Q at
  seeks_quiet at [] h q = quiet_none at q
  seeks_quiet at (l ∷ ls) h q =
      let e : at + length (seek_code (l ∷ ls)) ≡ at + 1 + length (seek_code ls) = omega arith in
      quiet_over code at (op.JumpIfEqual 0 l.constant l.place) h.0 (λ b. refl) (seeks_quiet (at + 1) ls h.1 (quiet_at code _ _ e q))

  seeks_well : (at : ℕ) (ls : List Target) → AllQuiet ls → J at (seek_code ls)
  seeks_well at [] a = tt
  seeks_well at (l ∷ ls) a = (to_quiet code at l.place a.0, seeks_well (at + 1) ls a.1)

  first_quiet : (over : ℕ) (ds : List ℕ) → Q over → AllPlacesQuiet ds → Q (first_target over ds)
  first_quiet over [] q a = q
  first_quiet over (d ∷ ds) q a = a.0

  defaults_if : (b : Bool) (at : ℕ) (ds : List ℕ) → Q at → AllPlacesQuiet ds → AllPlacesQuiet (if b then at ∷ [] else ds)
  defaults_if true at ds q a = (q, tt)
  defaults_if false at ds q a = a

  -- ---- where statements begin nothing calls

  mutual
    stmt_quiet : (s : Stmt) (r : Around) (n at : ℕ) → H at (stmt_code p f r n at s) → Q (at + length (stmt_code p f r n at s)) → Q at
    stmt_quiet (Value x e) r n at h q = part_quiet at e h q
    stmt_quiet (Block' x ds y row l c) r n at h q =
        let zeros = zeros_code ds in
        let inits = inits_code p f (at + length zeros) ds in
        let start = at + length zeros + length inits in
        let rows = block_code p f r (n + length ds) start row in
        quiet_then at zeros _ h (zeros_quiet at ds) (λ h q.
        quiet_then (at + length zeros) inits _ h (inits_quiet (at + length zeros) ds) (λ h q.
        quiet_then start rows (op.Leave n ∷ []) h (row_quiet row r (n + length ds) start) (λ h q. quiet_over code _ (op.Leave n) h.0 (λ b. refl) q) q) q) q
    stmt_quiet (If' x c y a b) r n at h q = quiet_stop code at c.point h.0
    stmt_quiet (While' x c y b) r n at h q =
        let start = loop_body p f at None (Some c) in
        loop_quiet at true None (Some c) (stmt_code p f (in_loop at n) n start b) h q (stmt_quiet b (in_loop at n) n start)
    stmt_quiet (Do' x y b c) r n at h q =
        let start = loop_body p f at None (Some c) in
        loop_quiet at false None (Some c) (stmt_code p f (in_loop at n) n start b) h q (stmt_quiet b (in_loop at n) n start)
    stmt_quiet (For' x i c t y b) r n at h q =
        let ci = part_code p f at i in
        let start = at + length ci in
        let inside = loop_body p f start t c in
        let body = stmt_code p f (in_loop start n) n inside b in
        quiet_then at ci (loop_code p f start true t c body) h (part_quiet at i) (λ h q. loop_quiet start true t c body h q (stmt_quiet b (in_loop start n) n inside)) q
    stmt_quiet (Switch' x c y b) r n at h q = quiet_stop code at c.point h.0
    stmt_quiet (Case' x c y s) r n at h q = stmt_quiet s r n at h q
    stmt_quiet (Default' x y s) r n at h q = stmt_quiet s r n at h q
    stmt_quiet (Break x) r n at h q = let e : at + 2 ≡ at + 1 + 1 = omega arith in quiet_over code at (op.Leave r.leave_scope) h.0 (λ b. refl) (quiet_over code (at + 1) (op.Jump r.leave) h.1.0 (λ b. refl) (quiet_at code _ _ e q))
    stmt_quiet (Continue x) r n at h q = let e : at + 2 ≡ at + 1 + 1 = omega arith in quiet_over code at (op.Leave r.again_scope) h.0 (λ b. refl) (quiet_over code (at + 1) (op.Jump r.again) h.1.0 (λ b. refl) (quiet_at code _ _ e q))
    stmt_quiet (Return x c None) r n at h q = quiet_stop code at c h.0
    stmt_quiet (Return x c (Some e)) r n at h q = quiet_stop code at c h.0

    row_quiet : {k : _} (row : Row_of-Stmt k) (r : Around) (n at : ℕ) → H at (block_code p f r n at row) → Q (at + length (block_code p f r n at row)) → Q at
    row_quiet end_of-Stmt r n at h q = quiet_none at q
    row_quiet (more_of-Stmt s rest) r n at h q =
        let cs = stmt_code p f r n at s in
        quiet_then at cs _ h (stmt_quiet s r n at) (row_quiet rest r n (at + length cs)) q

  else_quiet : (e : Held-Stmt-If-3) (r : Around) (n at : ℕ) → H at (else_code p f r n at e) → Q (at + length (else_code p f r n at e)) → Q at
  else_quiet None' r n at h q = quiet_none at q
  else_quiet (Some' x s) r n at h q = stmt_quiet s r n at h q

  stmts_quiet : (ss : List Stmt) (r : Around) (n at : ℕ) → H at (stmts_code p f r n at ss) → Q (at + length (stmts_code p f r n at ss)) → Q at
  stmts_quiet [] r n at h q = quiet_none at q
  stmts_quiet (s ∷ ss) r n at h q =
      let cs = stmt_code p f r n at s in
      quiet_then at cs _ h (stmt_quiet s r n at) (stmts_quiet ss r n (at + length cs)) q

  row_targets_quiet : {k : _} (row : Row_of-Stmt k) (r : Around) (n at : ℕ) → H at (block_code p f r n at row) → Q (at + length (block_code p f r n at row)) → AllQuiet (row_targets p f r n at row)
  row_targets_quiet end_of-Stmt r n at h q = tt
  row_targets_quiet (more_of-Stmt s rest) r n at h q =
      let cs = stmt_code p f r n at s in
      let code_of_rest = block_code p f r n (at + length cs) rest in
      let e : at + length (cs ++ code_of_rest) ≡ at + length cs + length code_of_rest = omega (arith, length-append cs code_of_rest) in
      all_append (λ (l : Target). Q l.place) (targets_at at (constants_of s)) _ (targets_quiet at (constants_of s) (row_quiet (more_of-Stmt s rest) r n at h q))
      (row_targets_quiet rest r n (at + length cs) (has_back code at cs code_of_rest h) (quiet_at code _ _ e q))

  row_defaults_quiet : {k : _} (row : Row_of-Stmt k) (r : Around) (n at : ℕ) → H at (block_code p f r n at row) → Q (at + length (block_code p f r n at row)) → AllPlacesQuiet (row_defaults p f r n at row)
  row_defaults_quiet end_of-Stmt r n at h q = tt
  row_defaults_quiet (more_of-Stmt s rest) r n at h q =
      let cs = stmt_code p f r n at s in
      let code_of_rest = block_code p f r n (at + length cs) rest in
      let e : at + length (cs ++ code_of_rest) ≡ at + length cs + length code_of_rest = omega (arith, length-append cs code_of_rest) in
      defaults_if (is_default s) at (row_defaults p f r n (at + length cs) rest) (row_quiet (more_of-Stmt s rest) r n at h q)
      (row_defaults_quiet rest r n (at + length cs) (has_back code at cs code_of_rest h) (quiet_at code _ _ e q))

  body_starts_quiet : (b : Stmt) (r : Around) (n at : ℕ) → H at (body_code p f r n at b) → Q (at + length (body_code p f r n at b)) → Q at
  body_starts_quiet (Block' x ds y row l c) r n at h q = row_quiet row r n at h q
  body_starts_quiet s r n at h q = quiet_none at q

  body_targets_quiet : (b : Stmt) (r : Around) (n at : ℕ) → H at (body_code p f r n at b) → Q (at + length (body_code p f r n at b)) → AllQuiet (body_targets p f r n at b)
  body_targets_quiet (Block' x ds y row l c) r n at h q = row_targets_quiet row r n at h q
  body_targets_quiet s r n at h q = tt

  body_defaults_quiet : (b : Stmt) (r : Around) (n at : ℕ) → H at (body_code p f r n at b) → Q (at + length (body_code p f r n at b)) → AllPlacesQuiet (body_defaults p f r n at b)
  body_defaults_quiet (Block' x ds y row l c) r n at h q = row_defaults_quiet row r n at h q
  body_defaults_quiet s r n at h q = tt

  -- ---- the jumps of statements

  abbrev AroundQuiet : Around → Type 0
  AroundQuiet r = Q r.leave × Q r.again

  module _ (ends : Q end_place) where
    mutual
      stmt_well : (s : Stmt) (r : Around) (n at : ℕ) → AroundQuiet r → H at (stmt_code p f r n at s) → Q (at + length (stmt_code p f r n at s)) → J at (stmt_code p f r n at s)
      stmt_well (Value x e) r n at w h q = part_well at e h
      stmt_well (Block' x ds y row l c) r n at w h q =
          let zeros = zeros_code ds in
          let inits = inits_code p f (at + length zeros) ds in
          let start = at + length zeros + length inits in
          let rows = block_code p f r (n + length ds) start row in
          let leave : List SlotOp = op.Leave n ∷ [] in
          let h1 = has_back code at zeros (inits ++ (rows ++ leave)) h in
          let h2 = has_back code (at + length zeros) inits (rows ++ leave) h1 in
          let size : at + length (zeros ++ (inits ++ (rows ++ leave))) ≡ start + length rows + 1 = omega (arith, length-append zeros (inits ++ (rows ++ leave)), length-append inits (rows ++ leave), length-append rows leave) in
          let last : Q (start + length rows) = quiet_over code _ (op.Leave n) (has_back code start rows leave h2).0 (λ b. refl) (quiet_at code _ _ size q) in
          each_append (JumpsWell code) at zeros _ (straight_well at zeros (zeros_straight ds))
          (each_append (JumpsWell code) (at + length zeros) inits _ (inits_well (at + length zeros) ds (has_front code (at + length zeros) inits (rows ++ leave) h1))
          (each_append (JumpsWell code) start rows leave (row_well row r (n + length ds) start w (has_front code start rows leave h2) last) (tt, tt)))
      stmt_well (If' x c y a b) r n at w h q =
          let test = expr_code p f (at + 1) 0 c.e in
          let start = at + 1 + length test in
          let ca = stmt_code p f r n (start + 1) a in
          let ce = else_code p f r n (start + 1 + length ca + 1) b in
          let over = start + 1 + length ca + 1 in
          let skip : SlotOp = op.Jump (over + length ce) in
          let jump : SlotOp = op.JumpIfZero 0 over in
          let h1 = has_back code (at + 1) test (jump ∷ (ca ++ skip ∷ ce)) h.1 in
          let h2 = has_back code (start + 1) ca (skip ∷ ce) h1.1 in
          let size : at + length (op.Stop c.point ∷ (test ++ jump ∷ (ca ++ skip ∷ ce))) ≡ over + length ce = omega (arith, length-append test (jump ∷ (ca ++ skip ∷ ce)), length-append ca (skip ∷ ce)) in
          let end : Q (over + length ce) = quiet_at code _ _ size q in
          let other : Q over = else_quiet b r n over h2.1 end in
          let first : Q (start + 1 + length ca) = quiet_over code _ skip h2.0 (λ b. refl) other in (
            tt,
            each_append (JumpsWell code) (at + 1) test _ (expr_well (at + 1) 0 c.e (has_front code (at + 1) test (jump ∷ (ca ++ skip ∷ ce)) h.1)) (
              to_quiet code start over other,
              each_append (JumpsWell code) (start + 1) ca (skip ∷ ce) (stmt_well a r n (start + 1) w (has_front code (start + 1) ca (skip ∷ ce) h1.1) first)
                  (to_quiet code _ (over + length ce) end, else_well b r n over w h2.1 end),
            ),
          )
      stmt_well (While' x c y b) r n at w h q =
          let start = loop_body p f at None (Some c) in
          let body = stmt_code p f (in_loop at n) n start b in
          let begins = stmt_quiet b (in_loop at n) n start in
          loop_well at true None (Some c) body h q begins
          (stmt_well b (in_loop at n) n start (leave_quiet at true None (Some c) body h q begins, again_quiet at true None (Some c) body h q begins) (body_has at true None (Some c) body h q begins) (last_quiet at true None (Some c) body h q begins))
      stmt_well (Do' x y b c) r n at w h q =
          let start = loop_body p f at None (Some c) in
          let body = stmt_code p f (in_loop at n) n start b in
          let begins = stmt_quiet b (in_loop at n) n start in
          loop_well at false None (Some c) body h q begins
          (stmt_well b (in_loop at n) n start (leave_quiet at false None (Some c) body h q begins, again_quiet at false None (Some c) body h q begins) (body_has at false None (Some c) body h q begins) (last_quiet at false None (Some c) body h q begins))
      stmt_well (For' x i c t y b) r n at w h q =
          let ci = part_code p f at i in
          let start = at + length ci in
          let inside = loop_body p f start t c in
          let begins = stmt_quiet b (in_loop start n) n inside in
          let body = stmt_code p f (in_loop start n) n inside b in
          let all = loop_code p f start true t c body in
          let h1 = has_back code at ci all h in
          let size : at + length (ci ++ all) ≡ start + length all = omega (arith, length-append ci all) in
          let q1 = quiet_at code _ _ size q in
          each_append (JumpsWell code) at ci all (part_well at i (has_front code at ci all h))
          (loop_well start true t c body h1 q1 begins
          (stmt_well b (in_loop start n) n inside (leave_quiet start true t c body h1 q1 begins, again_quiet start true t c body h1 q1 begins) (body_has start true t c body h1 q1 begins) (last_quiet start true t c body h1 q1 begins)))
      stmt_well (Switch' x c y b) r n at w h q =
          let test = expr_code p f (at + 1) 0 c.e in
          let start = at + 1 + length test in
          let around = in_switch start n r in
          let body = body_code p f around n (start + 2) b in
          let targets = body_targets p f around n (start + 2) b in
          let defaults = body_defaults p f around n (start + 2) b in
          let over = start + 2 + length body in
          let end = over + 1 + length targets + 1 in
          let seeks = seek_code targets in
          let last : List SlotOp = op.Jump (first_target over defaults) ∷ [] in
          let rest : List SlotOp = op.Jump end ∷ (seeks ++ last) in
          let whole : List SlotOp = op.Jump (over + 1) ∷ op.Jump end ∷ (body ++ rest) in
          let h1 = has_back code (at + 1) test whole h.1 in
          let two : start + 1 + 1 ≡ start + 2 = omega arith in
          let h2 : H (start + 2) (body ++ rest) = subst (λ i. H i (body ++ rest)) two h1.1.1 in
          let hb = has_front code (start + 2) body rest h2 in
          let h3 : H over rest = has_back code (start + 2) body rest h2 in
          let sizes = seek_length targets in
          let size : at + length (op.Stop c.point ∷ (test ++ whole)) ≡ end = omega (arith, length-append test whole, length-append body rest, length-append seeks last, sizes) in
          let end_quiet : Q end = quiet_at code _ _ size q in
          let place : over + 1 + length seeks + 1 ≡ end = omega (arith, sizes) in
          let last_quiet : Q (over + 1 + length seeks) = quiet_over code _ (op.Jump (first_target over defaults)) (has_back code (over + 1) seeks last h3.1).0 (λ b. refl) (quiet_at code _ _ (sym place) end_quiet) in
          let seek_quiet : Q (over + 1) = seeks_quiet (over + 1) targets (has_front code (over + 1) seeks last h3.1) last_quiet in
          let over_quiet : Q over = quiet_over code over (op.Jump end) h3.0 (λ b. refl) seek_quiet in
          let body_quiet : Q (start + 2) = body_starts_quiet b around n (start + 2) hb over_quiet in
          let leave_quiet : Q (start + 1) = quiet_over code (start + 1) (op.Jump end) h1.1.0 (λ b. refl) (quiet_at code _ _ (sym two) body_quiet) in
          let inner : J (start + 2) (body ++ rest) =
          each_append (JumpsWell code) (start + 2) body rest (body_well b around n (start + 2) (leave_quiet, w.1) hb over_quiet) (
            to_quiet code over end end_quiet,
            each_append (JumpsWell code) (over + 1) seeks last (seeks_well (over + 1) targets (body_targets_quiet b around n (start + 2) hb over_quiet))
                (to_quiet code _ (first_target over defaults) (first_quiet over defaults over_quiet (body_defaults_quiet b around n (start + 2) hb over_quiet)), tt),
          ) in (
            tt,
            each_append (JumpsWell code) (at + 1) test whole (expr_well (at + 1) 0 c.e (has_front code (at + 1) test whole h.1))
                (to_quiet code start (over + 1) seek_quiet, (to_quiet code (start + 1) end end_quiet, subst (λ i. J i (body ++ rest)) (sym two) inner)),
          )
      stmt_well (Case' x c y s) r n at w h q = stmt_well s r n at w h q
      stmt_well (Default' x y s) r n at w h q = stmt_well s r n at w h q
      stmt_well (Break x) r n at w h q = (tt, (to_quiet code (at + 1) r.leave w.0, tt))
      stmt_well (Continue x) r n at w h q = (tt, (to_quiet code (at + 1) r.again w.1, tt))
      stmt_well (Return x c None) r n at w h q = (tt, (tt, (to_quiet code _ end_place ends, tt)))
      stmt_well (Return x c (Some e)) r n at w h q =
          let ce = expr_code p f (at + 1) 0 e in
          let cast = cast_code 0 (result_type p f) in
          let last : List SlotOp = op.Jump end_place ∷ [] in (
            tt,
            each_append (JumpsWell code) (at + 1) ce (cast ++ last) (expr_well (at + 1) 0 e (has_front code (at + 1) ce (cast ++ last) h.1))
                (each_append (JumpsWell code) (at + 1 + length ce) cast last (straight_well _ cast (cast_straight 0 (access_of (result_type p f)))) (to_quiet code _ end_place ends, tt)),
          )

      row_well : {k : _} (row : Row_of-Stmt k) (r : Around) (n at : ℕ) → AroundQuiet r → H at (block_code p f r n at row) → Q (at + length (block_code p f r n at row)) → J at (block_code p f r n at row)
      row_well end_of-Stmt r n at w h q = tt
      row_well (more_of-Stmt s rest) r n at w h q =
          let cs = stmt_code p f r n at s in
          let more = block_code p f r n (at + length cs) rest in
          let e : at + length (cs ++ more) ≡ at + length cs + length more = omega (arith, length-append cs more) in
          let q1 = quiet_at code _ _ e q in
          let h1 = has_back code at cs more h in
          each_append (JumpsWell code) at cs more (stmt_well s r n at w (has_front code at cs more h) (row_quiet rest r n (at + length cs) h1 q1)) (row_well rest r n (at + length cs) w h1 q1)

      else_well : (e : Held-Stmt-If-3) (r : Around) (n at : ℕ) → AroundQuiet r → H at (else_code p f r n at e) → Q (at + length (else_code p f r n at e)) → J at (else_code p f r n at e)
      else_well None' r n at w h q = tt
      else_well (Some' x s) r n at w h q = stmt_well s r n at w h q

      body_well : (b : Stmt) (r : Around) (n at : ℕ) → AroundQuiet r → H at (body_code p f r n at b) → Q (at + length (body_code p f r n at b)) → J at (body_code p f r n at b)
      body_well (Block' x ds y row l c) r n at w h q = row_well row r n at w h q
      body_well s r n at w h q = tt

    stmts_well : (ss : List Stmt) (r : Around) (n at : ℕ) → AroundQuiet r → H at (stmts_code p f r n at ss) → Q (at + length (stmts_code p f r n at ss)) → J at (stmts_code p f r n at ss)
    stmts_well [] r n at w h q = tt
    stmts_well (s ∷ ss) r n at w h q =
        let cs = stmt_code p f r n at s in
        let more = stmts_code p f r n (at + length cs) ss in
        let e : at + length (cs ++ more) ≡ at + length cs + length more = omega (arith, length-append cs more) in
        let q1 = quiet_at code _ _ e q in
        let h1 = has_back code at cs more h in
        each_append (JumpsWell code) at cs more (stmt_well s r n at w (has_front code at cs more h) (stmts_quiet ss r n (at + length cs) h1 q1)) (stmts_well ss r n (at + length cs) w h1 q1)

-- ---- functions

module _ (p : Program) (f : ℕ) (fn : Function) where
  abbrev code : List SlotOp
  code = function_code p f fn

  abbrev zeros : List SlotOp
  zeros = zeros_code (declared_in fn.body)

  abbrev inits : List SlotOp
  inits = inits_code p f (body_place + length zeros) (declared_in fn.body)

  abbrev start : ℕ
  start = body_place + length zeros + length inits

  abbrev body : List SlotOp
  body = stmts_code p f nowhere (outermost_of fn) start (statements_in fn.body)

  abbrev ending : List SlotOp
  ending = zero_code fn.result ∷ op.Jump end_place ∷ []

  has : HasAt code body_place (zeros ++ (inits ++ (body ++ ending)))
  has = (has_all code).1.1.1.1.1

  begins_quiet : Quiet code 0
  begins_quiet = refl

  ends_quiet : Quiet code end_place
  ends_quiet = refl

  zero_over : (t : CType) (b : Bool) → quiet_with (zero_code t) b ≡ b
  zero_over Char b = refl
  zero_over Int b = refl
  zero_over Unsigned b = refl
  zero_over Void b = refl
  zero_over (Pointer' _ t) b = refl
  zero_over (Array' _ t n) b = refl
  zero_over (Struct s) b = refl

  zero_well : (t : CType) (x : ℕ) → JumpsWell code x (zero_code t)
  zero_well Char x = tt
  zero_well Int x = tt
  zero_well Unsigned x = tt
  zero_well Void x = tt
  zero_well (Pointer' _ t) x = tt
  zero_well (Array' _ t n) x = tt
  zero_well (Struct s) x = tt

  has_inits : HasAt code (body_place + length zeros) (inits ++ (body ++ ending))
  has_inits = has_back code body_place zeros (inits ++ (body ++ ending)) has

  has_body : HasAt code start (body ++ ending)
  has_body = has_back code (body_place + length zeros) inits (body ++ ending) has_inits

  has_ending : HasAt code (start + length body) ending
  has_ending = has_back code start body ending has_body

  length_is : length code ≡ start + length body + 1 + 1
  length_is = omega (arith, length-append zeros (inits ++ (body ++ ending)), length-append inits (body ++ ending), length-append body ending)

  ending_quiet : Quiet code (start + length body)
  ending_quiet =
      quiet_over code (start + length body) (zero_code fn.result) has_ending.0 (zero_over fn.result)
      (quiet_over code (start + length body + 1) (op.Jump end_place) has_ending.1.0 (λ b. refl) (quiet_at code _ _ length_is (quiet_end code)))

  stmts_are_quiet : Quiet code start
  stmts_are_quiet = stmts_quiet p f code (statements_in fn.body) nowhere (outermost_of fn) start (has_front code start body ending has_body) ending_quiet

  inits_are_quiet : Quiet code (body_place + length zeros)
  inits_are_quiet = inits_quiet p f code (body_place + length zeros) (declared_in fn.body) (has_front code (body_place + length zeros) inits (body ++ ending) has_inits) stmts_are_quiet

  zeros_are_quiet : Quiet code body_place
  zeros_are_quiet = zeros_quiet p f code body_place (declared_in fn.body) (has_front code body_place zeros (inits ++ (body ++ ending)) has) inits_are_quiet

  -- from the first operator on
  pub function_well : AllJumpWell code 0 code
  function_well =
      let tail : AllJumpWell code start (body ++ ending) =
      each_append (JumpsWell code) start body ending (stmts_well p f code ends_quiet (statements_in fn.body) nowhere (outermost_of fn) start (begins_quiet, begins_quiet) (has_front code start body ending has_body) ending_quiet)
      (zero_well fn.result (start + length body), (to_quiet code _ end_place ends_quiet, tt)) in
      let middle : AllJumpWell code (body_place + length zeros) (inits ++ (body ++ ending)) =
      each_append (JumpsWell code) (body_place + length zeros) inits (body ++ ending) (inits_well p f code (body_place + length zeros) (declared_in fn.body) (has_front code (body_place + length zeros) inits (body ++ ending) has_inits)) tail in
      let front : AllJumpWell code body_place (zeros ++ (inits ++ (body ++ ending))) = each_append (JumpsWell code) body_place zeros _ (straight_well p f code body_place zeros (zeros_straight p f code (declared_in fn.body))) middle in
      (tt, (to_quiet code 1 body_place zeros_are_quiet, (tt, (tt, (tt, front)))))
