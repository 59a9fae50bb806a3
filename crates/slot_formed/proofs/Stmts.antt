-- The code of a well-typed statement and of a function names what is there, and its jumps land inside the function.
use Rattle.std.proofs.Common.{◌≡◌, refl, sym, ap, subst, ◌∙◌, arith, ℕ, suc, ◌+◌, ◌<◌, ◌≤◌, List, [], ◌∷◌, ◌++◌, length, length-append, Bool, true, false, Option, Some, None, slice_get, ◌^◌}
use Rattle.std.specs.Prelude.{if◌then◌else◌}
use Rattle.std.specs.List.{AllByRecursion}
use Rattle.c_tree.specs.declared.types.CType.{CType}
use Rattle.c_tree.specs.declared.types.CType.TheVariants.{Char, Int, Unsigned, Void, Pointer', Array', Struct}
use Rattle.c_tree.specs.declared.typed.Pointed.{Pointed}
use Rattle.c_tree.specs.declared.typed.DeclaredLocal.{DeclaredLocal}
use Rattle.c_tree.specs.declared.typed.Stmt.{Stmt, Row_of-Stmt, end_of-Stmt, more_of-Stmt, Held-Stmt-If-3, None', Some'}
use Rattle.c_tree.specs.declared.typed.Stmt.TheVariants.{Value, Block', If', While', Do', For', Switch', Case', Default', Break, Continue, Return}
use Rattle.c_tree.specs.declared.rows.Program.{Program}
use Rattle.c_tree.specs.declared.rows.Function.{Function}
use Rattle.c_tree.specs.Rows.{stmts}
use Rattle.c_tree.specs.Layout.{size_of, leaves_of}
use Rattle.c_tree.specs.Ordered.{LieIn}
use Rattle.c_tree.specs.Points.{points_in, points_in_row, points_in_else}
use Rattle.c_source.specs.Blocks.{local_type, result_type}
use Rattle.c_tree.specs.Rows.{declared_in, statements_in}
use Rattle.c_typing.specs.Plain.{Plain, plain}
use Rattle.c_typing.specs.Statements.{Around as Stands, in_function, in_loop as looped, in_switch as switched, inside, local_numbers, IsTestOrNone, IsDropped, IsInitializer, AreInitialized, IsStatement, AreStatements, IsElse, IsSwitched, locals_of, locals_of_row, locals_of_else}
use Rattle.c_typing.specs.Programs.{numbers, IsBlock, KeepsRules}
use Rattle.slot_ir.specs.declared.code.SlotOp.{SlotOp}
use Rattle.slot_ir.specs.declared.code.SlotOp.TheVariants as op
use Rattle.slot_gen.specs.Expressions.{access_of, cast_code, expr_code, unless_register, register_of, if_register, write_at, choice_code}
use Rattle.slot_gen.specs.Statements.{Around, Target, nowhere, stmt_code, stmts_code, block_code, else_code, body_code, body_targets, body_defaults, row_targets, row_defaults, targets_at, constants_of, is_default, first_target, zeros_code, part_code, init_code, inits_code, test_code, loop_test, loop_body, loop_code, in_loop, in_switch, switch_code, seek_code, zero_code, end_place}
use Rattle.slot_formed.proofs.Lists.{no_none, all_append, all_left, all_right}
use Rattle.slot_formed.proofs.Good.{Among, Good, G, behind, cast_good, write_good, unless_good, choice_good}
use Rattle.slot_formed.proofs.Names.{registers_if}
use Rattle.slot_formed.proofs.Exprs.{expr_good}

abbrev point_of : Option Pointed → List ℕ
point_of None = []
point_of (Some q) = q.point ∷ []

abbrev points_of_inits : List DeclaredLocal → List ℕ
points_of_inits [] = []
points_of_inits (d ∷ ds) = point_of d.init ++ points_of_inits ds

pub numbers_of : (ds : List DeclaredLocal) → length (local_numbers ds) ≡ length ds
numbers_of [] = refl
numbers_of (d ∷ ds) = ap suc (numbers_of ds)

seek_length : (ls : List Target) → length (seek_code ls) ≡ length ls
seek_length [] = refl
seek_length (l ∷ ls) = ap suc (seek_length ls)

pub block_stmts : {k : _} (p : Program) (f : ℕ) (r : Around) (m at : ℕ) (row : Row_of-Stmt k) → block_code p f r m at row ≡ stmts_code p f r m at (stmts row)
block_stmts p f r m at end_of-Stmt = refl
block_stmts p f r m at (more_of-Stmt s rest) = ap (λ l. stmt_code p f r m at s ++ l) (block_stmts p f r m (at + length (stmt_code p f r m at s)) rest)

registers_none : (x : ℕ) (o : Option ℕ) → if_register x o ≡ None → o ≡ None
registers_none x None e = refl
registers_none x (Some r) e = no_none x (sym e)

module _ (p : Program) (accepted : KeepsRules p) (ascend : (t : CType) → LieIn 0 (leaves_of p.defs t) (size_of p.defs t)) (f : ℕ) (fn : Function) (here : slice_get p.functions f ≡ Some fn) (n : ℕ) (ends : end_place < n) where
  abbrev R : Plain
  R = plain fn.result

  abbrev L : ℕ
  L = length fn.locals

  abbrev GG : List SlotOp → Type 0
  GG l = G p f fn n l

  abbrev AllBelow : List ℕ → Type 0
  AllBelow xs = AllByRecursion (λ x. x < L) xs

  abbrev AllAmong : List ℕ → Type 0
  AllAmong qs = AllByRecursion (λ q. Among q fn.points) qs

  -- where `break` and `continue` go is there
  pub record Fits (r : Around) : Type 0 where
    pub leave : r.leave < n
    pub again : r.again < n
    pub leave_scope : r.leave_scope ≤ L
    pub again_scope : r.again_scope ≤ L

  -- ---- parts of statements

  part_good : (v : List ℕ) (at : ℕ) (o : Option Pointed) → IsDropped p f R v o → AllAmong (point_of o) → at + length (part_code p f at o) < n → GG (part_code p f at o)
  part_good v at None t a lt = tt
  part_good v at (Some q) t a lt = (a.0, expr_good p accepted ascend f fn here n v q.e t.0 (at + 1) 0 (omega (arith, lt)))

  zeros_good : (ds : List DeclaredLocal) → AllBelow (local_numbers ds) → GG (zeros_code ds)
  zeros_good [] b = tt
  zeros_good (d ∷ ds) b = (b.0, zeros_good ds b.1)

  init_good : (v : List ℕ) (at x : ℕ) (o : Option Pointed) → IsInitializer p f R v x o → x < L → AllAmong (point_of o) → at + length (init_code p f at x o) < n → GG (init_code p f at x o)
  init_good v at x None t b a lt = tt
  init_good v at x (Some q) t b a lt =
      let r = if_register x (register_of p f x) in
      let place = unless_register r (op.LocalAddress 0 x ∷ []) in
      let ce = expr_code p f (at + 1 + length place) 1 q.e in (
        a.0,
        behind p f fn n (at + 1) place (ce ++ write_at p f 0 r (local_type p f x)) (omega (arith, lt)) (λ i. unless_good p f fn n r (op.LocalAddress 0 x ∷ []) (λ e. ((b, registers_none x (register_of p f x) e), tt))) λ i.
            behind p f fn n (at + 1 + length place) ce _ i (λ j. expr_good p accepted ascend f fn here n v q.e t.0 (at + 1 + length place) 1 j) λ j. write_good p f fn n 0 r (local_type p f x) (registers_if p accepted ascend f fn here n x (register_of p f x) refl),
      )

  inits_good : (v : List ℕ) (at : ℕ) (ds : List DeclaredLocal) → AreInitialized p f R v ds → AllBelow (local_numbers ds) → AllAmong (points_of_inits ds) → at + length (inits_code p f at ds) < n → GG (inits_code p f at ds)
  inits_good v at [] t b a lt = tt
  inits_good v at (d ∷ ds) t b a lt =
      let ci = init_code p f at d.local d.init in
      behind p f fn n at ci _ lt (λ i. init_good (v ++ d.local ∷ []) at d.local d.init t.0 b.0 (all_left _ (point_of d.init) (points_of_inits ds) a) i) λ i.
      inits_good (v ++ d.local ∷ []) (at + length ci) ds t.1 b.1 (all_right _ (point_of d.init) (points_of_inits ds) a) i

  test_good : (v : List ℕ) (at : ℕ) (o : Option Pointed) (end : ℕ) → IsTestOrNone p f R v o → AllAmong (point_of o) → end < n → at + length (test_code p f at o end) < n → GG (test_code p f at o end)
  test_good v at None end t a e lt = tt
  test_good v at (Some q) end t a e lt =
      (a.0, behind p f fn n (at + 1) (expr_code p f (at + 1) 0 q.e) (op.JumpIfZero 0 end ∷ []) (omega (arith, lt)) (λ i. expr_good p accepted ascend f fn here n v q.e t.0 (at + 1) 0 i) λ i. (e, tt))

  test_length : (at : ℕ) (o : Option Pointed) (end : ℕ) → length (test_code p f at o end) ≡ length (test_code p f at o 0)
  test_length at None end = refl
  test_length at (Some q) end = ap suc (length-append (expr_code p f (at + 1) 0 q.e) (op.JumpIfZero 0 end ∷ []) ∙ sym (length-append (expr_code p f (at + 1) 0 q.e) (op.JumpIfZero 0 0 ∷ [])))

  -- ---- loops

  choose_below : (b : Bool) (x y : ℕ) → x < n → y < n → (if b then x else y) < n
  choose_below true x y h k = h
  choose_below false x y h k = k

  loop_length : (at : ℕ) (first : Bool) (t q : Option Pointed) (body : List SlotOp) → length (loop_code p f at first t q body) + at ≡ loop_body p f at t q + length body + 1
  loop_length at first t q body =
      let end = loop_body p f at t q + length body + 1 in
      let ct = part_code p f (at + 2) t in
      let cq = test_code p f (loop_test p f at t) q end in
      let rest : List SlotOp = op.Jump (at + 2) ∷ [] in
      let one : length (ct ++ (cq ++ (body ++ rest))) ≡ length ct + length (cq ++ (body ++ rest)) = length-append ct (cq ++ (body ++ rest)) in
      let two : length (cq ++ (body ++ rest)) ≡ length cq + length (body ++ rest) = length-append cq (body ++ rest) in
      let three : length (body ++ rest) ≡ length body + 1 = length-append body rest in
      let four : length cq ≡ length (test_code p f (loop_test p f at t) q 0) = test_length (loop_test p f at t) q end in
      omega (arith, one, two, three, four)

  loop_good : (v : List ℕ) (at : ℕ) (first : Bool) (t q : Option Pointed) (body : List SlotOp) → IsDropped p f R v t → IsTestOrNone p f R v q → AllAmong (point_of t) → AllAmong (point_of q)
      → (at + 2 < n → loop_body p f at t q + length body < n → GG body) → at + length (loop_code p f at first t q body) < n → GG (loop_code p f at first t q body)
  loop_good v at first t q body tt' tq at' aq go lt =
      let end = loop_body p f at t q + length body + 1 in
      let ct = part_code p f (at + 2) t in
      let cq = test_code p f (loop_test p f at t) q end in
      let rest : List SlotOp = op.Jump (at + 2) ∷ [] in
      let over : end < n = omega (arith, loop_length at first t q body) in
      let same : length cq ≡ length (test_code p f (loop_test p f at t) q 0) = test_length (loop_test p f at t) q end in
      let there : at + 2 < n = omega (arith, over) in (
        choose_below first (loop_test p f at t) (loop_body p f at t q) (omega (arith, over)) (omega (arith, over)),
        (
          over,
          all_append (Good p f fn n) ct _ (part_good v (at + 2) t tt' at' (omega (arith, over)))
              (all_append (Good p f fn n) cq _ (test_good v (loop_test p f at t) q end tq aq over (omega (arith, over, same)))
              (all_append (Good p f fn n) body rest (go there (omega (arith, over))) (there, tt))),
        ),
      )

  -- ---- labels

  abbrev AllPlaced : List Target → Type 0
  AllPlaced ls = AllByRecursion (λ (l : Target). (l.constant < 2 ^ 32) × (l.place < n)) ls

  abbrev AllIn : List ℕ → Type 0
  AllIn ds = AllByRecursion (λ d. d < n) ds

  seeks_good : (ls : List Target) → AllPlaced ls → GG (seek_code ls)
  seeks_good [] h = tt
  seeks_good (l ∷ ls) h = (h.0, seeks_good ls h.1)

  first_below : (over : ℕ) (ds : List ℕ) → over < n → AllIn ds → first_target over ds < n
  first_below over [] h k = h
  first_below over (d ∷ ds) h k = k.0

  switch_good : (at : ℕ) (body : List SlotOp) (ls : List Target) (ds : List ℕ) → (at + 1 < n → at + 2 + length body < n → GG body) → (at + 2 + length body < n → AllPlaced ls) → (at + 2 + length body < n → AllIn ds)
      → at + length (switch_code at body ls ds) < n → GG (switch_code at body ls ds)
  switch_good at body ls ds go placed defaults lt =
      let over = at + 2 + length body in
      let end = over + 1 + length ls + 1 in
      let last : List SlotOp = op.Jump (first_target over ds) ∷ [] in
      let rest : List SlotOp = op.Jump end ∷ (seek_code ls ++ last) in
      let one : length (body ++ rest) ≡ length body + suc (length (seek_code ls ++ last)) = length-append body rest in
      let two : length (seek_code ls ++ last) ≡ length (seek_code ls) + 1 = length-append (seek_code ls) last in
      let three : length (seek_code ls) ≡ length ls = seek_length ls in
      let lands : end < n = omega (arith, lt, one, two, three) in
      let inside : over < n = omega (arith, lands) in (
        omega (arith, lands),
        (
          lands,
          all_append (Good p f fn n) body rest (go (omega (arith, inside)) inside)
              (lands, all_append (Good p f fn n) (seek_code ls) last (seeks_good ls (placed inside)) (first_below over ds inside (defaults inside), tt)),
        ),
      )

  abbrev AreSmall : List ℕ → Type 0
  AreSmall cs = AllByRecursion (λ c. c < 2 ^ 32) cs

  constants_small : (s : Stmt) (v : List ℕ) (a : Stands) → IsStatement p f R v a s → AreSmall (constants_of s)
  constants_small (Case' x c y s) v a t = (t.1, constants_small s v a t.2)
  constants_small (Default' x y s) v a t = constants_small s v a t.1
  constants_small _ v a t = tt

  targets_placed : (at : ℕ) (cs : List ℕ) → AreSmall cs → at < n → AllPlaced (targets_at at cs)
  targets_placed at [] w h = tt
  targets_placed at (c ∷ cs) w h = ((w.0, h), targets_placed at cs w.1 h)

  row_placed : {k : _} (row : Row_of-Stmt k) (v : List ℕ) (a : Stands) (r : Around) (m at : ℕ) → AreStatements p f R v a row → at + length (block_code p f r m at row) < n → AllPlaced (row_targets p f r m at row)
  row_placed end_of-Stmt v a r m at t lt = tt
  row_placed (more_of-Stmt s rest) v a r m at t lt =
      let cs = stmt_code p f r m at s in
      let size : length (cs ++ block_code p f r m (at + length cs) rest) ≡ length cs + length (block_code p f r m (at + length cs) rest) = length-append cs (block_code p f r m (at + length cs) rest) in
      all_append (λ (l : Target). (l.constant < 2 ^ 32) × (l.place < n)) (targets_at at (constants_of s)) _ (targets_placed at (constants_of s) (constants_small s v a t.0) (omega (arith, lt))) (row_placed rest v a r m (at + length cs) t.1 (omega (arith, lt, size)))

  defaults_if : (b : Bool) (at : ℕ) (ds : List ℕ) → at < n → AllIn ds → AllIn (if b then at ∷ [] else ds)
  defaults_if true at ds h k = (h, tt)
  defaults_if false at ds h k = k

  row_defaulted : {k : _} (row : Row_of-Stmt k) (r : Around) (m at : ℕ) → at + length (block_code p f r m at row) < n → AllIn (row_defaults p f r m at row)
  row_defaulted end_of-Stmt r m at lt = tt
  row_defaulted (more_of-Stmt s rest) r m at lt =
      let cs = stmt_code p f r m at s in
      let size : length (cs ++ block_code p f r m (at + length cs) rest) ≡ length cs + length (block_code p f r m (at + length cs) rest) = length-append cs (block_code p f r m (at + length cs) rest) in
      defaults_if (is_default s) at (row_defaults p f r m (at + length cs) rest) (omega (arith, lt)) (row_defaulted rest r m (at + length cs) (omega (arith, lt, size)))

  body_placed : (b : Stmt) (v : List ℕ) (a : Stands) (r : Around) (m at : ℕ) → IsSwitched p f R v a b → at + length (body_code p f r m at b) < n → AllPlaced (body_targets p f r m at b)
  body_placed (Block' x ds y row l c) v a r m at t lt = row_placed row v a r m at t.1 lt
  body_placed s v a r m at t lt = tt

  body_defaulted : (b : Stmt) (r : Around) (m at : ℕ) → at + length (body_code p f r m at b) < n → AllIn (body_defaults p f r m at b)
  body_defaulted (Block' x ds y row l c) r m at lt = row_defaulted row r m at lt
  body_defaulted s r m at lt = tt

  -- ---- statements

  loop_fits : (at m : ℕ) → at + 2 < n → m ≤ L → Fits (in_loop at m)
  loop_fits at m h k = record { leave = omega (arith, h); again = h; leave_scope = k; again_scope = k }

  switch_fits : (at m : ℕ) (r : Around) → at + 1 < n → m ≤ L → Fits r → Fits (in_switch at m r)
  switch_fits at m r h k w = record { leave = h; again = w.again; leave_scope = k; again_scope = w.again_scope }

  mutual
    pub stmt_good : (s : Stmt) (v : List ℕ) (a : Stands) (r : Around) (m at : ℕ) → IsStatement p f R v a s → Fits r → m + length (locals_of s) ≤ L → AllBelow (locals_of s) → AllAmong (points_in s)
        → at + length (stmt_code p f r m at s) < n → G p f fn n (stmt_code p f r m at s)
    stmt_good (Value x e) v a r m at t w z b q lt = part_good v at e t q lt
    stmt_good (Block' x ds y row l c) v a r m at t w z b q lt =
        let zeros = zeros_code ds in
        let inits = inits_code p f (at + length zeros) ds in
        let start = at + length zeros + length inits in
        let code = block_code p f r (m + length ds) start row in
        let size : length (local_numbers ds ++ locals_of_row row) ≡ length ds + length (locals_of_row row) = length-append (local_numbers ds) (locals_of_row row) ∙ ap (λ k. k + length (locals_of_row row)) (numbers_of ds) in
        let mine : AllBelow (local_numbers ds) = all_left _ (local_numbers ds) (locals_of_row row) b in
        behind p f fn n at zeros (inits ++ (code ++ op.Leave m ∷ [])) lt (λ i. zeros_good ds mine) λ i.
        behind p f fn n (at + length zeros) inits (code ++ op.Leave m ∷ []) i (λ j. inits_good v (at + length zeros) ds t.0 mine (all_left _ (points_of_inits ds) (points_in_row row) q) j) λ j.
        behind p f fn n start code (op.Leave m ∷ []) j (λ k. row_good row (v ++ local_numbers ds) (inside a) r (m + length ds) start t.1 w (omega (arith, z, size)) (all_right _ (local_numbers ds) (locals_of_row row) b) (all_right _ (points_of_inits ds) (points_in_row row) q) k) λ k.
        (omega (arith, z), tt)
    stmt_good (If' x c y s e) v a r m at t w z b q lt =
        let test = expr_code p f (at + 1) 0 c.e in
        let start = at + 1 + length test in
        let ca = stmt_code p f r m (start + 1) s in
        let ce = else_code p f r m (start + 1 + length ca + 1) e in
        let size : length (locals_of s ++ locals_of_else e) ≡ length (locals_of s) + length (locals_of_else e) = length-append (locals_of s) (locals_of_else e) in (
          q.0,
          behind p f fn n (at + 1) test (choice_code start 0 ca ce) (omega (arith, lt)) (λ i. expr_good p accepted ascend f fn here n v c.e t.0.0 (at + 1) 0 i) λ i.
              choice_good p f fn n start 0 ca ce i
              (λ j. stmt_good s v (inside a) r m (start + 1) t.1 w (omega (arith, z, size)) (all_left _ (locals_of s) (locals_of_else e) b) (all_left _ (points_in s) (points_in_else e) q.1) j)
              (λ j. else_good e v (inside a) r m (start + 1 + length ca + 1) t.2 w (omega (arith, z, size)) (all_right _ (locals_of s) (locals_of_else e) b) (all_right _ (points_in s) (points_in_else e) q.1) j),
        )
    stmt_good (While' x c y s) v a r m at t w z b q lt =
        loop_good v at true None (Some c) (stmt_code p f (in_loop at m) m (loop_body p f at None (Some c)) s) tt t.0 tt (q.0, tt)
        (λ i j. stmt_good s v looped (in_loop at m) m (loop_body p f at None (Some c)) t.1 (loop_fits at m i (omega (arith, z))) z b q.1 j) lt
    stmt_good (Do' x y s c) v a r m at t w z b q lt =
        loop_good v at false None (Some c) (stmt_code p f (in_loop at m) m (loop_body p f at None (Some c)) s) tt t.1 tt (all_right _ (points_in s) (c.point ∷ []) q)
        (λ i j. stmt_good s v looped (in_loop at m) m (loop_body p f at None (Some c)) t.0 (loop_fits at m i (omega (arith, z))) z b (all_left _ (points_in s) (c.point ∷ []) q) j) lt
    stmt_good (For' x i c e y s) v a r m at t w z b q lt =
        let ci = part_code p f at i in
        let start = at + length ci in
        let ic : List ℕ = point_of i ++ point_of c in
        let ice : List ℕ = ic ++ point_of e in
        let q1 : AllAmong ice = all_left (λ k. Among k fn.points) ice (points_in s) q in
        let q2 : AllAmong ic = all_left (λ k. Among k fn.points) ic (point_of e) q1 in
        behind p f fn n at ci _ lt (λ k. part_good v at i t.0 (all_left _ (point_of i) (point_of c) q2) k) λ k.
        loop_good v start true e c (stmt_code p f (in_loop start m) m (loop_body p f start e c) s) t.2 t.1 (all_right _ ic (point_of e) q1) (all_right _ (point_of i) (point_of c) q2)
        (λ g j. stmt_good s v looped (in_loop start m) m (loop_body p f start e c) t.3 (loop_fits start m g (omega (arith, z))) z b (all_right (λ k. Among k fn.points) ice (points_in s) q) j) k
    stmt_good (Switch' x c y s) v a r m at t w z b q lt =
        let test = expr_code p f (at + 1) 0 c.e in
        let start = at + 1 + length test in
        let around = in_switch start m r in (
          q.0,
          behind p f fn n (at + 1) test _ (omega (arith, lt)) (λ i. expr_good p accepted ascend f fn here n v c.e t.0.0 (at + 1) 0 i) λ i.
              switch_good start (body_code p f around m (start + 2) s) (body_targets p f around m (start + 2) s) (body_defaults p f around m (start + 2) s)
              (λ g j. body_good s v (switched a) around m (start + 2) t.1 (switch_fits start m r g (omega (arith, z)) w) z b q.1 j)
              (λ j. body_placed s v (switched a) around m (start + 2) t.1 j) (λ j. body_defaulted s around m (start + 2) j) i,
        )
    stmt_good (Case' x c y s) v a r m at t w z b q lt = stmt_good s v a r m at t.2 w z b q lt
    stmt_good (Default' x y s) v a r m at t w z b q lt = stmt_good s v a r m at t.1 w z b q lt
    stmt_good (Break x) v a r m at t w z b q lt = (w.leave_scope, (w.leave, tt))
    stmt_good (Continue x) v a r m at t w z b q lt = (w.again_scope, (w.again, tt))
    stmt_good (Return x c None) v a r m at t w z b q lt = (q.0, (omega arith, (ends, tt)))
    stmt_good (Return x c (Some e)) v a r m at t w z b q lt =
        let ce = expr_code p f (at + 1) 0 e in (
          q.0,
          behind p f fn n (at + 1) ce _ (omega (arith, lt)) (λ i. expr_good p accepted ascend f fn here n v e t.0.0 (at + 1) 0 i) λ i.
              all_append (Good p f fn n) (cast_code 0 (result_type p f)) (op.Jump end_place ∷ []) (cast_good p f fn n 0 (access_of (result_type p f))) (ends, tt),
        )

    row_good : {k : _} (row : Row_of-Stmt k) (v : List ℕ) (a : Stands) (r : Around) (m at : ℕ) → AreStatements p f R v a row → Fits r → m + length (locals_of_row row) ≤ L → AllBelow (locals_of_row row) → AllAmong (points_in_row row)
        → at + length (block_code p f r m at row) < n → G p f fn n (block_code p f r m at row)
    row_good end_of-Stmt v a r m at t w z b q lt = tt
    row_good (more_of-Stmt s rest) v a r m at t w z b q lt =
        let cs = stmt_code p f r m at s in
        let size : length (locals_of s ++ locals_of_row rest) ≡ length (locals_of s) + length (locals_of_row rest) = length-append (locals_of s) (locals_of_row rest) in
        behind p f fn n at cs _ lt
        (λ i. stmt_good s v a r m at t.0 w (omega (arith, z, size)) (all_left _ (locals_of s) (locals_of_row rest) b) (all_left _ (points_in s) (points_in_row rest) q) i) λ i.
        row_good rest v a r m (at + length cs) t.1 w (omega (arith, z, size)) (all_right _ (locals_of s) (locals_of_row rest) b) (all_right _ (points_in s) (points_in_row rest) q) i

    else_good : (e : Held-Stmt-If-3) (v : List ℕ) (a : Stands) (r : Around) (m at : ℕ) → IsElse p f R v a e → Fits r → m + length (locals_of_else e) ≤ L → AllBelow (locals_of_else e) → AllAmong (points_in_else e)
        → at + length (else_code p f r m at e) < n → G p f fn n (else_code p f r m at e)
    else_good None' v a r m at t w z b q lt = tt
    else_good (Some' x s) v a r m at t w z b q lt = stmt_good s v a r m at t w z b q lt

    body_good : (s : Stmt) (v : List ℕ) (a : Stands) (r : Around) (m at : ℕ) → IsSwitched p f R v a s → Fits r → m + length (locals_of s) ≤ L → AllBelow (locals_of s) → AllAmong (points_in s)
        → at + length (body_code p f r m at s) < n → G p f fn n (body_code p f r m at s)
    body_good (Block' x ds y row l c) v a r m at t w z b q lt =
        let size : length (local_numbers ds ++ locals_of_row row) ≡ length (local_numbers ds) + length (locals_of_row row) = length-append (local_numbers ds) (locals_of_row row) in
        row_good row v a r m at t.1 w (omega (arith, z, size)) (all_right _ (local_numbers ds) (locals_of_row row) b) (all_right _ (points_of_inits ds) (points_in_row row) q) lt
    body_good s v a r m at t w z b q lt = tt

  -- ---- a function's body

  pub zero_good : (t : CType) → Good p f fn n (zero_code t)
  zero_good Char = omega arith
  zero_good Int = omega arith
  zero_good Unsigned = omega arith
  zero_good Void = omega arith
  zero_good (Pointer' x t) = tt
  zero_good (Array' x t m) = omega arith
  zero_good (Struct s) = omega arith

  pub body_of_good : (b : Stmt) (m at : ℕ) → IsBlock b → IsStatement p f R (numbers 0 fn.params) in_function b → m ≡ fn.params + length (declared_in b) → fn.params + length (locals_of b) ≤ L → AllBelow (locals_of b) → AllAmong (points_in b)
      → at + length (zeros_code (declared_in b)) + length (inits_code p f (at + length (zeros_code (declared_in b))) (declared_in b)) + length (stmts_code p f nowhere m (at + length (zeros_code (declared_in b)) + length (inits_code p f (at + length (zeros_code (declared_in b))) (declared_in b))) (statements_in b)) < n
      → GG (zeros_code (declared_in b)) × GG (inits_code p f (at + length (zeros_code (declared_in b))) (declared_in b)) × GG (stmts_code p f nowhere m (at + length (zeros_code (declared_in b)) + length (inits_code p f (at + length (zeros_code (declared_in b))) (declared_in b))) (statements_in b))
  body_of_good (Block' x ds y row l c) m at k t e z b q lt =
      let zeros = zeros_code ds in
      let inits = inits_code p f (at + length zeros) ds in
      let start = at + length zeros + length inits in
      let mine : AllBelow (local_numbers ds) = all_left _ (local_numbers ds) (locals_of_row row) b in
      let size : length (local_numbers ds ++ locals_of_row row) ≡ length ds + length (locals_of_row row) = length-append (local_numbers ds) (locals_of_row row) ∙ ap (λ k. k + length (locals_of_row row)) (numbers_of ds) in
      let same = block_stmts p f nowhere m start row in (
        zeros_good ds mine,
        inits_good (numbers 0 fn.params) (at + length zeros) ds t.0 mine (all_left _ (points_of_inits ds) (points_in_row row) q) (omega (arith, lt)),
        subst (G p f fn n) same (row_good row (numbers 0 fn.params ++ local_numbers ds) (inside in_function) nowhere m start t.1 (record { leave = omega (arith, ends); again = omega (arith, ends); leave_scope = omega arith; again_scope = omega arith }) (omega (arith, z, size, e)) (all_right _ (local_numbers ds) (locals_of_row row) b) (all_right _ (points_of_inits ds) (points_in_row row) q)
            (omega (arith, lt, ap (λ (code : List SlotOp). length code) same))),
      )
  body_of_good _ m at k t e z b q lt = absurd k
