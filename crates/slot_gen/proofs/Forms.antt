-- The code that is emitted for each form of statement is the form's code.
use Rattle.std.proofs.Common.{◌≡◌, ℕ, suc, ◌+◌, ◌<◌, List, [], ◌∷◌, ◌++◌, length, refl, sym, ap, ◌∙◌, arith, append_assoc, length-append, get_or, drop}
use Rattle.std.specs.Prelude.{slice_get, Vec, Box, Result, Ok, Err, IfOk, OnOk, is_some, option_map, Option, Some, None, Bool, true, false, if◌then◌else◌}
use Rattle.std.proofs.Math.Seq.{drop-cons}
use mathlib.Core.Former.{Count}
use Rattle.std.specs.declared.alloc.Global.{Global}
use Rattle.c_tree.specs.declared.typed.Site.{Site}
use Rattle.c_tree.specs.declared.typed.Typed.{Typed}
use Rattle.c_tree.specs.declared.typed.Pointed.{Pointed}
use Rattle.c_tree.specs.declared.typed.DeclaredLocal.{DeclaredLocal}
use Rattle.c_tree.specs.declared.typed.Stmt.{Stmt, Block, If, Row_of-Stmt, end_of-Stmt, more_of-Stmt, items-the_row-Stmt, items_hidden-the_row-Stmt-0, Held-Stmt-If-3, None', Some'}
use Rattle.c_tree.specs.declared.typed.Stmt.TheVariants.{Block', If', For', Switch', Return}
use Rattle.c_tree.specs.declared.rows.Program.{Program}
use Rattle.c_tree.specs.declared.rows.Function.{Function}
use Rattle.c_tree.specs.declared.rows.Local.{Local}
use Rattle.c_tree.specs.Rows.{stmts}
use Rattle.c_source.specs.Blocks.{locals_in, result_type}
use Rattle.c_tree.specs.Rows.{declared_in, statements_in}
use Rattle.c_source.specs.Control.{outermost_of}
use Rattle.c_tree.specs.Points.{first_of, last_of}
use Rattle.slot_ir.specs.declared.code.SlotOp.{SlotOp}
use Rattle.slot_ir.specs.declared.code.SlotOp.TheVariants.{Jump, JumpIfZero, JumpIfEqual, Leave, Stop, Return as ReturnOp}
use Rattle.slot_gen.specs.Expressions.{expr_code, cast_code, choice_code, registers_from, registers_of}
use Rattle.slot_gen.specs.Statements.{Around, Target, part_code, test_code, zeros_code, inits_code, body_place, end_place, nowhere, zero_code, function_code, stmt_code, stmts_code, block_code, body_code, body_targets, body_defaults, row_targets, row_defaults, targets_of, defaults_of, targets_at, constants_of, is_default, seek_code}
use Rattle.slot_gen.specs.Emission.{first_place, first_default_at, repeated_code, switched_code, whole_body}
use Rattle.slot_gen.proofs.Executions.{block_stmts}
use Rattle.slot_gen.proofs.Emitted.{then_code, on_ok}

-- ---- the statements of a block as a list

stmts_items : (n : _) (row : Row_of-Stmt n) → stmts row ≡ items-the_row-Stmt n row
stmts_items n end_of-Stmt = refl
stmts_items n (more_of-Stmt s rest) = ap (λ l. s ∷ l) (stmts_items _ rest)

abbrev row_of : Stmt → (n : Count) × Row_of-Stmt n
row_of (Block' s ds _ row l c) = (_, row)
row_of _ = (_, end_of-Stmt)

row_of-Block : (s : Site) (ds : List DeclaredLocal) (v : Vec Stmt Global) (l c : ℕ) → stmts (row_of (Block s ds v l c)).1 ≡ v.items
row_of-Block s ds v l c = let row = row_of (Block s ds v l c) in stmts_items row.0 row.1 ∙ items_hidden-the_row-Stmt-0 v

pub length_zeros : (ds : List DeclaredLocal) → length (zeros_code ds) ≡ length ds
length_zeros [] = refl
length_zeros (d ∷ ds) = ap suc (length_zeros ds)

module _ (p : Program) (f : ℕ) where
  pub block_done : (old c1 c2 c3 c4 : List SlotOp) (r : Around) (n m k : ℕ) (site : Site) (ds zs is : List DeclaredLocal) (v : Vec Stmt Global) (xs : List Stmt) (l c : ℕ) (s : Stmt)
      → s ≡ Block site ds v l c → zs ≡ ds → is ≡ ds → xs ≡ v.items → k ≡ length ds → m ≡ n + k
      → c1 ≡ old ++ zeros_code zs → c2 ≡ c1 ++ inits_code p f (length c1) is → c3 ≡ c2 ++ stmts_code p f r m (length c2) xs → c4 ≡ c3 ++ Leave n ∷ []
      → c4 ≡ old ++ stmt_code p f r n (length old) s
  block_done old c1 c2 c3 c4 r n m k site ds zs is v xs l c s same ez ei ex ek em e1 e2 e3 e4 =
      let z = zeros_code ds in
      let at = length old in
      let q1 : c1 ≡ old ++ z = e1 ∙ ap (λ x. old ++ zeros_code x) ez in
      let l1 : length c1 ≡ at + length z = ap length q1 ∙ length-append old z in
      let i = inits_code p f (at + length z) ds in
      let q2 : c2 ≡ c1 ++ i = e2 ∙ ap (λ x. c1 ++ inits_code p f (length c1) x) ei ∙ ap (λ x. c1 ++ inits_code p f x ds) l1 in
      let l2 : length c2 ≡ at + length z + length i = omega (arith, ap length q2, length-append c1 i, l1) in
      let m' : m ≡ n + length ds = omega arith in
      let b = stmts_code p f r (n + length ds) (at + length z + length i) v.items in
      let q3 : c3 ≡ c2 ++ b = e3 ∙ ap (λ x. c2 ++ stmts_code p f r m (length c2) x) ex ∙ ap (λ x. c2 ++ stmts_code p f r x (length c2) v.items) m' ∙ ap (λ x. c2 ++ stmts_code p f r (n + length ds) x v.items) l2 in
      let all : c4 ≡ (((old ++ z) ++ i) ++ b) ++ Leave n ∷ [] = e4 ∙ ap (λ x. x ++ Leave n ∷ []) (q3 ∙ ap (λ x. x ++ b) (q2 ∙ ap (λ x. x ++ i) q1)) in
      let flat : (((old ++ z) ++ i) ++ b) ++ Leave n ∷ [] ≡ old ++ (z ++ (i ++ (b ++ Leave n ∷ []))) = simp append_assoc in
      let row = row_of (Block site ds v l c) in
      let body : block_code p f r (n + length ds) (at + length z + length i) row.1 ≡ b = block_stmts p f r (n + length ds) (at + length z + length i) row.1 ∙ ap (λ x. stmts_code p f r (n + length ds) (at + length z + length i) x) (row_of-Block site ds v l c) in
      all ∙ flat ∙ ap (λ x. old ++ (z ++ (i ++ (x ++ Leave n ∷ [])))) (sym body) ∙ ap (λ x. old ++ stmt_code p f r n at x) (sym same)

  pub for_done : (old c1 c2 : List SlotOp) (r : Around) (n : ℕ) (site : Site) (i q t : Option Pointed) (x : _) (b eb : Stmt) (s : Stmt)
      → s ≡ For' site i q t x b → eb ≡ b → c1 ≡ old ++ part_code p f (length old) i → c2 ≡ c1 ++ repeated_code p f n (length c1) true t q eb → c2 ≡ old ++ stmt_code p f r n (length old) s
  for_done old c1 c2 r n site i q t x b eb s same ib e1 e2 =
      then_code old c1 c2 (part_code p f (length old) i) (λ at. repeated_code p f n at true t q b) e1 (e2 ∙ ap (λ z. c1 ++ repeated_code p f n (length c1) true t q z) ib)
      ∙ ap (λ z. old ++ stmt_code p f r n (length old) z) (sym same)

  pub switch_arm : (old c1 c2 : List SlotOp) (r : Around) (n : ℕ) (site : Site) (q : Pointed) (x : _) (b eb : Stmt) (s : Stmt)
      → s ≡ Switch' site q x b → eb ≡ b → c1 ≡ old ++ part_code p f (length old) (Some q) → c2 ≡ c1 ++ switched_code p f r n (length c1) eb → c2 ≡ old ++ stmt_code p f r n (length old) s
  switch_arm old c1 c2 r n site q x b eb s same ib e1 e2 =
      let test = expr_code p f (length old + 1) 0 q.e in
      let long : length old + length (part_code p f (length old) (Some q)) ≡ length old + 1 + length test = omega arith in
      then_code old c1 c2 (part_code p f (length old) (Some q)) (λ at. switched_code p f r n at b) e1 (e2 ∙ ap (λ z. c1 ++ switched_code p f r n (length c1) z) ib)
      ∙ ap (λ k. old ++ Stop q.point ∷ (test ++ switched_code p f r n k b)) long
      ∙ ap (λ z. old ++ stmt_code p f r n (length old) z) (sym same)

  pub return_done : (old c1 c2 c3 c4 : List SlotOp) (r : Around) (n q : ℕ) (site : Site) (o : Option Typed) (e : Typed) (s : Stmt)
      → s ≡ Return site q o → o ≡ Some e → c1 ≡ old ++ Stop q ∷ [] → c2 ≡ c1 ++ expr_code p f (length c1) 0 e → c3 ≡ c2 ++ cast_code 0 (result_type p f) → c4 ≡ c3 ++ Jump end_place ∷ []
      → c4 ≡ old ++ stmt_code p f r n (length old) s
  return_done old c1 c2 c3 c4 r n q site o e s same io e1 e2 e3 e4 =
      let t = cast_code 0 (result_type p f) in
      let two = then_code old c1 c2 (Stop q ∷ []) (λ at. expr_code p f at 0 e) e1 e2 in
      let c = expr_code p f (length old + 1) 0 e in
      let all : c4 ≡ ((old ++ Stop q ∷ c) ++ t) ++ Jump end_place ∷ [] = e4 ∙ ap (λ x. x ++ Jump end_place ∷ []) (e3 ∙ ap (λ x. x ++ t) two) in
      let flat : ((old ++ Stop q ∷ c) ++ t) ++ Jump end_place ∷ [] ≡ old ++ Stop q ∷ (c ++ (t ++ Jump end_place ∷ [])) = simp append_assoc in
      all ∙ flat ∙ ap (λ x. old ++ stmt_code p f r n (length old) x) (sym (same ∙ ap (λ x. Return site q x) io))

  -- ---- `if`

  module _ (old c1 c2 c3 : List SlotOp) (r : Around) (n test over : ℕ) (q : Pointed) (ea : Stmt) (e1 : c1 ≡ old ++ test_code p f (length old) (Some q) 0) (at : test + 1 ≡ length c1) (e2 : c2 ≡ c1 ++ stmt_code p f r n (length c1) ea) (there : over ≡ length c2) (e3 : c3 ≡ c2 ++ Jump 0 ∷ []) where
    abbrev cond : List SlotOp
    cond = expr_code p f (length old + 1) 0 q.e

    abbrev before : List SlotOp
    before = old ++ Stop q.point ∷ cond

    abbrev first : List SlotOp
    first = stmt_code p f r n (length c1) ea

    tested : c1 ≡ before ++ JumpIfZero 0 0 ∷ []
    tested = e1 ∙ sym (append_assoc old (Stop q.point ∷ cond) (JumpIfZero 0 0 ∷ []))

    long_before : length before ≡ length old + 1 + length cond
    long_before = omega (arith, length-append old (Stop q.point ∷ cond))

    test_there : length before ≡ test
    test_there = omega (arith, ap length tested, length-append before (JumpIfZero 0 0 ∷ []), at)

    over_there : test + 1 + length first ≡ over
    over_there = omega (arith, ap length e2, length-append c1 first, at, there)

    start_there : length c1 ≡ length old + 1 + length cond + 1
    start_there = omega (arith, long_before, test_there, at)

    split : c3 ≡ before ++ JumpIfZero 0 0 ∷ (first ++ Jump 0 ∷ [])
    split =
        let flat : ((before ++ JumpIfZero 0 0 ∷ []) ++ first) ++ Jump 0 ∷ [] ≡ before ++ JumpIfZero 0 0 ∷ (first ++ Jump 0 ∷ []) = simp append_assoc in
        e3 ∙ ap (λ c. c ++ Jump 0 ∷ []) (e2 ∙ ap (λ c. c ++ first) tested) ∙ flat

    abbrev whole : List SlotOp → List SlotOp
    whole b = Stop q.point ∷ (cond ++ choice_code (length old + 1 + length cond) 0 (stmt_code p f r n (length old + 1 + length cond + 1) ea) b)

    joined : (c4 b : List SlotOp) → c4 ≡ before ++ choice_code test 0 first b → c4 ≡ old ++ whole b
    joined c4 b e =
        let t : test ≡ length old + 1 + length cond = omega (arith, test_there, long_before) in
        e
        ∙ append_assoc old (Stop q.point ∷ cond) (choice_code test 0 first b)
        ∙ ap (λ k. old ++ Stop q.point ∷ (cond ++ choice_code k 0 first b)) t
        ∙ ap (λ k. old ++ Stop q.point ∷ (cond ++ choice_code (length old + 1 + length cond) 0 (stmt_code p f r n k ea) b)) start_there

    pub if_alone : {A B : Type 0} (res : Result A B) (c4 : List SlotOp)
        → ((before a b : List SlotOp) (x y : SlotOp) → c3 ≡ before ++ x ∷ (a ++ y ∷ b) → length before ≡ test → test + 1 + length a ≡ over → OnOk res (c4 ≡ before ++ choice_code test 0 a b))
        → OnOk res (c4 ≡ old ++ whole [])
    if_alone res c4 done = on_ok res _ _ (λ e. joined c4 [] e) (done before first [] (JumpIfZero 0 0) (Jump 0) split test_there over_there)

    pub if_else : {A B : Type 0} (res : Result A B) (c4 c5 : List SlotOp) (b : Stmt) → c4 ≡ c3 ++ stmt_code p f r n (length c3) b
        → ((before a b : List SlotOp) (x y : SlotOp) → c4 ≡ before ++ x ∷ (a ++ y ∷ b) → length before ≡ test → test + 1 + length a ≡ over → OnOk res (c5 ≡ before ++ choice_code test 0 a b))
        → OnOk res (c5 ≡ old ++ whole (stmt_code p f r n (length old + 1 + length cond + 1 + length (stmt_code p f r n (length old + 1 + length cond + 1) ea) + 1) b))
    if_else res c4 c5 b e4 done =
        let second = stmt_code p f r n (length c3) b in
        let flat : (before ++ JumpIfZero 0 0 ∷ (first ++ Jump 0 ∷ [])) ++ second ≡ before ++ JumpIfZero 0 0 ∷ (first ++ Jump 0 ∷ second) = simp append_assoc in
        let same_first : length first ≡ length (stmt_code p f r n (length old + 1 + length cond + 1) ea) = ap (λ k. length (stmt_code p f r n k ea)) start_there in
        let l3 : length c3 ≡ length old + 1 + length cond + 1 + length (stmt_code p f r n (length old + 1 + length cond + 1) ea) + 1 =
        omega (arith, ap length e3, length-append c2 (Jump 0 ∷ []), ap length e2, length-append c1 first, start_there, same_first) in
        on_ok res _ _ (λ e. joined c5 second e ∙ ap (λ k. old ++ whole (stmt_code p f r n k b)) l3) (done before first second (JumpIfZero 0 0) (Jump 0) (e4 ∙ ap (λ c. c ++ second) split ∙ flat) test_there over_there)

-- ---- the statements of a `switch`

seek_append : (a b : List Target) → seek_code (a ++ b) ≡ seek_code a ++ seek_code b
seek_append [] b = refl
seek_append (l ∷ a) b = ap (λ c. JumpIfEqual 0 l.constant l.place ∷ c) (seek_append a b)

-- `default` among one that was found and others
abbrev pub or_first : Option ℕ → List ℕ → Option ℕ
or_first (Some d) ds = Some d
or_first None ds = first_place ds

or_first_more : (o : Option ℕ) (at : ℕ) (b : Bool) (ds : List ℕ) → or_first (first_default_at o at b) ds ≡ or_first o (if b then at ∷ [] else ds)
or_first_more (Some d) at b ds = refl
or_first_more None at true ds = refl
or_first_more None at false ds = refl

module _ (p : Program) (f : ℕ) (r : Around) (n : ℕ) where
  row_labels : (at : ℕ) {m : _} (row : Row_of-Stmt m) → row_targets p f r n at row ≡ targets_of p f r n at (stmts row)
  row_labels at end_of-Stmt = refl
  row_labels at (more_of-Stmt s rest) = ap (λ l. targets_at at (constants_of s) ++ l) (row_labels (at + length (stmt_code p f r n at s)) rest)

  row_others : (at : ℕ) {m : _} (row : Row_of-Stmt m) → row_defaults p f r n at row ≡ defaults_of p f r n at (stmts row)
  row_others at end_of-Stmt = refl
  row_others at (more_of-Stmt s rest) = ap (λ l. if is_default s then at ∷ [] else l) (row_others (at + length (stmt_code p f r n at s)) rest)

  pub stmts_more : (all c0 c1 : List SlotOp) (body : List Stmt) (i : ℕ) (s : Stmt) → i < length body → s ≡ get_or body i s → c0 ++ stmts_code p f r n (length c0) (drop i body) ≡ all → c1 ≡ c0 ++ stmt_code p f r n (length c0) s → c1 ++ stmts_code p f r n (length c1) (drop (i + 1) body) ≡ all
  stmts_more all c0 c1 body i s lt at is e1 =
      let cs = stmt_code p f r n (length c0) s in
      let rest = drop (suc i) body in
      let there : length c1 ≡ length c0 + length cs = ap length e1 ∙ length-append c0 cs in
      let next : i + 1 ≡ suc i = omega arith in
      let front : drop i body ≡ s ∷ rest = drop-cons body i s lt ∙ ap (λ x. x ∷ rest) (sym at) in
      ap (λ j. c1 ++ stmts_code p f r n (length c1) (drop j body)) next
      ∙ ap (λ m. c1 ++ stmts_code p f r n m rest) there
      ∙ ap (λ c. c ++ stmts_code p f r n (length c0 + length cs) rest) e1
      ∙ append_assoc c0 cs (stmts_code p f r n (length c0 + length cs) rest)
      ∙ ap (λ x. c0 ++ stmts_code p f r n (length c0) x) (sym front)
      ∙ is

  pub labels_more : (all l0 l1 c0 c1 : List SlotOp) (place : ℕ) (body : List Stmt) (i : ℕ) (s : Stmt) → i < length body → s ≡ get_or body i s → place ≡ length c0
      → l0 ++ seek_code (targets_of p f r n (length c0) (drop i body)) ≡ all → l1 ≡ l0 ++ seek_code (targets_at place (constants_of s)) → c1 ≡ c0 ++ stmt_code p f r n (length c0) s
      → l1 ++ seek_code (targets_of p f r n (length c1) (drop (i + 1) body)) ≡ all
  labels_more all l0 l1 c0 c1 place body i s lt at here is el e1 =
      let cs = stmt_code p f r n (length c0) s in
      let rest = drop (suc i) body in
      let there : length c1 ≡ length c0 + length cs = ap length e1 ∙ length-append c0 cs in
      let next : i + 1 ≡ suc i = omega arith in
      let front : drop i body ≡ s ∷ rest = drop-cons body i s lt ∙ ap (λ x. x ∷ rest) (sym at) in
      let mine = targets_at (length c0) (constants_of s) in
      let others = targets_of p f r n (length c0 + length cs) rest in
      ap (λ j. l1 ++ seek_code (targets_of p f r n (length c1) (drop j body))) next
      ∙ ap (λ m. l1 ++ seek_code (targets_of p f r n m rest)) there
      ∙ ap (λ c. c ++ seek_code others) (el ∙ ap (λ m. l0 ++ seek_code (targets_at m (constants_of s))) here)
      ∙ append_assoc l0 (seek_code mine) (seek_code others)
      ∙ ap (λ c. l0 ++ c) (sym (seek_append mine others))
      ∙ ap (λ x. l0 ++ seek_code (targets_of p f r n (length c0) x)) (sym front)
      ∙ is

  pub default_more : (all d0 d1 : Option ℕ) (c0 c1 : List SlotOp) (place : ℕ) (body : List Stmt) (i : ℕ) (s : Stmt) → i < length body → s ≡ get_or body i s → place ≡ length c0
      → or_first d0 (defaults_of p f r n (length c0) (drop i body)) ≡ all → d1 ≡ first_default_at d0 place (is_default s) → c1 ≡ c0 ++ stmt_code p f r n (length c0) s
      → or_first d1 (defaults_of p f r n (length c1) (drop (i + 1) body)) ≡ all
  default_more all d0 d1 c0 c1 place body i s lt at here is ed e1 =
      let cs = stmt_code p f r n (length c0) s in
      let rest = drop (suc i) body in
      let there : length c1 ≡ length c0 + length cs = ap length e1 ∙ length-append c0 cs in
      let next : i + 1 ≡ suc i = omega arith in
      let front : drop i body ≡ s ∷ rest = drop-cons body i s lt ∙ ap (λ x. x ∷ rest) (sym at) in
      let others = defaults_of p f r n (length c0 + length cs) rest in
      ap (λ j. or_first d1 (defaults_of p f r n (length c1) (drop j body))) next
      ∙ ap (λ m. or_first d1 (defaults_of p f r n m rest)) there
      ∙ ap (λ o. or_first o others) (ed ∙ ap (λ m. first_default_at d0 m (is_default s)) here)
      ∙ or_first_more d0 (length c0) (is_default s) others
      ∙ ap (λ x. or_first d0 (defaults_of p f r n (length c0) x)) (sym front)
      ∙ is

  module _ (site : Site) (ds : List DeclaredLocal) (v : Vec Stmt Global) (l c : ℕ) (s : Stmt) (xs : List Stmt) (at : ℕ) (same : s ≡ Block site ds v l c) (ex : xs ≡ v.items) where
    pub body_same : stmts_code p f r n at xs ≡ body_code p f r n at s
    body_same =
        let row = row_of (Block site ds v l c) in
        ap (stmts_code p f r n at) (ex ∙ sym (row_of-Block site ds v l c)) ∙ sym (block_stmts p f r n at row.1) ∙ ap (body_code p f r n at) (sym same)

    pub targets_same : targets_of p f r n at xs ≡ body_targets p f r n at s
    targets_same =
        let row = row_of (Block site ds v l c) in
        ap (targets_of p f r n at) (ex ∙ sym (row_of-Block site ds v l c)) ∙ sym (row_labels at row.1) ∙ ap (body_targets p f r n at) (sym same)

    pub defaults_same : defaults_of p f r n at xs ≡ body_defaults p f r n at s
    defaults_same =
        let row = row_of (Block site ds v l c) in
        ap (defaults_of p f r n at) (ex ∙ sym (row_of-Block site ds v l c)) ∙ sym (row_others at row.1) ∙ ap (body_defaults p f r n at) (sym same)

-- ---- functions

module _ (p : Program) (f : ℕ) where
  pub whole_done : (old c1 c2 c3 c4 c5 : List SlotOp) (n : ℕ) (fn : Function) (ds : List DeclaredLocal) (r : Around) (xs : List Stmt) → ds ≡ declared_in fn.body → r ≡ nowhere → xs ≡ statements_in fn.body
      → c1 ≡ old ++ zeros_code ds → c2 ≡ c1 ++ inits_code p f (length c1) ds → c3 ≡ c2 ++ stmts_code p f r n (length c2) xs → c4 ≡ c3 ++ zero_code fn.result ∷ [] → c5 ≡ c4 ++ Jump end_place ∷ []
      → c5 ≡ old ++ whole_body p f n (length old) fn
  whole_done old c1 c2 c3 c4 c5 n fn ds r xs ed er ex e1 e2 e3 e4 e5 =
      let d = declared_in fn.body in
      let z = zeros_code d in
      let at = length old in
      let q1 : c1 ≡ old ++ z = e1 ∙ ap (λ x. old ++ zeros_code x) ed in
      let l1 : length c1 ≡ at + length z = ap length q1 ∙ length-append old z in
      let i = inits_code p f (at + length z) d in
      let q2 : c2 ≡ c1 ++ i = e2 ∙ ap (λ x. c1 ++ inits_code p f (length c1) x) ed ∙ ap (λ x. c1 ++ inits_code p f x d) l1 in
      let l2 : length c2 ≡ at + length z + length i = omega (arith, ap length q2, length-append c1 i, l1) in
      let b = stmts_code p f nowhere n (at + length z + length i) (statements_in fn.body) in
      let q3 : c3 ≡ c2 ++ b = e3 ∙ ap (λ x. c2 ++ stmts_code p f x n (length c2) xs) er ∙ ap (λ x. c2 ++ stmts_code p f nowhere n (length c2) x) ex ∙ ap (λ x. c2 ++ stmts_code p f nowhere n x (statements_in fn.body)) l2 in
      let last = zero_code fn.result in
      let all : c5 ≡ ((((old ++ z) ++ i) ++ b) ++ last ∷ []) ++ Jump end_place ∷ [] = e5 ∙ ap (λ x. x ++ Jump end_place ∷ []) (e4 ∙ ap (λ x. x ++ last ∷ []) (q3 ∙ ap (λ x. x ++ b) (q2 ∙ ap (λ x. x ++ i) q1))) in
      let flat : ((((old ++ z) ++ i) ++ b) ++ last ∷ []) ++ Jump end_place ∷ [] ≡ old ++ (z ++ (i ++ (b ++ last ∷ Jump end_place ∷ []))) = simp append_assoc in
      all ∙ flat

  pub function_done : (c0 c1 c2 : List SlotOp) (n : ℕ) (fn : Function) → n ≡ outermost_of fn → c0 ≡ []
      → c1 ≡ c0 ++ Stop (first_of fn.points) ∷ Jump body_place ∷ Leave n ∷ Stop (last_of fn.points) ∷ ReturnOp 0 ∷ [] → c2 ≡ c1 ++ whole_body p f n (length c1) fn → c2 ≡ function_code p f fn
  function_done c0 c1 c2 n fn en e0 e1' e2 =
      let frame = λ (m : ℕ). Stop (first_of fn.points) ∷ Jump body_place ∷ Leave m ∷ Stop (last_of fn.points) ∷ ReturnOp 0 ∷ [] in
      let e1 : c1 ≡ frame n = e1' ∙ ap (λ x. x ++ frame n) e0 in
      let five : length c1 ≡ body_place = ap length e1 in
      e2 ∙ ap (λ k. c1 ++ whole_body p f n k fn) five ∙ ap (λ c. c ++ whole_body p f n body_place fn) e1 ∙ ap (λ m. frame m ++ whole_body p f m body_place fn) en

pub statements_same : (site : Site) (ds : List DeclaredLocal) (v : Vec Stmt Global) (l c : ℕ) (s : Stmt) (xs : List Stmt) → s ≡ Block site ds v l c → xs ≡ v.items → xs ≡ statements_in s
statements_same site ds v l c s xs same ex = ex ∙ sym (row_of-Block site ds v l c) ∙ ap statements_in (sym same)

-- the last of some points, or another
abbrev pub last_or : ℕ → List ℕ → ℕ
last_or x [] = x
last_or x (q ∷ qs) = last_or q qs

last_same : (q : ℕ) (qs : List ℕ) → last_or q qs ≡ last_of (q ∷ qs)
last_same q [] = refl
last_same q (r ∷ qs) = last_same r qs

pub last_found : (qs : List ℕ) → last_or 0 qs ≡ last_of qs
last_found [] = refl
last_found (q ∷ qs) = last_same q qs

pub last_more : (all x y : ℕ) (qs : List ℕ) (i : ℕ) → i < length qs → y ≡ get_or qs i 0 → last_or x (drop i qs) ≡ all → last_or y (drop (i + 1) qs) ≡ all
last_more all x y qs i lt at is =
    let next : i + 1 ≡ suc i = omega arith in
    let front : drop i qs ≡ get_or qs i 0 ∷ drop (suc i) qs = drop-cons qs i 0 lt in
    ap (λ j. last_or y (drop j qs)) next ∙ ap (λ k. last_or k (drop (suc i) qs)) at ∙ ap (last_or x) (sym front) ∙ is

pub registers_there : (p : Program) (f : ℕ) (fn : Function) (ls : List Local) (xs rs : List (Option ℕ)) → slice_get p.functions f ≡ Some fn → ls ≡ fn.locals → xs ≡ registers_from ls 0 → rs ≡ xs → rs ≡ registers_of p f
registers_there p f fn ls xs rs e el ex er = er ∙ ex ∙ ap (λ l. registers_from l 0) el ∙ ap (λ o. registers_from (locals_in o) 0) (sym e)

-- ---- `if` in a tree

module _ (p : Program) (f : ℕ) (r : Around) (n at : ℕ) (site : Site) (q : Pointed) (a : Box Stmt Global) (o : Option (Box Stmt Global)) (s ea : Stmt) (same : s ≡ If site q a o) (ia : ea ≡ a.value) where
  pub alone_code : o ≡ None → stmt_code p f r n at s
      ≡ (Stop q.point ∷ (expr_code p f (at + 1) 0 q.e ++ choice_code (at + 1 + length (expr_code p f (at + 1) 0 q.e)) 0 (stmt_code p f r n (at + 1 + length (expr_code p f (at + 1) 0 q.e) + 1) ea) []))
  alone_code none =
      let cond = expr_code p f (at + 1) 0 q.e in
      let start = at + 1 + length cond in
      ap (stmt_code p f r n at) (same ∙ ap (λ x. If site q a x) none) ∙ ap (λ x. Stop q.point ∷ (cond ++ choice_code start 0 (stmt_code p f r n (start + 1) x) [])) (sym ia)

  pub else_code_of : (b : Box Stmt Global) (eb : Stmt) → o ≡ Some b → eb ≡ b.value → stmt_code p f r n at s
      ≡ (Stop q.point ∷ (expr_code p f (at + 1) 0 q.e ++ choice_code (at + 1 + length (expr_code p f (at + 1) 0 q.e)) 0 (stmt_code p f r n (at + 1 + length (expr_code p f (at + 1) 0 q.e) + 1) ea)
      (stmt_code p f r n (at + 1 + length (expr_code p f (at + 1) 0 q.e) + 1 + length (stmt_code p f r n (at + 1 + length (expr_code p f (at + 1) 0 q.e) + 1) ea) + 1) eb)))
  else_code_of b eb some ib =
      let cond = expr_code p f (at + 1) 0 q.e in
      let start = at + 1 + length cond in
      let whole = λ (x y : Stmt). Stop q.point ∷ (cond ++ choice_code start 0 (stmt_code p f r n (start + 1) x) (stmt_code p f r n (start + 1 + length (stmt_code p f r n (start + 1) x) + 1) y)) in
      ap (stmt_code p f r n at) (same ∙ ap (λ x. If site q a x) some) ∙ ap (λ x. whole x b.value) (sym ia) ∙ ap (λ y. whole ea y) (sym ib)

pub some_map : {A B : Type 0} (g : A → B) (o : Option A) → is_some o ≡ is_some (option_map g o)
some_map g None = refl
some_map g (Some x) = refl

pub if_ok : {A E : Type 0} (r : Result A E) (P Q : A → Type 0) → ((x : A) → P x → Q x) → IfOk r P → IfOk r Q
if_ok (Ok x) P Q g h = g x h
if_ok (Err e) P Q g h = tt

-- ---- the same where there was memory

module _ {A B : Type 0} (res : Result A B) (p : Program) (f : ℕ) (r : Around) (n : ℕ) (old new : List SlotOp) where
  module _ (at : ℕ) (site : Site) (ds : List DeclaredLocal) (v : Vec Stmt Global) (l c : ℕ) (s : Stmt) (xs : List Stmt) (same : s ≡ Block site ds v l c) (ex : xs ≡ v.items) where
    pub body_ok : OnOk res (new ≡ old ++ stmts_code p f r n at xs) → OnOk res (new ≡ old ++ body_code p f r n at s)
    body_ok h =
        on_ok res (new ≡ old ++ stmts_code p f r n at xs) (new ≡ old ++ body_code p f r n at s) (λ e. e ∙ ap (λ x. old ++ x) (body_same p f r n site ds v l c s xs at same ex)) h

    pub targets_ok : OnOk res (new ≡ old ++ seek_code (targets_of p f r n at xs)) → OnOk res (new ≡ old ++ seek_code (body_targets p f r n at s))
    targets_ok h =
        on_ok res (new ≡ old ++ seek_code (targets_of p f r n at xs)) (new ≡ old ++ seek_code (body_targets p f r n at s)) (λ e. e ∙ ap (λ x. old ++ seek_code x) (targets_same p f r n site ds v l c s xs at same ex)) h

  pub block_ok : (c1 c2 c3 : List SlotOp) (m k : ℕ) (site : Site) (ds zs is : List DeclaredLocal) (v : Vec Stmt Global) (xs : List Stmt) (l c : ℕ) (s : Stmt)
      → s ≡ Block site ds v l c → zs ≡ ds → is ≡ ds → xs ≡ v.items → k ≡ length ds → m ≡ n + k
      → c1 ≡ old ++ zeros_code zs → c2 ≡ c1 ++ inits_code p f (length c1) is → c3 ≡ c2 ++ stmts_code p f r m (length c2) xs → OnOk res (new ≡ c3 ++ Leave n ∷ [])
      → OnOk res (new ≡ old ++ stmt_code p f r n (length old) s)
  block_ok c1 c2 c3 m k site ds zs is v xs l c s same ez ei ex ek em e1 e2 e3 h =
      on_ok res (new ≡ c3 ++ Leave n ∷ []) (new ≡ old ++ stmt_code p f r n (length old) s) (λ e. block_done p f old c1 c2 c3 new r n m k site ds zs is v xs l c s same ez ei ex ek em e1 e2 e3 e) h

  pub switch_ok : (c1 : List SlotOp) (site : Site) (q : Pointed) (x : _) (b eb : Stmt) (s : Stmt) → s ≡ Switch' site q x b → eb ≡ b → c1 ≡ old ++ part_code p f (length old) (Some q) → OnOk res (new ≡ c1 ++ switched_code p f r n (length c1) eb)
      → OnOk res (new ≡ old ++ stmt_code p f r n (length old) s)
  switch_ok c1 site q x b eb s same ib e1 h =
      on_ok res (new ≡ c1 ++ switched_code p f r n (length c1) eb) (new ≡ old ++ stmt_code p f r n (length old) s) (λ e. switch_arm p f old c1 new r n site q x b eb s same ib e1 e) h

  module _ (c1 c2 c3 : List SlotOp) (test over : ℕ) (site : Site) (q : Pointed) (a : Box Stmt Global) (o : Option (Box Stmt Global)) (s ea : Stmt) (same : s ≡ If site q a o) (ia : ea ≡ a.value)
      (e1 : c1 ≡ old ++ test_code p f (length old) (Some q) 0) (there : test + 1 ≡ length c1) (e2 : c2 ≡ c1 ++ stmt_code p f r n (length c1) ea) (over_at : over ≡ length c2) (e3 : c3 ≡ c2 ++ Jump 0 ∷ []) where
    pub alone_ok : o ≡ None
        → ((before a b : List SlotOp) (x y : SlotOp) → c3 ≡ before ++ x ∷ (a ++ y ∷ b) → length before ≡ test → test + 1 + length a ≡ over → OnOk res (new ≡ before ++ choice_code test 0 a b))
        → OnOk res (new ≡ old ++ stmt_code p f r n (length old) s)
    alone_ok none done =
        on_ok res
        (new ≡ old ++ Stop q.point ∷ (expr_code p f (length old + 1) 0 q.e ++ choice_code (length old + 1 + length (expr_code p f (length old + 1) 0 q.e)) 0 (stmt_code p f r n (length old + 1 + length (expr_code p f (length old + 1) 0 q.e) + 1) ea) []))
        (new ≡ old ++ stmt_code p f r n (length old) s)
        (λ e. e ∙ ap (λ x. old ++ x) (sym (alone_code p f r n (length old) site q a o s ea same ia none)))
        (if_alone p f old c1 c2 c3 r n test over q ea e1 there e2 over_at e3 res new done)

    pub else_ok : (c4 : List SlotOp) (b : Box Stmt Global) (eb : Stmt) → o ≡ Some b → eb ≡ b.value → c4 ≡ c3 ++ stmt_code p f r n (length c3) eb
        → ((before a b : List SlotOp) (x y : SlotOp) → c4 ≡ before ++ x ∷ (a ++ y ∷ b) → length before ≡ test → test + 1 + length a ≡ over → OnOk res (new ≡ before ++ choice_code test 0 a b))
        → OnOk res (new ≡ old ++ stmt_code p f r n (length old) s)
    else_ok c4 b eb some ib e4 done =
        on_ok res
        (new ≡ old ++ Stop q.point ∷ (expr_code p f (length old + 1) 0 q.e ++ choice_code (length old + 1 + length (expr_code p f (length old + 1) 0 q.e)) 0 (stmt_code p f r n (length old + 1 + length (expr_code p f (length old + 1) 0 q.e) + 1) ea)
        (stmt_code p f r n (length old + 1 + length (expr_code p f (length old + 1) 0 q.e) + 1 + length (stmt_code p f r n (length old + 1 + length (expr_code p f (length old + 1) 0 q.e) + 1) ea) + 1) eb)))
        (new ≡ old ++ stmt_code p f r n (length old) s)
        (λ e. e ∙ ap (λ x. old ++ x) (sym (else_code_of p f r n (length old) site q a o s ea same ia b eb some ib)))
        (if_else p f old c1 c2 c3 r n test over q ea e1 there e2 over_at e3 res c4 new eb e4 done)

pub default_ok : {B : Type 0} (res : Result (Option ℕ) B) (p : Program) (f : ℕ) (r : Around) (n at : ℕ) (site : Site) (ds : List DeclaredLocal) (v : Vec Stmt Global) (l c : ℕ) (s : Stmt) (xs : List Stmt) → s ≡ Block site ds v l c → xs ≡ v.items
    → IfOk res (λ o. o ≡ first_place (defaults_of p f r n at xs)) → IfOk res (λ o. o ≡ first_place (body_defaults p f r n at s))
default_ok res p f r n at site ds v l c s xs same ex h =
    if_ok res (λ o. o ≡ first_place (defaults_of p f r n at xs)) (λ o. o ≡ first_place (body_defaults p f r n at s)) (λ o e. e ∙ ap first_place (defaults_same p f r n site ds v l c s xs at same ex)) h

pub whole_ok : {A B : Type 0} (res : Result A B) (p : Program) (f : ℕ) (old c1 c2 c3 c4 c5 : List SlotOp) (n : ℕ) (fn : Function) (ds : List DeclaredLocal) (r : Around) (xs : List Stmt) → ds ≡ declared_in fn.body → r ≡ nowhere → xs ≡ statements_in fn.body
    → c1 ≡ old ++ zeros_code ds → c2 ≡ c1 ++ inits_code p f (length c1) ds → c3 ≡ c2 ++ stmts_code p f r n (length c2) xs → c4 ≡ c3 ++ zero_code fn.result ∷ [] → OnOk res (c5 ≡ c4 ++ Jump end_place ∷ [])
    → OnOk res (c5 ≡ old ++ whole_body p f n (length old) fn)
whole_ok res p f old c1 c2 c3 c4 c5 n fn ds r xs ed er ex e1 e2 e3 e4 h =
    on_ok res (c5 ≡ c4 ++ Jump end_place ∷ []) (c5 ≡ old ++ whole_body p f n (length old) fn) (λ e. whole_done p f old c1 c2 c3 c4 c5 n fn ds r xs ed er ex e1 e2 e3 e4 e) h
