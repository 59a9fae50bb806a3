-- The code of blocks, loops and `switch`es follows what remains to be done of them.
use Rattle.std.proofs.Common.{◌≡◌, ℕ, suc, ◌+◌, List, [], ◌∷◌, ◌++◌, length, Option, Some, None, Bool, true, false, refl, sym, ap, ◌∙◌, subst, arith, length-append, append_assoc, inl, inr}
use Rattle.std.specs.Prelude.{slice_get, if◌then◌else◌}
use Rattle.c_tree.specs.declared.typed.Pointed.{Pointed}
use Rattle.c_tree.specs.declared.typed.DeclaredLocal.{DeclaredLocal}
use Rattle.c_tree.specs.declared.typed.Stmt.{Stmt}
use Rattle.c_tree.specs.declared.typed.Stmt.TheVariants.{Case', Default'}
use Rattle.c_tree.specs.declared.rows.Program.{Program}
use Rattle.c_source.specs.Blocks.{local_type}
use Rattle.c_source.specs.Control.{Item, Eval, Bound, Store, Discard, Run, Stop, Again, Switched, Label, Round, init_of, inits_of, part_of, test_of, labels_in, labels_of, default_in, broken, continued}
use Rattle.slot_ir.specs.declared.code.SlotOp.{SlotOp}
use Rattle.slot_ir.specs.declared.code.SlotOp.TheVariants as op
use Rattle.slot_gen.specs.Expressions.{expr_code, write_at, unless_register, register_of, if_register}
use Rattle.slot_gen.specs.Statements.{Around, Target, stmt_code, stmts_code, zeros_code, part_code, init_code, inits_code, test_code, loop_test, in_loop, targets_of, defaults_of, targets_at, constants_of, is_default, seek_code, first_target}
use Rattle.slot_gen.proofs.Follow.{HasAt, has_front, has_back, Goes, InReg, Follows, Loops, RunsAt, Seeks, IsLoop, step_in, test_in, body_in, tests_first, body_at, loop_of, split, after_one, follows_at, where_of, write_follows}

pub length-zeros : (ds : List DeclaredLocal) → length (zeros_code ds) ≡ length ds
length-zeros [] = refl
length-zeros (d ∷ ds) = ap suc (length-zeros ds)

pub length-seeks : (ls : List Target) → length (seek_code ls) ≡ length ls
length-seeks [] = refl
length-seeks (l ∷ ls) = ap suc (length-seeks ls)

plus_none : (n : ℕ) → n + 0 ≡ n
plus_none n = omega arith

module _ (p : Program) (f : ℕ) (code : List SlotOp) where
  -- ---- parts, tests and initializers

  pub part_goes : (r : Around) (n : ℕ) (q : Pointed) (pc m : ℕ) (k : List Item) → HasAt code pc (part_code p f pc (Some q)) → Goes code (pc + 1 + length (expr_code p f (pc + 1) 0 q.e)) m → Follows p f code r n m [] k
      → Follows p f code r n pc [] (Stop q.point ∷ Eval q.e ∷ Discard ∷ k)
  part_goes r n q pc m k has to h = (has.0, (has.1, (m, to, h)))

  pub part_follows : (r : Around) (n : ℕ) (o : Option Pointed) (pc : ℕ) (k : List Item) → HasAt code pc (part_code p f pc o) → Follows p f code r n (pc + length (part_code p f pc o)) [] k → Follows p f code r n pc [] (part_of o ++ k)
  part_follows r n None pc k has h = follows_at p f code r n (pc + 0) pc [] k (omega arith) h
  part_follows r n (Some q) pc k has h =
      let len : pc + length (part_code p f pc (Some q)) ≡ pc + 1 + length (expr_code p f (pc + 1) 0 q.e) = omega arith in
      part_goes r n q pc (pc + 1 + length (expr_code p f (pc + 1) 0 q.e)) k has (inl refl) (follows_at p f code r n _ _ [] k len h)

  pub length-test : (at : ℕ) (q : Option Pointed) (a b : ℕ) → length (test_code p f at q a) ≡ length (test_code p f at q b)
  length-test at None a b = refl
  length-test at (Some q) a b = omega (arith, length-append (expr_code p f (at + 1) 0 q.e) (op.JumpIfZero 0 a ∷ []), length-append (expr_code p f (at + 1) 0 q.e) (op.JumpIfZero 0 b ∷ []))

  -- an initializer
  bound_follows : (r : Around) (n x : ℕ) (o : Option ℕ) (pc : ℕ) (k : List Item) → (o' : Option ℕ) → if_register x o' ≡ o → HasAt code pc (unless_register o (op.LocalAddress 0 x ∷ [])) → Follows p f code r n (pc + length (unless_register o (op.LocalAddress 0 x ∷ []))) (where_of o ∷ []) k → Follows p f code r n pc [] (Bound x ∷ k)
  bound_follows r n x o pc k None e has h =
      let q : o ≡ None = sym e in
      let s = subst (λ o. HasAt code pc (unless_register o (op.LocalAddress 0 x ∷ []))) q has in
      let t = subst (λ o. Follows p f code r n (pc + length (unless_register o (op.LocalAddress 0 x ∷ []))) (where_of o ∷ []) k) q h in
      inl (s.0, t)
  bound_follows r n x o pc k (Some y) e has h =
      let q : o ≡ Some x = sym e in
      let t = subst (λ o. Follows p f code r n (pc + length (unless_register o (op.LocalAddress 0 x ∷ []))) (where_of o ∷ []) k) q h in
      inr (follows_at p f code r n (pc + 0) pc (InReg x ∷ []) k (omega arith) t)

  init_follows : (r : Around) (n x : ℕ) (o : Option Pointed) (pc : ℕ) (k : List Item) → HasAt code pc (init_code p f pc x o) → Follows p f code r n (pc + length (init_code p f pc x o)) [] k → Follows p f code r n pc [] (init_of p f x o ++ k)
  init_follows r n x None pc k has h = follows_at p f code r n (pc + 0) pc [] k (omega arith) h
  init_follows r n x (Some q) pc k has h =
      let o = if_register x (register_of p f x) in
      let place = unless_register o (op.LocalAddress 0 x ∷ []) in
      let start = pc + 1 + length place in
      let ce = expr_code p f start 1 q.e in
      let last = write_at p f 0 o (local_type p f x) in
      let a = after_one p f code r n (op.Stop q.point) (place ++ (ce ++ last)) pc [] k has h in
      let b = split p f code r n place (ce ++ last) (pc + 1) [] k a.1.0 a.1.1 in
      let c = split p f code r n ce last start [] k b.1.0 b.1.1 in
      let end = start + length ce + length last in
      (a.0, bound_follows r n x o (pc + 1) (Eval q.e ∷ Store (local_type p f x) ∷ Discard ∷ k) (register_of p f x) refl b.0 (c.0, write_follows p f code r n (local_type p f x) o (start + length ce) [] (Discard ∷ k) c.1.0 (end, inl refl, c.1.1)))

  pub inits_follow : (r : Around) (n : ℕ) (ds : List DeclaredLocal) (pc : ℕ) (k : List Item) → HasAt code pc (inits_code p f pc ds) → Follows p f code r n (pc + length (inits_code p f pc ds)) [] k → Follows p f code r n pc [] (inits_of p f ds ++ k)
  inits_follow r n [] pc k has h = follows_at p f code r n (pc + 0) pc [] k (omega arith) h
  inits_follow r n (d ∷ ds) pc k has h =
      let ci = init_code p f pc d.local d.init in
      let u = split p f code r n ci (inits_code p f (pc + length ci) ds) pc [] k has h in
      subst (Follows p f code r n pc []) (sym (append_assoc (init_of p f d.local d.init) (inits_of p f ds) k))
      (init_follows r n d.local d.init pc (inits_of p f ds ++ k) u.0 (inits_follow r n ds (pc + length ci) k u.1.0 u.1.1))

  loops_init : (r : Around) (x : ℕ) (o : Option Pointed) (k : List Item) → Loops p f code r k → Loops p f code r (init_of p f x o ++ k)
  loops_init r x None k l = l
  loops_init r x (Some q) k l = l

  pub loops_inits : (r : Around) (ds : List DeclaredLocal) (k : List Item) → Loops p f code r k → Loops p f code r (inits_of p f ds ++ k)
  loops_inits r [] k l = l
  loops_inits r (d ∷ ds) k l =
      subst (Loops p f code r) (sym (append_assoc (init_of p f d.local d.init) (inits_of p f ds) k)) (loops_init r d.local d.init (inits_of p f ds ++ k) (loops_inits r ds k l))

  pub loops_part : (r : Around) (o : Option Pointed) (k : List Item) → Loops p f code r k → Loops p f code r (part_of o ++ k)
  loops_part r None k l = l
  loops_part r (Some q) k l = l

  -- ---- what remains, inside the loops that it is in
  pub record Stands (n pc : ℕ) (k : List Item) : Type 0 where
    pub around : Around
    pub loops : Loops p f code around k
    pub follows : Follows p f code around n pc [] k

  pub stands_at : (n i j : ℕ) (k : List Item) → i ≡ j → Stands n i k → Stands n j k
  stands_at n i j k e s = record { around = s.around; loops = s.loops; follows = follows_at p f code s.around n i j [] k e s.follows }

  -- the parts of a loop's code
  pub record Parts (start n : ℕ) (s : Stmt) : Type 0 where
    pub enters : slice_get code start ≡ Some (op.Jump (if tests_first s then loop_test p f start (step_in s) else body_at p f code start s))
    pub leaves : slice_get code (start + 1) ≡ Some (op.Jump (start + length (loop_of p f code start n s)))
    pub step : HasAt code (start + 2) (part_code p f (start + 2) (step_in s))
    pub test : HasAt code (loop_test p f start (step_in s)) (test_code p f (loop_test p f start (step_in s)) (test_in s) (start + length (loop_of p f code start n s)))
    pub body : HasAt code (body_at p f code start s) (stmt_code p f (in_loop start n) n (body_at p f code start s) (body_in s))
    pub turns : slice_get code (body_at p f code start s + length (stmt_code p f (in_loop start n) n (body_at p f code start s) (body_in s))) ≡ Some (op.Jump (start + 2))

  pub parts : (start n : ℕ) (s : Stmt) → HasAt code start (loop_of p f code start n s) → Parts start n s
  parts start n s has =
      let S = part_code p f (start + 2) (step_in s) in
      let t = loop_test p f start (step_in s) in
      let b = body_at p f code start s in
      let B = stmt_code p f (in_loop start n) n b (body_in s) in
      let end = b + length B + 1 in
      let T = test_code p f t (test_in s) end in
      let back = op.Jump (start + 2) ∷ [] in
      let two : start + 1 + 1 ≡ start + 2 = omega arith in
      let rest = subst (λ i. HasAt code i (S ++ (T ++ (B ++ back)))) two has.1.1 in
      let after_step = has_back code (start + 2) S (T ++ (B ++ back)) rest in
      let same : t + length T ≡ b = omega (arith, length-test t (test_in s) end 0) in
      let after_test = subst (λ i. HasAt code i (B ++ back)) same (has_back code t T (B ++ back) after_step) in
      let ends : start + length (loop_of p f code start n s) ≡ end = omega (arith, length-test t (test_in s) end 0, length-append S (T ++ (B ++ back)), length-append T (B ++ back), length-append B back) in
      record {
        enters = has.0;
        leaves = has.1.0 ∙ ap (λ i. Some (op.Jump i)) (sym ends);
        step = has_front code (start + 2) S (T ++ (B ++ back)) rest;
        test = subst (λ e. HasAt code t (test_code p f t (test_in s) e)) (sym ends) (has_front code t T (B ++ back) after_step);
        body = has_front code b B back after_test;
        turns = (has_back code b B back after_test).0;
      }

  module _ (start n : ℕ) (s : Stmt) (outer : Around) (k : List Item) (loop : IsLoop s) (has : HasAt code start (loop_of p f code start n s)) (after : Follows p f code outer n (start + length (loop_of p f code start n s)) [] k) (loops : Loops p f code outer k) where
    -- at the beginning of its body
    pub body_stands : Stands n (body_at p f code start s) (Run (body_in s) ∷ Again s n ∷ k)
    body_stands =
        let q = parts start n s has in
        record {
          around = in_loop start n;
          loops = (start, outer, refl, loop, has, after, loops);
          follows = ((omega arith, omega arith), q.body, (refl, q.turns));
        }

    -- at its test, where it has one
    test_stands : (o : Option Pointed) → test_in s ≡ o → Stands n (loop_test p f start (step_in s)) (test_of o (body_in s) s n ++ k)
    test_stands None e =
        let same : body_at p f code start s ≡ loop_test p f start (step_in s) = ap (λ o. loop_test p f start (step_in s) + length (test_code p f (loop_test p f start (step_in s)) o 0)) e ∙ plus_none (loop_test p f start (step_in s)) in
        stands_at n _ _ (Run (body_in s) ∷ Again s n ∷ k) same body_stands
    test_stands (Some q) e =
        let q' = parts start n s has in
        let t = loop_test p f start (step_in s) in
        let end = start + length (loop_of p f code start n s) in
        let ce = expr_code p f (t + 1) 0 q.e in
        let test = subst (λ o. HasAt code t (test_code p f t o end)) e q'.test in
        let len : t + 1 + length ce + 1 ≡ t + length (test_code p f t (Some q) 0) = omega (arith, length-append ce (op.JumpIfZero 0 0 ∷ [])) in
        let b : t + 1 + length ce + 1 ≡ body_at p f code start s = len ∙ ap (λ o. t + length (test_code p f t o 0)) (sym e) in
        record {
          around = outer;
          loops = loops;
          follows = (test.0, (has_front code (t + 1) ce (op.JumpIfZero 0 end ∷ []) test.1, (start, refl, loop, (has_back code (t + 1) ce (op.JumpIfZero 0 end ∷ []) test.1).0, b, has, after)));
        }

    pub tests : Stands n (loop_test p f start (step_in s)) (test_of (test_in s) (body_in s) s n ++ k)
    tests = test_stands (test_in s) refl

    -- at its third part
    steps : (o : Option Pointed) → step_in s ≡ o → Stands n (start + 2) (part_of o ++ (test_of (test_in s) (body_in s) s n ++ k))
    steps None e =
        let same : loop_test p f start (step_in s) ≡ start + 2 = ap (λ o. start + 2 + length (part_code p f (start + 2) o)) e ∙ plus_none (start + 2) in
        stands_at n _ _ (test_of (test_in s) (body_in s) s n ++ k) same tests
    steps (Some q) e =
        let here = subst (λ o. HasAt code (start + 2) (part_code p f (start + 2) o)) e (parts start n s has).step in
        let t = tests in
        let same : loop_test p f start (step_in s) ≡ start + 2 + length (part_code p f (start + 2) (Some q)) = ap (λ o. start + 2 + length (part_code p f (start + 2) o)) e in
        record {
          around = t.around;
          loops = t.loops;
          follows = part_follows t.around n (Some q) (start + 2) (test_of (test_in s) (body_in s) s n ++ k) here (follows_at p f code t.around n _ _ [] _ same t.follows);
        }

    pub goes_on : Stands n (start + 2) (part_of (step_in s) ++ (test_of (test_in s) (body_in s) s n ++ k))
    goes_on = steps (step_in s) refl

  -- ---- out of the innermost loop or `switch`

  pub record Left (r : Around) (out : Round) : Type 0 where
    pub end : ℕ
    pub jumps : slice_get code r.leave ≡ Some (op.Jump end)
    pub scope : r.leave_scope ≡ out.scope
    pub around : Around
    pub follows : Follows p f code around out.scope end [] out.control
    pub loops : Loops p f code around out.control

  pub leaving : (r : Around) (k : List Item) (out : Round) → broken k ≡ Some out → Loops p f code r k → Left r out
  leaving r [] out e l = absurd (cc e)
  leaving r (Again s m ∷ k) out e l =
      let q = parts l.0 m s l.4 in
      subst (Left r) (of_some (record { scope = m; control = k }) out e)
      (record {
        end = l.0 + length (loop_of p f code l.0 m s);
        jumps = subst (λ (r : Around). slice_get code r.leave ≡ Some (op.Jump (l.0 + length (loop_of p f code l.0 m s)))) (sym l.2) q.leaves;
        scope = ap (λ (r : Around). r.leave_scope) l.2;
        around = l.1;
        follows = l.5;
        loops = l.6;
      })
    where
      of_some : (a b : Round) → Some a ≡ Some b → a ≡ b
      of_some a b e = cc e
  leaving r (Switched m ∷ k) out e l =
      subst (Left r) (of_some (record { scope = m; control = k }) out e)
      (record { end = l.0; jumps = l.2; scope = l.3; around = l.1; follows = l.6; loops = l.7 })
    where
      of_some : (a b : Round) → Some a ≡ Some b → a ≡ b
      of_some a b e = cc e
  leaving r (_ ∷ k) out e l = leaving r k out e l

  pub record Turned (r : Around) (out : Round) : Type 0 where
    pub scope : r.again_scope ≡ out.scope
    pub around : Around
    pub again : around.again ≡ r.again
    pub loop : Stmt
    pub scope' : ℕ
    pub rest : List Item
    pub control : out.control ≡ Again loop scope' ∷ rest
    pub same : out.scope ≡ scope'
    pub loops : Loops p f code around (Again loop scope' ∷ rest)

  pub turning : (r : Around) (k : List Item) (out : Round) → continued k ≡ Some out → Loops p f code r k → Turned r out
  turning r [] out e l = absurd (cc e)
  turning r (Again s m ∷ k) out e l =
      subst (Turned r) (of_some (record { scope = m; control = Again s m ∷ k }) out e)
      (record { scope = ap (λ (r : Around). r.again_scope) l.2; around = r; again = refl; loop = s; scope' = m; rest = k; control = refl; same = refl; loops = l })
    where
      of_some : (a b : Round) → Some a ≡ Some b → a ≡ b
      of_some a b e = cc e
  turning r (Switched m ∷ k) out e l =
      let t = turning l.1 k out e l.7 in
      record { scope = l.5 ∙ t.scope; around = t.around; again = t.again ∙ sym l.4; loop = t.loop; scope' = t.scope'; rest = t.rest; control = t.control; same = t.same; loops = t.loops }
  turning r (_ ∷ k) out e l = turning r k out e l

  -- ---- the statements of a `switch`, from each label on

  module _ (r : Around) (n end : ℕ) where
    -- statements that end before a jump past the end
    labels_seek : (s : Stmt) (from : List Stmt) (place pc : ℕ) (ls : List Label) (default : List Stmt) → RunsAt p f code r n end place from
        → HasAt code pc (seek_code (targets_at place (constants_of s))) → Seeks p f code r n end (pc + length (constants_of s)) ls default
        → Seeks p f code r n end pc (labels_of s from ++ ls) default
    labels_seek (Case' x c y s) from place pc ls default a has rest =
        let e : pc + length (constants_of (Case' x c y s)) ≡ pc + 1 + length (constants_of s) = omega arith in
        (place, has.0, a, labels_seek s from place (pc + 1) ls default a has.1 (subst (λ i. Seeks p f code r n end i ls default) e rest))
    labels_seek (Default' x y s) from place pc ls default a has rest = labels_seek s from place pc ls default a has rest
    labels_seek s from place pc ls default a has rest = subst (λ i. Seeks p f code r n end i ls default) (stays pc) rest
      where
        stays : (i : ℕ) → i + 0 ≡ i
        stays i = omega arith

    length-targets : (place : ℕ) (cs : List ℕ) → length (targets_at place cs) ≡ length cs
    length-targets place [] = refl
    length-targets place (c ∷ cs) = ap suc (length-targets place cs)

    seeks_append : (a b : List Target) → seek_code (a ++ b) ≡ seek_code a ++ seek_code b
    seeks_append [] b = refl
    seeks_append (l ∷ a) b = ap (λ is. op.JumpIfEqual 0 l.constant l.place ∷ is) (seeks_append a b)

    -- the labels of statements, where those behind them are found
    pub labels_follow : (ss : List Stmt) (place pc : ℕ) (last : List SlotOp) (default : List Stmt) → RunsAt p f code r n end place ss
        → HasAt code pc (seek_code (targets_of p f r n place ss) ++ last)
        → ((i : ℕ) → HasAt code i last → Seeks p f code r n end i [] default)
        → Seeks p f code r n end pc (labels_in ss) default
    labels_follow [] place pc last default a has go = go pc has
    labels_follow (s ∷ ss) place pc last default a has go =
        let cs = stmt_code p f r n place s in
        let first = targets_at place (constants_of s) in
        let more = targets_of p f r n (place + length cs) ss in
        let rest_code = stmts_code p f r n (place + length cs) ss in
        let both : seek_code (first ++ more) ++ last ≡ seek_code first ++ (seek_code more ++ last) = ap (λ l. l ++ last) (seeks_append first more) ∙ append_assoc (seek_code first) (seek_code more) last in
        let has' = subst (HasAt code pc) both has in
        let len : pc + length (seek_code first) ≡ pc + length (constants_of s) = omega (arith, length-seeks first, length-targets place (constants_of s)) in
        let len' : place + length (cs ++ rest_code) ≡ place + length cs + length rest_code = omega (arith, length-append cs rest_code) in
        let tail : RunsAt p f code r n end (place + length cs) ss = (has_back code place cs rest_code a.0, subst (λ i. slice_get code i ≡ Some (op.Jump end)) len' a.1) in
        labels_seek s (s ∷ ss) place pc (labels_in ss) default a (has_front code pc (seek_code first) (seek_code more ++ last) has')
        (labels_follow ss (place + length cs) (pc + length (constants_of s)) last default tail (subst (λ i. HasAt code i (seek_code more ++ last)) len (has_back code pc (seek_code first) (seek_code more ++ last) has')) go)

    -- the place of `default`, or of the jump behind the statements
    pub default_follows : (ss : List Stmt) (place over i : ℕ) → RunsAt p f code r n end place ss → over ≡ place + length (stmts_code p f r n place ss) → slice_get code i ≡ Some (op.Jump (first_target over (defaults_of p f r n place ss)))
        → Seeks p f code r n end i [] (default_in ss)
    default_follows [] place over i a e has =
        let over_is : place + 0 ≡ over + 0 = omega (arith, e) in
        (over, has, (tt, subst (λ i. slice_get code i ≡ Some (op.Jump end)) over_is a.1))
    default_follows (s ∷ ss) place over i a e has =
        let cs = stmt_code p f r n place s in
        let rest_code = stmts_code p f r n (place + length cs) ss in
        let len' : place + length (cs ++ rest_code) ≡ place + length cs + length rest_code = omega (arith, length-append cs rest_code) in
        let tail : RunsAt p f code r n end (place + length cs) ss = (has_back code place cs rest_code a.0, subst (λ i. slice_get code i ≡ Some (op.Jump end)) len' a.1) in
        by (is_default s) has (λ h. default_follows ss (place + length cs) over i tail (e ∙ len') h)
      where
        by : (b : Bool) → slice_get code i ≡ Some (op.Jump (first_target over (if b then place ∷ [] else defaults_of p f r n (place + length (stmt_code p f r n place s)) ss)))
            → (slice_get code i ≡ Some (op.Jump (first_target over (defaults_of p f r n (place + length (stmt_code p f r n place s)) ss))) → Seeks p f code r n end i [] (default_in ss))
            → Seeks p f code r n end i [] (if b then s ∷ ss else default_in ss)
        by true has ih = (place, has, a)
        by false has ih = ih has
