-- Loops and `switch`, whose jumps are written at their end.
use Rattle.std.proofs.Common.{◌≡◌, ℕ, suc, ◌+◌, ◌<◌, List, [], ◌∷◌, ◌++◌, length, refl, sym, ap, ◌∙◌, arith, append_assoc, length-append, subst}
use Rattle.std.specs.Prelude.{Option, Some, None, Bool, true, false, is_some, Result, OnOk, if◌then◌else◌}
use Rattle.c_tree.specs.declared.typed.Pointed.{Pointed}
use Rattle.c_tree.specs.declared.typed.Stmt.{Stmt}
use Rattle.c_tree.specs.declared.rows.Program.{Program}
use Rattle.slot_ir.specs.declared.code.SlotOp.{SlotOp}
use Rattle.slot_ir.specs.declared.code.SlotOp.TheVariants.{Jump, JumpIfZero, Stop}
use Rattle.slot_gen.specs.Expressions.{expr_code}
use Rattle.slot_gen.specs.Statements.{Around, Target, seek_code, first_target, switch_code, part_code, test_code, loop_test, loop_body, loop_code, in_loop, stmt_code}
use Rattle.slot_gen.proofs.Emitted.{on_ok}

module _ (p : Program) (f : ℕ) where
  -- the jump of a test, where there is one
  exit_done : (t q : Option Pointed) (at i end inside : ℕ) (tests : Bool) (front body tail c3 c4 : List SlotOp)
      → tests ≡ is_some q
      → length front + length (test_code p f at q 0) ≡ inside
      → c3 ≡ front ++ (test_code p f at q 0 ++ (body ++ tail))
      → (tests ≡ false → c4 ≡ c3)
      → ((before rest : List SlotOp) (x : SlotOp) → tests ≡ true → c3 ≡ before ++ x ∷ rest → length before + 1 ≡ inside → c4 ≡ before ++ JumpIfZero 0 end ∷ rest)
      → c4 ≡ front ++ (test_code p f at q end ++ (body ++ tail))
  exit_done t None at i end inside tests front body tail c3 c4 has long is none some = none has ∙ is
  exit_done t (Some q) at i end inside tests front body tail c3 c4 has long is none some =
      let test = Stop q.point ∷ expr_code p f (at + 1) 0 q.e in
      let j = JumpIfZero 0 0 in
      let k = JumpIfZero 0 end in
      let flat : front ++ ((test ++ j ∷ []) ++ (body ++ tail)) ≡ (front ++ test) ++ j ∷ (body ++ tail) = simp append_assoc in
      let there : length (front ++ test) + 1 ≡ inside = omega (arith, length-append front test, length-append test (j ∷ []), long) in
      let back : (front ++ test) ++ k ∷ (body ++ tail) ≡ front ++ ((test ++ k ∷ []) ++ (body ++ tail)) = simp append_assoc in
      some (front ++ test) (body ++ tail) j has (is ∙ flat) there ∙ back

  pub loop_done : (old c1 c2 c3 c4 before body : List SlotOp) (first tests : Bool) (t q : Option Pointed) (start test inside leave again end entry : ℕ)
      → leave ≡ start + 1 → again ≡ leave + 1 → entry ≡ (if first then test else inside)
      → c1 ≡ old ++ Jump again ∷ [] → end ≡ length c1
      → ((b r : List SlotOp) (x : SlotOp) → c1 ≡ b ++ x ∷ r → length b ≡ start → c2 ≡ b ++ Jump entry ∷ r)
      → ((b r : List SlotOp) (x : SlotOp) → c2 ≡ b ++ x ∷ r → length b ≡ leave → c3 ≡ b ++ Jump end ∷ r)
      → (tests ≡ false → c4 ≡ c3)
      → ((b r : List SlotOp) (x : SlotOp) → tests ≡ true → c3 ≡ b ++ x ∷ r → length b + 1 ≡ inside → c4 ≡ b ++ JumpIfZero 0 end ∷ r)
      → old ≡ before ++ Jump 0 ∷ Jump 0 ∷ (part_code p f (start + 2) t ++ (test_code p f test q 0 ++ body)) → length before ≡ start → test ≡ loop_test p f start t → inside ≡ loop_body p f start t q → tests ≡ is_some q
      → c4 ≡ before ++ loop_code p f start first t q body
  loop_done old c1 c2 c3 c4 before body first tests t q start test inside leave again end entry el ea ee e1 en one two none some is at et ei has =
      let j = Jump 0 in
      let third = part_code p f (start + 2) t in
      let zero_test = test_code p f test q 0 in
      let tail = Jump again ∷ [] in
      let all : c1 ≡ (before ++ j ∷ j ∷ (third ++ (zero_test ++ body))) ++ tail = e1 ∙ ap (λ l. l ++ tail) is in
      let flat : (before ++ j ∷ j ∷ (third ++ (zero_test ++ body))) ++ tail ≡ before ++ j ∷ j ∷ (third ++ (zero_test ++ (body ++ tail))) = simp append_assoc in
      let rest = third ++ (zero_test ++ (body ++ tail)) in
      let s1 : c2 ≡ (before ++ Jump entry ∷ []) ++ j ∷ rest = one before (j ∷ rest) j (all ∙ flat) at ∙ sym (append_assoc before (Jump entry ∷ []) (j ∷ rest)) in
      let l1 : length (before ++ Jump entry ∷ []) ≡ leave = omega (arith, length-append before (Jump entry ∷ [])) in
      let s2 = two (before ++ Jump entry ∷ []) rest j s1 l1 in
      let front = before ++ Jump entry ∷ Jump end ∷ third in
      let flat2 : (before ++ Jump entry ∷ []) ++ Jump end ∷ rest ≡ front ++ (zero_test ++ (body ++ tail)) = simp append_assoc in
      let lf : length front ≡ length before + 2 + length third = omega (arith, length-append before (Jump entry ∷ Jump end ∷ third)) in
      let same_test : length zero_test ≡ length (test_code p f (loop_test p f start t) q 0) = ap (λ k. length (test_code p f k q 0)) et in
      let ins : length front + length zero_test ≡ inside = omega (arith, lf, same_test, et, ei, at) in
      let s3 = exit_done t q test 0 end inside tests front body tail c3 c4 has ins (s2 ∙ flat2) none some in
      let long : length c1 ≡ length before + 2 + (length third + (length zero_test + (length body + 1))) =
      omega (arith, ap length (all ∙ flat), length-append before (j ∷ j ∷ rest), length-append third (zero_test ++ (body ++ tail)), length-append zero_test (body ++ tail), length-append body tail) in
      let end' : end ≡ loop_body p f start t q + length body + 1 = omega (arith, long, en, ins, lf, ei) in
      let entry' : entry ≡ (if first then loop_test p f start t else loop_body p f start t q) = ee ∙ ap (λ k. if first then k else inside) et ∙ ap (λ k. if first then loop_test p f start t else k) ei in
      let again' : again ≡ start + 2 = omega arith in
      let flat3 : front ++ (test_code p f test q end ++ (body ++ tail)) ≡ before ++ Jump entry ∷ Jump end ∷ (third ++ (test_code p f test q end ++ (body ++ tail))) = simp append_assoc in
      let g = λ (en' ent ag te : ℕ). before ++ Jump ent ∷ Jump en' ∷ (third ++ (test_code p f te q en' ++ (body ++ Jump ag ∷ []))) in
      s3 ∙ flat3
      ∙ ap (λ k. g k entry again test) end'
      ∙ ap (λ k. g (loop_body p f start t q + length body + 1) k again test) entry'
      ∙ ap (λ k. g (loop_body p f start t q + length body + 1) (if first then loop_test p f start t else loop_body p f start t q) k test) again'
      ∙ ap (λ k. g (loop_body p f start t q + length body + 1) (if first then loop_test p f start t else loop_body p f start t q) (start + 2) k) et

  -- a loop: its beginning, its body, and its end
  pub loop_arm : {A B : Type 0} (r : Result A B) (old c1 c2 c3 : List SlotOp) (first tests : Bool) (t q : Option Pointed) (start test inside n : ℕ) (around : Around) (s : Stmt)
      → start ≡ length old → test ≡ loop_test p f (length old) t → inside ≡ loop_body p f (length old) t q → tests ≡ is_some q
      → c1 ≡ old ++ Jump 0 ∷ Jump 0 ∷ (part_code p f (length old + 2) t ++ test_code p f (loop_test p f (length old) t) q 0)
      → around ≡ in_loop start n
      → c2 ≡ c1 ++ stmt_code p f around n (length c1) s
      → ((before body : List SlotOp) → c2 ≡ before ++ Jump 0 ∷ Jump 0 ∷ (part_code p f (start + 2) t ++ (test_code p f test q 0 ++ body)) → length before ≡ start → test ≡ loop_test p f start t → inside ≡ loop_body p f start t q → OnOk r (c3 ≡ before ++ loop_code p f start first t q body))
      → OnOk r (c3 ≡ old ++ loop_code p f (length old) first t q (stmt_code p f (in_loop (length old) n) n (loop_body p f (length old) t q) s))
  loop_arm r old c1 c2 c3 first tests t q start test inside n around s es et ei has e1 er e2 done =
      let third = part_code p f (length old + 2) t in
      let zero_test = test_code p f (loop_test p f (length old) t) q 0 in
      let j = Jump 0 in
      let body = stmt_code p f around n (length c1) s in
      let flat : (old ++ j ∷ j ∷ (third ++ zero_test)) ++ body ≡ old ++ j ∷ j ∷ (third ++ (zero_test ++ body)) = simp append_assoc in
      let split : c2 ≡ old ++ j ∷ j ∷ (third ++ (zero_test ++ body)) = e2 ∙ ap (λ l. l ++ body) e1 ∙ flat in
      let split' : c2 ≡ old ++ j ∷ j ∷ (part_code p f (start + 2) t ++ (test_code p f test q 0 ++ body)) =
      split ∙ ap (λ k. old ++ j ∷ j ∷ (part_code p f (k + 2) t ++ (zero_test ++ body))) (sym es) ∙ ap (λ k. old ++ j ∷ j ∷ (part_code p f (start + 2) t ++ (test_code p f k q 0 ++ body))) (sym et) in
      let l1 : length c1 ≡ loop_body p f (length old) t q = omega (arith, ap length e1, length-append old (j ∷ j ∷ (third ++ zero_test)), length-append third zero_test) in
      let b1 : body ≡ stmt_code p f (in_loop (length old) n) n (loop_body p f (length old) t q) s =
      ap (λ z. stmt_code p f z n (length c1) s) (er ∙ ap (λ k. in_loop k n) es) ∙ ap (λ k. stmt_code p f (in_loop (length old) n) n k s) l1 in
      on_ok r (c3 ≡ old ++ loop_code p f start first t q body) _
      (λ g. g ∙ ap (λ k. old ++ loop_code p f k first t q body) es ∙ ap (λ z. old ++ loop_code p f (length old) first t q z) b1)
      (done old body split' (sym es) (et ∙ ap (λ k. loop_test p f k t) (sym es)) (ei ∙ ap (λ k. loop_body p f k t q) (sym es)))

length_seek : (ls : List Target) → length (seek_code ls) ≡ length ls
length_seek [] = refl
length_seek (l ∷ ls) = ap suc (length_seek ls)

pub switch_done : (old c1 c2 c3 c4 c5 c6 before body labels : List SlotOp) (targets : List Target) (places : List ℕ) (start over seek leave end d : ℕ)
    → over ≡ length old → seek ≡ over + 1 → leave ≡ start + 1
    → c1 ≡ old ++ Jump 0 ∷ [] → c2 ≡ c1 ++ labels → c3 ≡ c2 ++ Jump d ∷ [] → end ≡ length c3
    → ((b r : List SlotOp) (x : SlotOp) → c3 ≡ b ++ x ∷ r → length b ≡ start → c4 ≡ b ++ Jump seek ∷ r)
    → ((b r : List SlotOp) (x : SlotOp) → c4 ≡ b ++ x ∷ r → length b ≡ leave → c5 ≡ b ++ Jump end ∷ r)
    → ((b r : List SlotOp) (x : SlotOp) → c5 ≡ b ++ x ∷ r → length b ≡ over → c6 ≡ b ++ Jump end ∷ r)
    → d ≡ first_target over places
    → old ≡ before ++ Jump 0 ∷ Jump 0 ∷ body → length before ≡ start → labels ≡ seek_code targets
    → c6 ≡ before ++ switch_code start body targets places
switch_done old c1 c2 c3 c4 c5 c6 before body labels targets places start over seek leave end d eo es el e1 e2 e3 en one two three ed is at ls =
    let j = Jump 0 in
    let tail = labels ++ Jump d ∷ [] in
    let all : c3 ≡ (((before ++ j ∷ j ∷ body) ++ j ∷ []) ++ labels) ++ Jump d ∷ [] =
    e3 ∙ ap (λ c. c ++ Jump d ∷ []) (e2 ∙ ap (λ c. c ++ labels) (e1 ∙ ap (λ c. c ++ j ∷ []) is)) in
    let flat : (((before ++ j ∷ j ∷ body) ++ j ∷ []) ++ labels) ++ Jump d ∷ [] ≡ before ++ j ∷ j ∷ (body ++ j ∷ tail) = simp append_assoc in
    let long : length c3 ≡ length before + 2 + (length body + (1 + (length labels + 1))) =
    omega (arith, ap length (all ∙ flat), length-append before (j ∷ j ∷ (body ++ j ∷ tail)), length-append body (j ∷ tail), length-append labels (Jump d ∷ [])) in
    let lo : over ≡ start + 2 + length body = omega (arith, ap length is, length-append before (j ∷ j ∷ body)) in
    let s1 = one before (j ∷ (body ++ j ∷ tail)) j (all ∙ flat) at ∙ sym (append_assoc before (Jump seek ∷ []) (j ∷ (body ++ j ∷ tail))) in
    let l1 : length (before ++ Jump seek ∷ []) ≡ leave = omega (arith, length-append before (Jump seek ∷ [])) in
    let s2 = two (before ++ Jump seek ∷ []) (body ++ j ∷ tail) j s1 l1 in
    let front = before ++ Jump seek ∷ Jump end ∷ body in
    let flat2 : (before ++ Jump seek ∷ []) ++ Jump end ∷ (body ++ j ∷ tail) ≡ front ++ j ∷ tail = simp append_assoc in
    let l2 : length front ≡ over = omega (arith, length-append before (Jump seek ∷ Jump end ∷ body)) in
    let s3 = three front tail j (s2 ∙ flat2) l2 in
    let flat3 : front ++ Jump end ∷ tail ≡ before ++ Jump seek ∷ Jump end ∷ (body ++ Jump end ∷ tail) = simp append_assoc in
    let over' = start + 2 + length body in
    let end' : end ≡ over' + 1 + length targets + 1 = omega (arith, long, ap length ls, length_seek targets) in
    let seek' : seek ≡ over' + 1 = omega arith in
    let d' : d ≡ first_target over' places = ed ∙ ap (λ k. first_target k places) lo in
    let g = λ (s e : ℕ) (l : List SlotOp) (x : ℕ). before ++ Jump s ∷ Jump e ∷ (body ++ Jump e ∷ (l ++ Jump x ∷ [])) in
    s3 ∙ flat3
    ∙ ap (λ k. g k end labels d) seek'
    ∙ ap (λ k. g (over' + 1) k labels d) end'
    ∙ ap (λ l. g (over' + 1) (over' + 1 + length targets + 1) l d) ls
    ∙ ap (λ k. g (over' + 1) (over' + 1 + length targets + 1) (seek_code targets) k) d'
