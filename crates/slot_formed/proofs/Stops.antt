-- Each stopping point of a function stands in its code.
use Rattle.std.proofs.Common.{◌≡◌, refl, sym, ap, subst, ◌∙◌, ℕ, suc, ◌+◌, List, [], ◌∷◌, ◌++◌, length, Bool, true, false, Option, Some, None, true≢false, slice_get, ◌⊎◌, inl, inr}
use Rattle.std.specs.Prelude.{if◌then◌else◌}
use Rattle.std.specs.List.{AllByRecursion, AllZip, Contains}
use Rattle.std.proofs.lemmas.Option.{slice_get_within, get_or_from_slice_get}
use Rattle.c_tree.specs.declared.typed.Pointed.{Pointed}
use Rattle.c_tree.specs.declared.typed.DeclaredLocal.{DeclaredLocal}
use Rattle.c_tree.specs.declared.typed.Stmt.{Stmt, Row_of-Stmt, end_of-Stmt, more_of-Stmt, Held-Stmt-If-3, None', Some'}
use Rattle.c_tree.specs.declared.typed.Stmt.TheVariants.{Value, Block', If', While', Do', For', Switch', Case', Default', Break, Continue, Return}
use Rattle.c_tree.specs.declared.rows.Program.{Program}
use Rattle.c_tree.specs.Rows.{stmts}
use Rattle.c_tree.specs.Points.{points_in, points_in_row, points_in_else}
use Rattle.c_tree.specs.Rows.{declared_in, statements_in}
use Rattle.c_typing.specs.Plain.{Plain}
use Rattle.c_typing.specs.Statements.{Around as Stands, in_loop as looped, in_switch as switched, inside, local_numbers, IsStatement, AreStatements, IsElse, IsSwitched}
use Rattle.c_typing.specs.Programs.{IsBlock}
use Rattle.slot_ir.specs.declared.code.SlotOp.{SlotOp}
use Rattle.slot_ir.specs.declared.code.SlotOp.TheVariants as op
use Rattle.slot_gen.specs.Expressions.{expr_code, choice_code}
use Rattle.slot_gen.specs.Statements.{Around, nowhere, stmt_code, stmts_code, block_code, else_code, body_code, body_targets, body_defaults, zeros_code, part_code, init_code, inits_code, test_code, loop_test, loop_body, loop_code, in_loop, in_switch, switch_code, seek_code, first_target}
use Rattle.slot_gen.specs.Rows.{StandsAt, is_stop}
use Rattle.slot_gen.proofs.Placed.{stop_there, stop_seen}
use Rattle.slot_formed.specs.Code.{stop_place, ArePlaces}
use Rattle.slot_formed.proofs.Lists.{all_append, all_map}
use Rattle.slot_formed.proofs.Stmts.{block_stmts}

-- a point stands in a code
abbrev pub Has : List SlotOp → ℕ → Type 0
Has [] q = ⊥
Has (o ∷ rest) q = (o ≡ op.Stop q) ⊎ Has rest q

abbrev pub HasAll : List SlotOp → List ℕ → Type 0
HasAll l qs = AllByRecursion (Has l) qs

has_left : (a b : List SlotOp) (q : ℕ) → Has a q → Has (a ++ b) q
has_left (o ∷ a) b q (inl e) = inl e
has_left (o ∷ a) b q (inr h) = inr (has_left a b q h)
has_left [] b q h = absurd h

has_right : (a b : List SlotOp) (q : ℕ) → Has b q → Has (a ++ b) q
has_right [] b q h = h
has_right (o ∷ a) b q h = inr (has_right a b q h)

pub in_left : (a b : List SlotOp) (qs : List ℕ) → HasAll a qs → HasAll (a ++ b) qs
in_left a b qs h = all_map (Has a) (Has (a ++ b)) qs (λ q. has_left a b q) h

pub in_right : (a b : List SlotOp) (qs : List ℕ) → HasAll b qs → HasAll (a ++ b) qs
in_right a b qs h = all_map (Has b) (Has (a ++ b)) qs (λ q. has_right a b q) h

pub later : (o : SlotOp) (a : List SlotOp) (qs : List ℕ) → HasAll a qs → HasAll (o ∷ a) qs
later o a qs h = all_map (Has a) (Has (o ∷ a)) qs (λ q k. inr k) h

-- ---- where it stands

behind : (q : ℕ) (o : SlotOp) (rest : List SlotOp) → is_stop q o ≡ false → (o ≡ op.Stop q) ⊎ Has rest q → Has rest q
behind q o rest e (inl k) = absurd (true≢false (sym (stop_seen q o k) ∙ e))
behind q o rest e (inr k) = k

found_by : (q : ℕ) (o : SlotOp) (rest : List SlotOp) (b : Bool) → is_stop q o ≡ b → (is_stop q o ≡ false → slice_get rest (stop_place q rest) ≡ Some (op.Stop q)) → slice_get (o ∷ rest) (if b then 0 else suc (stop_place q rest)) ≡ Some (op.Stop q)
found_by q o rest true e go = ap Some (stop_there q o e)
found_by q o rest false e go = go e

pub stop_found : (q : ℕ) (l : List SlotOp) → Has l q → slice_get l (stop_place q l) ≡ Some (op.Stop q)
stop_found q [] h = absurd h
stop_found q (o ∷ rest) h = found_by q o rest (is_stop q o) refl (λ e. stop_found q rest (behind q o rest e h))

contains : (q : ℕ) (l : List SlotOp) → Has l q → Contains l (op.Stop q)
contains q l h =
    let found = stop_found q l h in
    (stop_place q l, slice_get_within l (stop_place q l) (op.Stop q) found, get_or_from_slice_get l (stop_place q l) (op.Stop q) (op.Stop q) found)

-- places of points that all stand in a code
pub are_places : (l : List SlotOp) (qs is : List ℕ) → HasAll l qs → AllZip (StandsAt l) qs is → ArePlaces l qs is
are_places l [] [] h k = tt
are_places l [] (i ∷ is) h k = absurd k
are_places l (q ∷ qs) [] h k = absurd k
are_places l (q ∷ qs) (i ∷ is) h k = (k.0 (contains q l h.0), are_places l qs is h.1 k.1)

-- ---- points of statements

abbrev point_of : Option Pointed → List ℕ
point_of None = []
point_of (Some q) = q.point ∷ []

abbrev points_of_inits : List DeclaredLocal → List ℕ
points_of_inits [] = []
points_of_inits (d ∷ ds) = point_of d.init ++ points_of_inits ds

module _ (p : Program) (f : ℕ) (R : Plain) where
  part_has : (at : ℕ) (o : Option Pointed) → HasAll (part_code p f at o) (point_of o)
  part_has at None = tt
  part_has at (Some q) = (inl refl, tt)

  init_has : (at x : ℕ) (o : Option Pointed) → HasAll (init_code p f at x o) (point_of o)
  init_has at x None = tt
  init_has at x (Some q) = (inl refl, tt)

  inits_has : (at : ℕ) (ds : List DeclaredLocal) → HasAll (inits_code p f at ds) (points_of_inits ds)
  inits_has at [] = tt
  inits_has at (d ∷ ds) =
      let ci = init_code p f at d.local d.init in
      let cs = inits_code p f (at + length ci) ds in
      all_append (Has (ci ++ cs)) (point_of d.init) (points_of_inits ds) (in_left ci cs (point_of d.init) (init_has at d.local d.init)) (in_right ci cs (points_of_inits ds) (inits_has (at + length ci) ds))

  test_has : (at : ℕ) (o : Option Pointed) (end : ℕ) → HasAll (test_code p f at o end) (point_of o)
  test_has at None end = tt
  test_has at (Some q) end = (inl refl, tt)

  -- the three parts of a loop
  module _ (at : ℕ) (first : Bool) (t q : Option Pointed) (body : List SlotOp) where
    abbrev end : ℕ
    end = loop_body p f at t q + length body + 1

    abbrev ct : List SlotOp
    ct = part_code p f (at + 2) t

    abbrev cq : List SlotOp
    cq = test_code p f (loop_test p f at t) q end

    abbrev back : List SlotOp
    back = op.Jump (at + 2) ∷ []

    abbrev start : SlotOp
    start = op.Jump (if first then loop_test p f at t else loop_body p f at t q)

    two_later : (qs : List ℕ) → HasAll (ct ++ (cq ++ (body ++ back))) qs → HasAll (loop_code p f at first t q body) qs
    two_later qs h = later start (op.Jump end ∷ (ct ++ (cq ++ (body ++ back)))) qs (later (op.Jump end) (ct ++ (cq ++ (body ++ back))) qs h)

    loop_steps : HasAll (loop_code p f at first t q body) (point_of t)
    loop_steps = two_later (point_of t) (in_left ct (cq ++ (body ++ back)) (point_of t) (part_has (at + 2) t))

    loop_tests : HasAll (loop_code p f at first t q body) (point_of q)
    loop_tests = two_later (point_of q) (in_right ct (cq ++ (body ++ back)) (point_of q) (in_left cq (body ++ back) (point_of q) (test_has (loop_test p f at t) q end)))

    loop_bodies : (qs : List ℕ) → HasAll body qs → HasAll (loop_code p f at first t q body) qs
    loop_bodies qs h = two_later qs (in_right ct (cq ++ (body ++ back)) qs (in_right cq (body ++ back) qs (in_left body back qs h)))

  mutual
    pub stmt_has : (s : Stmt) (v : List ℕ) (a : Stands) (r : Around) (m at : ℕ) → IsStatement p f R v a s → HasAll (stmt_code p f r m at s) (points_in s)
    stmt_has (Value x e) v a r m at t = part_has at e
    stmt_has (Block' x ds y row l c) v a r m at t =
        let zeros = zeros_code ds in
        let inits = inits_code p f (at + length zeros) ds in
        let code = block_code p f r (m + length ds) (at + length zeros + length inits) row in
        let leave : List SlotOp = op.Leave m ∷ [] in
        in_right zeros (inits ++ (code ++ leave)) (points_of_inits ds ++ points_in_row row)
        (all_append (Has (inits ++ (code ++ leave))) (points_of_inits ds) (points_in_row row) (in_left inits (code ++ leave) (points_of_inits ds) (inits_has (at + length zeros) ds))
        (in_right inits (code ++ leave) (points_in_row row) (in_left code leave (points_in_row row) (row_has row (v ++ local_numbers ds) (inside a) r (m + length ds) (at + length zeros + length inits) t.1))))
    stmt_has (If' x c y s e) v a r m at t =
        let test = expr_code p f (at + 1) 0 c.e in
        let start = at + 1 + length test in
        let ca = stmt_code p f r m (start + 1) s in
        let ce = else_code p f r m (start + 1 + length ca + 1) e in
        let skip : SlotOp = op.Jump (start + 1 + length ca + 1 + length ce) in
        let test_jump : SlotOp = op.JumpIfZero 0 (start + 1 + length ca + 1) in
        let both : HasAll (ca ++ skip ∷ ce) (points_in s ++ points_in_else e) =
        all_append (Has (ca ++ skip ∷ ce)) (points_in s) (points_in_else e) (in_left ca (skip ∷ ce) (points_in s) (stmt_has s v (inside a) r m (start + 1) t.1))
        (in_right ca (skip ∷ ce) (points_in_else e) (later skip ce (points_in_else e) (else_has e v (inside a) r m (start + 1 + length ca + 1) t.2))) in
        (inl refl, later (op.Stop c.point) _ (points_in s ++ points_in_else e) (in_right test (choice_code start 0 ca ce) (points_in s ++ points_in_else e) (later test_jump (ca ++ skip ∷ ce) (points_in s ++ points_in_else e) both)))
    stmt_has (While' x c y s) v a r m at t =
        let body = stmt_code p f (in_loop at m) m (loop_body p f at None (Some c)) s in
        ((loop_tests at true None (Some c) body).0, loop_bodies at true None (Some c) body (points_in s) (stmt_has s v looped (in_loop at m) m (loop_body p f at None (Some c)) t.1))
    stmt_has (Do' x y s c) v a r m at t =
        let body = stmt_code p f (in_loop at m) m (loop_body p f at None (Some c)) s in
        all_append (Has (loop_code p f at false None (Some c) body)) (points_in s) (c.point ∷ []) (loop_bodies at false None (Some c) body (points_in s) (stmt_has s v looped (in_loop at m) m (loop_body p f at None (Some c)) t.0)) (loop_tests at false None (Some c) body)
    stmt_has (For' x i c e y s) v a r m at t =
        let ci = part_code p f at i in
        let start = at + length ci in
        let body = stmt_code p f (in_loop start m) m (loop_body p f start e c) s in
        let code = loop_code p f start true e c body in
        let all : List SlotOp = ci ++ code in
        let ic : List ℕ = point_of i ++ point_of c in
        all_append (Has all) (ic ++ point_of e) (points_in s)
        (all_append (Has all) ic (point_of e)
        (all_append (Has all) (point_of i) (point_of c) (in_left ci code (point_of i) (part_has at i)) (in_right ci code (point_of c) (loop_tests start true e c body)))
        (in_right ci code (point_of e) (loop_steps start true e c body)))
        (in_right ci code (points_in s) (loop_bodies start true e c body (points_in s) (stmt_has s v looped (in_loop start m) m (loop_body p f start e c) t.3)))
    stmt_has (Switch' x c y s) v a r m at t =
        let test = expr_code p f (at + 1) 0 c.e in
        let start = at + 1 + length test in
        let around = in_switch start m r in
        let body = body_code p f around m (start + 2) s in
        let targets = body_targets p f around m (start + 2) s in
        let defaults = body_defaults p f around m (start + 2) s in
        let code = switch_code start body targets defaults in
        let over = start + 2 + length body in
        let end = over + 1 + length targets + 1 in
        let rest : List SlotOp = op.Jump end ∷ (seek_code targets ++ op.Jump (first_target over defaults) ∷ []) in
        let inner : HasAll (body ++ rest) (points_in s) = in_left body rest (points_in s) (body_has s v (switched a) around m (start + 2) t.1) in
        let whole : HasAll code (points_in s) = later (op.Jump (over + 1)) (op.Jump end ∷ (body ++ rest)) (points_in s) (later (op.Jump end) (body ++ rest) (points_in s) inner) in
        (inl refl, later (op.Stop c.point) (test ++ code) (points_in s) (in_right test code (points_in s) whole))
    stmt_has (Case' x c y s) v a r m at t = stmt_has s v a r m at t.2
    stmt_has (Default' x y s) v a r m at t = stmt_has s v a r m at t.1
    stmt_has (Break x) v a r m at t = tt
    stmt_has (Continue x) v a r m at t = tt
    stmt_has (Return x c None) v a r m at t = (inl refl, tt)
    stmt_has (Return x c (Some e)) v a r m at t = (inl refl, tt)

    row_has : {k : _} (row : Row_of-Stmt k) (v : List ℕ) (a : Stands) (r : Around) (m at : ℕ) → AreStatements p f R v a row → HasAll (block_code p f r m at row) (points_in_row row)
    row_has end_of-Stmt v a r m at t = tt
    row_has (more_of-Stmt s rest) v a r m at t =
        let cs = stmt_code p f r m at s in
        let code = block_code p f r m (at + length cs) rest in
        all_append (Has (cs ++ code)) (points_in s) (points_in_row rest) (in_left cs code (points_in s) (stmt_has s v a r m at t.0)) (in_right cs code (points_in_row rest) (row_has rest v a r m (at + length cs) t.1))

    else_has : (e : Held-Stmt-If-3) (v : List ℕ) (a : Stands) (r : Around) (m at : ℕ) → IsElse p f R v a e → HasAll (else_code p f r m at e) (points_in_else e)
    else_has None' v a r m at t = tt
    else_has (Some' x s) v a r m at t = stmt_has s v a r m at t

    body_has : (s : Stmt) (v : List ℕ) (a : Stands) (r : Around) (m at : ℕ) → IsSwitched p f R v a s → HasAll (body_code p f r m at s) (points_in s)
    body_has (Block' x ds y row l c) v a r m at t =
        let code = block_code p f r m at row in
        subst (λ ds. HasAll code (points_of_inits ds ++ points_in_row row)) (sym t.0) (row_has row v a r m at t.1)
    body_has _ v a r m at t = absurd t

  pub body_of_has : (b : Stmt) (v : List ℕ) (a : Stands) (m at : ℕ) → IsBlock b → IsStatement p f R v a b
      → HasAll (zeros_code (declared_in b) ++ (inits_code p f (at + length (zeros_code (declared_in b))) (declared_in b) ++ stmts_code p f nowhere m (at + length (zeros_code (declared_in b)) + length (inits_code p f (at + length (zeros_code (declared_in b))) (declared_in b))) (statements_in b))) (points_in b)
  body_of_has (Block' x ds y row l c) v a m at k t =
      let zeros = zeros_code ds in
      let inits = inits_code p f (at + length zeros) ds in
      let start = at + length zeros + length inits in
      let code = stmts_code p f nowhere m start (stmts row) in
      let same = block_stmts p f nowhere m start row in
      in_right zeros (inits ++ code) (points_of_inits ds ++ points_in_row row)
      (all_append (Has (inits ++ code)) (points_of_inits ds) (points_in_row row) (in_left inits code (points_of_inits ds) (inits_has (at + length zeros) ds))
      (in_right inits code (points_in_row row) (subst (λ l. HasAll l (points_in_row row)) same (row_has row (v ++ local_numbers ds) (inside a) nowhere m start t.1))))
  body_of_has _ v a m at k t = absurd k
