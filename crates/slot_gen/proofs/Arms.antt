-- The code that is emitted for each form of expression is the form's code.
use Rattle.std.proofs.Common.{◌≡◌, ℕ, suc, ◌+◌, ◌<◌, ◌≤◌, List, [], ◌∷◌, ◌++◌, length, refl, sym, ap, ◌∙◌, arith, append_assoc, length-append, get_or, drop}
use Rattle.std.specs.Prelude.{Vec, slice_get, Result, OnOk, Option, Some, None, Bool, true, false, if◌then◌else◌}
use Rattle.std.proofs.Math.Seq.{drop-cons}
use Rattle.c_tree.specs.declared.types.CType.{CType}
use Rattle.c_tree.specs.declared.typed.Head.{Head}
use Rattle.c_tree.specs.declared.typed.BinaryOp.{BinaryOp}
use mathlib.Core.Former.{Count}
use Rattle.std.specs.declared.alloc.Global.{Global}
use Rattle.c_tree.specs.declared.typed.Typed.{Typed, Call as CallExpr, Row_of-Typed, end_of-Typed, more_of-Typed, items-the_row-Typed, items_hidden-the_row-Typed-0}
use Rattle.c_tree.specs.declared.typed.Typed.TheVariants.{Assign', Choice', Or', And', Binary', Call', Name}
use Rattle.c_tree.specs.declared.rows.Program.{Program}
use Rattle.c_tree.specs.Types.{type_of}
use Rattle.c_source.specs.Source.{struct_number}
use Rattle.slot_ir.specs.declared.code.SlotOp.{SlotOp}
use Rattle.slot_ir.specs.declared.code.SlotOp.TheVariants.{Const, Move}
use Rattle.slot_gen.specs.Expressions.{expr_code, place_code, args_code, combine_op, cast_code, choice_code, and_code, or_code, register_in, unless_register, enter_code, read_at, write_at}
use Rattle.slot_gen.specs.Emission.{copies, assigned_at}
use Rattle.c_tree.specs.Rows.{exprs}
use Rattle.slot_gen.proofs.Follow.{row_args}
use Rattle.slot_gen.proofs.Emitted.{then_code, then_two, on_ok}

-- ---- the arguments of a call as a list

exprs_items : (n : _) (row : Row_of-Typed n) → exprs row ≡ items-the_row-Typed n row
exprs_items n end_of-Typed = refl
exprs_items n (more_of-Typed e rest) = ap (λ l. e ∷ l) (exprs_items _ rest)

abbrev args_of : Typed → (n : Count) × Row_of-Typed n
args_of (Call' h g _ row) = (_, row)
args_of _ = (_, end_of-Typed)

args_of-Call : (h : Head) (g : ℕ) (v : Vec Typed Global) → exprs (args_of (CallExpr h g v)).1 ≡ v.items
args_of-Call h g v = let row = args_of (CallExpr h g v) in exprs_items row.0 row.1 ∙ items_hidden-the_row-Typed-0 v

-- ---- assignments

copy_code : (p : Program) (f at d : ℕ) (h : Head) (x : _) (a : Typed) (o : Option BinaryOp) (y : _) (b : Typed) → copies o (type_of a) ≡ true
    → expr_code p f at d (Assign' h x a o y b) ≡ (place_code p f at d a ++ (place_code p f (at + length (place_code p f at d a)) (suc d) b ++ Move d (suc d) (struct_number (type_of a)) ∷ Const d 0 ∷ []))
copy_code p f at d h x a (Some op) y b e = absurd (cc e)
copy_code p f at d h x a None y b e =
    let place = place_code p f at d a in
    let first = unless_register (register_in p f a) place in
    ap
    (λ q. if q then (place ++ (place_code p f (at + length place) (suc d) b ++ Move d (suc d) (struct_number (type_of a)) ∷ Const d 0 ∷ []))
    else (first ++ (expr_code p f (at + length first) (suc d) b ++ write_at p f d (register_in p f a) (type_of a))))
    e

assign_code : (p : Program) (f at d : ℕ) (h : Head) (x : _) (a : Typed) (o : Option BinaryOp) (y : _) (b : Typed) → copies o (type_of a) ≡ false
    → expr_code p f at d (Assign' h x a o y b)
    ≡ (unless_register (register_in p f a) (place_code p f at d a) ++ (expr_code p f (at + length (unless_register (register_in p f a) (place_code p f at d a))) (suc d) b ++ assigned_at p f d (register_in p f a) (type_of a) o (type_of b)))
assign_code p f at d h x a (Some op) y b e = refl
assign_code p f at d h x a None y b e =
    let place = place_code p f at d a in
    let first = unless_register (register_in p f a) place in
    ap
    (λ q. if q then (place ++ (place_code p f (at + length place) (suc d) b ++ Move d (suc d) (struct_number (type_of a)) ∷ Const d 0 ∷ []))
    else (first ++ (expr_code p f (at + length first) (suc d) b ++ write_at p f d (register_in p f a) (type_of a))))
    e

module _ (p : Program) (f : ℕ) where
  pub call_done : (old c1 c2 : List SlotOp) (d g n : ℕ) (h : Head) (v : Vec Typed Global) (xs : List Typed) (e : Typed) → e ≡ CallExpr h g v → xs ≡ v.items → n ≡ length v.items
      → c1 ≡ old ++ args_code p f (length old) d xs → c2 ≡ c1 ++ enter_code d (slice_get p.symbols g) n
      → c2 ≡ old ++ expr_code p f (length old) d e
  call_done old c1 c2 d g n h v xs e is ex en e1 e2 =
      let row = args_of (CallExpr h g v) in
      let o = slice_get p.symbols g in
      let at = length old in
      let code : expr_code p f at d (CallExpr h g v) ≡ args_code p f at d v.items ++ enter_code d o (length v.items) =
      ap (λ l. l ++ enter_code d o (length (exprs row.1))) (row_args p f at d row.1) ∙ ap (λ l. args_code p f at d l ++ enter_code d o (length l)) (args_of-Call h g v) in
      e2
      ∙ ap (λ c. c ++ enter_code d o n) (e1 ∙ ap (λ l. old ++ args_code p f at d l) ex)
      ∙ append_assoc old (args_code p f at d v.items) (enter_code d o n)
      ∙ ap (λ m. old ++ (args_code p f at d v.items ++ enter_code d o m)) en
      ∙ ap (λ c. old ++ c) (sym code)
      ∙ ap (λ x. old ++ expr_code p f at d x) (sym is)

  -- one more argument
  pub args_more : (all c0 c1 : List SlotOp) (d n : ℕ) (args : List Typed) (i : ℕ) (e : Typed) → i < length args → e ≡ get_or args i e → n ≡ d + 1 → c0 ++ args_code p f (length c0) d (drop i args) ≡ all → c1 ≡ c0 ++ expr_code p f (length c0) d e → c1 ++ args_code p f (length c1) n (drop (i + 1) args) ≡ all
  args_more all c0 c1 d n args i e lt at en is e1 =
      let ce = expr_code p f (length c0) d e in
      let rest = drop (suc i) args in
      let there : length c1 ≡ length c0 + length ce = ap length e1 ∙ length-append c0 ce in
      let next : i + 1 ≡ suc i = omega arith in
      let n' : n ≡ suc d = omega arith in
      let front : drop i args ≡ e ∷ rest = drop-cons args i e lt ∙ ap (λ x. x ∷ rest) (sym at) in
      ap (λ j. c1 ++ args_code p f (length c1) n (drop j args)) next
      ∙ ap (λ m. c1 ++ args_code p f m n rest) there
      ∙ ap (λ k. c1 ++ args_code p f (length c0 + length ce) k rest) n'
      ∙ ap (λ c. c ++ args_code p f (length c0 + length ce) (suc d) rest) e1
      ∙ append_assoc c0 ce (args_code p f (length c0 + length ce) (suc d) rest)
      ∙ ap (λ r. c0 ++ args_code p f (length c0) d r) (sym front)
      ∙ is

  module _ (old c1 c2 c3 : List SlotOp) (d n : ℕ) (h : Head) (e ea eb : Typed) where
    pub binary_done : (x : _) (a : Typed) (op : BinaryOp) (y : _) (b : Typed) (s t : CType) → e ≡ Binary' h x a op y b → ea ≡ a → eb ≡ b → n ≡ d + 1 → s ≡ type_of a → t ≡ type_of b
        → c1 ≡ old ++ expr_code p f (length old) d ea → c2 ≡ c1 ++ expr_code p f (length c1) n eb → c3 ≡ c2 ++ combine_op p d d (suc d) op s t ∷ []
        → c3 ≡ old ++ expr_code p f (length old) d e
    binary_done x a op y b s t is ia ib en es et e1 e2 e3 =
        let n' : n ≡ suc d = omega arith in
        let is' : e ≡ Binary' h x ea op y eb = is ∙ ap (λ z. Binary' h x z op y b) (sym ia) ∙ ap (λ z. Binary' h x ea op y z) (sym ib) in
        let q2 = e2 ∙ ap (λ k. c1 ++ expr_code p f (length c1) k eb) n' in
        let q3 = e3 ∙ ap (λ z. c2 ++ combine_op p d d (suc d) op z t ∷ []) (es ∙ ap type_of (sym ia)) ∙ ap (λ z. c2 ++ combine_op p d d (suc d) op (type_of ea) z ∷ []) (et ∙ ap type_of (sym ib)) in
        then_two old c1 c2 c3 (expr_code p f (length old) d ea) (combine_op p d d (suc d) op (type_of ea) (type_of eb) ∷ []) (λ at. expr_code p f at (suc d) eb) e1 q2 q3
        ∙ ap (λ z. old ++ expr_code p f (length old) d z) (sym is')

    pub copy_done : (x : _) (a : Typed) (o : Option BinaryOp) (y : _) (b : Typed) (s s' : CType) → e ≡ Assign' h x a o y b → ea ≡ a → eb ≡ b → n ≡ d + 1 → s ≡ type_of a → copies o s ≡ true → s' ≡ type_of a
        → c1 ≡ old ++ place_code p f (length old) d ea → c2 ≡ c1 ++ place_code p f (length c1) n eb → c3 ≡ c2 ++ Move d (suc d) (struct_number s') ∷ Const d 0 ∷ []
        → c3 ≡ old ++ expr_code p f (length old) d e
    copy_done x a o y b s s' is ia ib en es copy et e1 e2 e3 =
        let n' : n ≡ suc d = omega arith in
        let is' : e ≡ Assign' h x ea o y eb = is ∙ ap (λ z. Assign' h x z o y b) (sym ia) ∙ ap (λ z. Assign' h x ea o y z) (sym ib) in
        let q2 = e2 ∙ ap (λ k. c1 ++ place_code p f (length c1) k eb) n' in
        let q3 = e3 ∙ ap (λ z. c2 ++ Move d (suc d) (struct_number z) ∷ Const d 0 ∷ []) (et ∙ ap type_of (sym ia)) in
        let yes : copies o (type_of ea) ≡ true = ap (copies o) (sym (es ∙ ap type_of (sym ia))) ∙ copy in
        then_two old c1 c2 c3 (place_code p f (length old) d ea) (Move d (suc d) (struct_number (type_of ea)) ∷ Const d 0 ∷ []) (λ at. place_code p f at (suc d) eb) e1 q2 q3
        ∙ ap (λ c. old ++ c) (sym (copy_code p f (length old) d h x ea o y eb yes))
        ∙ ap (λ z. old ++ expr_code p f (length old) d z) (sym is')

    pub assign_done : (x : _) (a : Typed) (o : Option BinaryOp) (y : _) (b : Typed) (s s' t : CType) (r : Option ℕ) → e ≡ Assign' h x a o y b → ea ≡ a → eb ≡ b → n ≡ d + 1 → s ≡ type_of a → copies o s ≡ false → s' ≡ type_of a → t ≡ type_of b → r ≡ register_in p f ea
        → c1 ≡ old ++ unless_register r (place_code p f (length old) d ea) → c2 ≡ c1 ++ expr_code p f (length c1) n eb → c3 ≡ c2 ++ assigned_at p f d r s' o t
        → c3 ≡ old ++ expr_code p f (length old) d e
    assign_done x a o y b s s' t r is ia ib en es copy et eu er e1 e2 e3 =
        let n' : n ≡ suc d = omega arith in
        let is' : e ≡ Assign' h x ea o y eb = is ∙ ap (λ z. Assign' h x z o y b) (sym ia) ∙ ap (λ z. Assign' h x ea o y z) (sym ib) in
        let q1 = e1 ∙ ap (λ z. old ++ unless_register z (place_code p f (length old) d ea)) er in
        let q2 = e2 ∙ ap (λ k. c1 ++ expr_code p f (length c1) k eb) n' in
        let q3 = e3 ∙ ap (λ z. c2 ++ assigned_at p f d z s' o t) er ∙ ap (λ z. c2 ++ assigned_at p f d (register_in p f ea) z o t) (et ∙ ap type_of (sym ia)) ∙ ap (λ z. c2 ++ assigned_at p f d (register_in p f ea) (type_of ea) o z) (eu ∙ ap type_of (sym ib)) in
        let no : copies o (type_of ea) ≡ false = ap (copies o) (sym (es ∙ ap type_of (sym ia))) ∙ copy in
        then_two old c1 c2 c3 (unless_register (register_in p f ea) (place_code p f (length old) d ea)) (assigned_at p f d (register_in p f ea) (type_of ea) o (type_of eb)) (λ at. expr_code p f at (suc d) eb) q1 q2 q3
        ∙ ap (λ c. old ++ c) (sym (assign_code p f (length old) d h x ea o y eb no))
        ∙ ap (λ z. old ++ expr_code p f (length old) d z) (sym is')

  -- `&&` and `||`: the code up to the test, the test, and the right operand
  module _ {A B : Type 0} (r : Result A B) (old c1 c2 c3 c4 : List SlotOp) (d test : ℕ) (h : Head) (e ea eb : Typed) (j : SlotOp) (is_at : test ≡ length c1) (e1 : c1 ≡ old ++ expr_code p f (length old) d ea) (e2 : c2 ≡ c1 ++ j ∷ []) (e3 : c3 ≡ c2 ++ expr_code p f (length c2) d eb) where
    start : c3 ≡ c1 ++ j ∷ expr_code p f (length c2) d eb
    start = e3 ∙ ap (λ c. c ++ expr_code p f (length c2) d eb) e2 ∙ append_assoc c1 (j ∷ []) (expr_code p f (length c2) d eb)

    test_at : test ≡ length old + length (expr_code p f (length old) d ea)
    test_at = is_at ∙ ap length e1 ∙ length-append old (expr_code p f (length old) d ea)

    right_at : length c2 ≡ length old + length (expr_code p f (length old) d ea) + 1
    right_at = omega (arith, ap length e2, length-append c1 (j ∷ []), test_at, is_at)

    pub and_done : (x : _) (a : Typed) (y : _) (b : Typed) → e ≡ And' h x a y b → ea ≡ a → eb ≡ b
        → ((before rest : List SlotOp) (z : SlotOp) → c3 ≡ before ++ z ∷ rest → length before ≡ test → OnOk r (c4 ≡ before ++ and_code test d rest))
        → OnOk r (c4 ≡ old ++ expr_code p f (length old) d e)
    and_done x a y b is ia ib done =
        let is' : e ≡ And' h x ea y eb = is ∙ ap (λ z. And' h x z y b) (sym ia) ∙ ap (λ z. And' h x ea y z) (sym ib) in
        let ca = expr_code p f (length old) d ea in
        on_ok r (c4 ≡ c1 ++ and_code test d (expr_code p f (length c2) d eb)) (c4 ≡ old ++ expr_code p f (length old) d e)
        (λ q. q
        ∙ ap (λ c. c ++ and_code test d (expr_code p f (length c2) d eb)) e1
        ∙ append_assoc old ca (and_code test d (expr_code p f (length c2) d eb))
        ∙ ap (λ k. old ++ (ca ++ and_code k d (expr_code p f (length c2) d eb))) test_at
        ∙ ap (λ k. old ++ (ca ++ and_code (length old + length ca) d (expr_code p f k d eb))) right_at
        ∙ ap (λ z. old ++ expr_code p f (length old) d z) (sym is'))
        (done c1 (expr_code p f (length c2) d eb) j start (sym is_at))

    pub or_done : (x : _) (a : Typed) (y : _) (b : Typed) → e ≡ Or' h x a y b → ea ≡ a → eb ≡ b
        → ((before rest : List SlotOp) (z : SlotOp) → c3 ≡ before ++ z ∷ rest → length before ≡ test → OnOk r (c4 ≡ before ++ or_code test d rest))
        → OnOk r (c4 ≡ old ++ expr_code p f (length old) d e)
    or_done x a y b is ia ib done =
        let is' : e ≡ Or' h x ea y eb = is ∙ ap (λ z. Or' h x z y b) (sym ia) ∙ ap (λ z. Or' h x ea y z) (sym ib) in
        let ca = expr_code p f (length old) d ea in
        on_ok r (c4 ≡ c1 ++ or_code test d (expr_code p f (length c2) d eb)) (c4 ≡ old ++ expr_code p f (length old) d e)
        (λ q. q
        ∙ ap (λ c. c ++ or_code test d (expr_code p f (length c2) d eb)) e1
        ∙ append_assoc old ca (or_code test d (expr_code p f (length c2) d eb))
        ∙ ap (λ k. old ++ (ca ++ or_code k d (expr_code p f (length c2) d eb))) test_at
        ∙ ap (λ k. old ++ (ca ++ or_code (length old + length ca) d (expr_code p f k d eb))) right_at
        ∙ ap (λ z. old ++ expr_code p f (length old) d z) (sym is'))
        (done c1 (expr_code p f (length c2) d eb) j start (sym is_at))

  -- `? :`
  pub choice_arm : {A B : Type 0} (r : Result A B) (old c1 c2 c3 c4 c5 c6 c7 c8 : List SlotOp) (d test over : ℕ) (h : Head) (e ec ea eb : Typed) (i j : SlotOp) (x : _) (c : Typed) (y : _) (a : Typed) (z : _) (b : Typed)
      → e ≡ Choice' h x c y a z b → ec ≡ c → ea ≡ a → eb ≡ b → test ≡ length c1 → over ≡ length c4
      → c1 ≡ old ++ expr_code p f (length old) d ec → c2 ≡ c1 ++ i ∷ [] → c3 ≡ c2 ++ expr_code p f (length c2) d ea → c4 ≡ c3 ++ cast_code d h.ctype → c5 ≡ c4 ++ j ∷ [] → c6 ≡ c5 ++ expr_code p f (length c5) d eb → c7 ≡ c6 ++ cast_code d h.ctype
      → ((before first second : List SlotOp) (i' j' : SlotOp) → c7 ≡ before ++ i' ∷ (first ++ j' ∷ second) → length before ≡ test → test + 1 + length first ≡ over → OnOk r (c8 ≡ before ++ choice_code test d first second))
      → OnOk r (c8 ≡ old ++ expr_code p f (length old) d e)
  choice_arm r old c1 c2 c3 c4 c5 c6 c7 c8 d test over h e ec ea eb i j x c y a z b is ic ia ib at there e1 e2 e3 e4 e5 e6 e7 done =
      let is' : e ≡ Choice' h x ec y ea z eb = is ∙ ap (λ u. Choice' h x u y a z b) (sym ic) ∙ ap (λ u. Choice' h x ec y u z b) (sym ia) ∙ ap (λ u. Choice' h x ec y ea z u) (sym ib) in
      let cc1 = expr_code p f (length old) d ec in
      let cast = cast_code d h.ctype in
      let fa = expr_code p f (length c2) d ea in
      let fb = expr_code p f (length c5) d eb in
      let all : c7 ≡ (((((c1 ++ i ∷ []) ++ fa) ++ cast) ++ j ∷ []) ++ fb) ++ cast = cc in
      let flat : (((((c1 ++ i ∷ []) ++ fa) ++ cast) ++ j ∷ []) ++ fb) ++ cast ≡ c1 ++ i ∷ ((fa ++ cast) ++ j ∷ (fb ++ cast)) = simp append_assoc in
      let l1 : length c1 ≡ length old + length cc1 = ap length e1 ∙ length-append old cc1 in
      let l2 : length c2 ≡ length c1 + 1 = ap length e2 ∙ length-append c1 (i ∷ []) in
      let l3 : length c3 ≡ length c2 + length fa = ap length e3 ∙ length-append c2 fa in
      let l4 : length c4 ≡ length c3 + length cast = ap length e4 ∙ length-append c3 cast in
      let l5 : length c5 ≡ length c4 + 1 = ap length e5 ∙ length-append c4 (j ∷ []) in
      let first_long : length (fa ++ cast) ≡ length fa + length cast = length-append fa cast in
      let right : test + 1 + length (fa ++ cast) ≡ over = omega arith in
      let m2 : length c2 ≡ length old + length cc1 + 1 = omega arith in
      let ga = λ (k : ℕ). expr_code p f k d ea ++ cast in
      let t : test ≡ length old + length cc1 = omega arith in
      let fa' = ga (length old + length cc1 + 1) in
      let ea' : fa ++ cast ≡ fa' = ap ga m2 in
      let m5 : length c5 ≡ length old + length cc1 + 1 + length fa' + 1 = omega (arith, ap length ea') in
      let gb = λ (k : ℕ). expr_code p f k d eb ++ cast in
      on_ok r (c8 ≡ c1 ++ choice_code test d (fa ++ cast) (fb ++ cast)) (c8 ≡ old ++ expr_code p f (length old) d e)
      (λ q. q
      ∙ ap (λ u. u ++ choice_code test d (fa ++ cast) (fb ++ cast)) e1
      ∙ append_assoc old cc1 (choice_code test d (fa ++ cast) (fb ++ cast))
      ∙ ap (λ k. old ++ (cc1 ++ choice_code k d (fa ++ cast) (fb ++ cast))) t
      ∙ ap (λ u. old ++ (cc1 ++ choice_code (length old + length cc1) d u (fb ++ cast))) ea'
      ∙ ap (λ k. old ++ (cc1 ++ choice_code (length old + length cc1) d fa' (gb k))) m5
      ∙ ap (λ u. old ++ expr_code p f (length old) d u) (sym is'))
      (done c1 (fa ++ cast) (fb ++ cast) i j (all ∙ flat) (sym at) right)

  -- a name
  pub name_done : (old c1 c2 : List SlotOp) (d m : ℕ) (h : Head) (e : Typed) (r : Option ℕ) → e ≡ Name h m → r ≡ register_in p f e → c1 ≡ old ++ unless_register r (place_code p f (length old) d e) → c2 ≡ c1 ++ read_at p f d r h.ctype → c2 ≡ old ++ expr_code p f (length old) d e
  name_done old c1 c2 d m h e r is er e1 e2 =
      let r' : r ≡ register_in p f (Name h m) = er ∙ ap (register_in p f) is in
      let q1 = e1 ∙ ap (λ z. old ++ unless_register r (place_code p f (length old) d z)) is ∙ ap (λ z. old ++ unless_register z (place_code p f (length old) d (Name h m))) r' in
      let q2 = e2 ∙ ap (λ z. c1 ++ read_at p f d z h.ctype) r' in
      then_code old c1 c2 (unless_register (register_in p f (Name h m)) (place_code p f (length old) d (Name h m))) (λ at. read_at p f d (register_in p f (Name h m)) h.ctype) q1 q2
      ∙ ap (λ z. old ++ expr_code p f (length old) d z) (sym is)
