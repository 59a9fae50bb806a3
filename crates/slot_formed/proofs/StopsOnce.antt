-- A stopping point of a function stands once in its code.
use Rattle.std.proofs.Common.{◌≡◌, refl, sym, ap, ◌∙◌, arith, ℕ, suc, zero, ◌+◌, ◌≤◌, ◌<◌, List, [], ◌∷◌, ◌++◌, length, Bool, true, false, Option, Some, None, slice_get, inl, inr}
use Rattle.std.specs.Prelude.{if◌then◌else◌, ◌==◌, bytes_eq, codes}
use Rattle.c_tree.specs.declared.types.CType.{CType}
use Rattle.c_tree.specs.declared.types.CType.TheVariants as ctype
use Rattle.c_tree.specs.declared.typed.BinaryOp.{BinaryOp}
use Rattle.c_tree.specs.declared.typed.BinaryOp.TheVariants.{BitOr, BitXor, BitAnd, Equal, Unequal, Less, Greater, LessEqual, GreaterEqual, ShiftLeft, ShiftRight, Add, Subtract, Multiply, Divide, Remainder}
use Rattle.c_tree.specs.declared.typed.Typed.{Typed, Row_of-Typed, end_of-Typed, more_of-Typed}
use Rattle.c_tree.specs.declared.typed.Typed.TheVariants.{Comma', Assign', Choice', Or', And', Binary', Cast', Before', Address', Follow', Unary', SizeOf', SizeOfType, Index', Call', Dot', Arrow', After', Name, Constant, Literal, Parens'}
use Rattle.c_tree.specs.declared.typed.Pointed.{Pointed}
use Rattle.c_tree.specs.declared.typed.DeclaredLocal.{DeclaredLocal}
use Rattle.c_tree.specs.declared.typed.Stmt.{Stmt, Row_of-Stmt, end_of-Stmt, more_of-Stmt, Held-Stmt-If-3, None', Some'}
use Rattle.c_tree.specs.declared.typed.Stmt.TheVariants.{Value, Block', If', While', Do', For', Switch', Case', Default', Break, Continue, Return}
use Rattle.c_tree.specs.declared.rows.Program.{Program}
use Rattle.c_tree.specs.declared.rows.SymbolRow.{SymbolRow}
use Rattle.c_tree.specs.declared.rows.Referent.{Referent}
use Rattle.c_tree.specs.declared.rows.Referent.TheVariants.{Object, Local, Function as Defined, Declared}
use Rattle.c_tree.specs.Rows.{exprs, stmts}
use Rattle.c_tree.specs.Types.{type_of, target_of, is_array, is_struct, kind_of}
use Rattle.c_tree.specs.Points.{points_in, points_in_row, points_in_else}
use Rattle.c_source.specs.Blocks.{local_type, result_type}
use Rattle.c_tree.specs.Rows.{declared_in, statements_in}
use Rattle.c_source.specs.Source.{struct_number, stepping}
use Rattle.slot_ir.specs.declared.code.Access.{Access}
use Rattle.slot_ir.specs.declared.code.Access.TheVariants as access
use Rattle.slot_ir.specs.declared.code.SlotOp.{SlotOp}
use Rattle.slot_ir.specs.declared.code.SlotOp.TheVariants as op
use Rattle.slot_gen.specs.Expressions.{access_of, converting, cast_code, load_code, mixed_op, pointers_op, targets_op, combine_op, unless_register, read_at, write_at, update_at, register_in, if_register, register_of, referent_code, name_code, built_in_code, call_code, enter_code, choice_code, expr_code, place_code, row_code}
use Rattle.slot_gen.specs.Statements.{Around, Target, nowhere, stmt_code, stmts_code, block_code, else_code, body_code, body_targets, body_defaults, zeros_code, part_code, init_code, inits_code, test_code, loop_test, loop_body, loop_code, in_loop, in_switch, switch_code, seek_code, first_target, zero_code}
use Rattle.c_typing.specs.Programs.{numbers}
use Rattle.slot_ir.specs.WellFormed.{IsListed}
use Rattle.slot_gen.specs.Rows.{is_stop}
use Rattle.slot_formed.specs.Code.{ArePlaces}
use Rattle.slot_formed.proofs.Lists.{no_none, some_same}
use Rattle.slot_formed.proofs.Good.{Among}
use Rattle.slot_formed.proofs.Stmts.{block_stmts}

abbrev pub one : Bool → ℕ
one true = 1
one false = 0

-- how often a point's stop stands in a code, and a number in a list
abbrev pub stops : ℕ → List SlotOp → ℕ
stops q [] = 0
stops q (o ∷ rest) = one (is_stop q o) + stops q rest

abbrev pub times : ℕ → List ℕ → ℕ
times q [] = 0
times q (r ∷ rest) = one (q == r) + times q rest

pub stops_append : (q : ℕ) (a b : List SlotOp) → stops q (a ++ b) ≡ stops q a + stops q b
stops_append q [] b = omega arith
stops_append q (o ∷ a) b = omega (arith, stops_append q a b)

pub times_append : (q : ℕ) (a b : List ℕ) → times q (a ++ b) ≡ times q a + times q b
times_append q [] b = omega arith
times_append q (r ∷ a) b = omega (arith, times_append q a b)

past : {n : ℕ} → n ≡ 0 → 0 + n ≡ 0
past h = omega (arith, h)

module _ (q : ℕ) where
  abbrev None_in : List SlotOp → Type 0
  None_in l = stops q l ≡ 0

  both_none : (a b : List SlotOp) → None_in a → None_in b → None_in (a ++ b)
  both_none a b x y = omega (arith, stops_append q a b, x, y)

  -- an operator that is no stop, and then others
  op_none : (o : SlotOp) (rest : List SlotOp) → is_stop q o ≡ false → None_in rest → None_in (o ∷ rest)
  op_none o rest e x = let z : one (is_stop q o) ≡ 0 = ap one e in omega (arith, z, x)

  cast_none : (d : ℕ) (a : Access) → None_in (converting d a)
  cast_none d access.Word = refl
  cast_none d access.SignedByte = refl
  cast_none d access.UnsignedByte = refl
  cast_none d access.SignedHalf = refl
  cast_none d access.UnsignedHalf = refl
  cast_none d access.Pointer = refl

  load_none : (d : ℕ) (t : CType) → None_in (load_code d t)
  load_none d t = by (is_array t)
    where
      by : (b : Bool) → None_in (if b then [] else op.Load d d (kind_of t) (access_of t) ∷ [])
      by true = refl
      by false = refl

  mixed_none : (to l r size : ℕ) (o : BinaryOp) (t : CType) → is_stop q (mixed_op to l r size o t) ≡ false
  mixed_none to l r size Add t = refl
  mixed_none to l r size Subtract t = refl
  mixed_none to l r size Equal t = refl
  mixed_none to l r size Unequal t = refl
  mixed_none to l r size BitOr t = refl
  mixed_none to l r size BitXor t = refl
  mixed_none to l r size BitAnd t = refl
  mixed_none to l r size Less t = refl
  mixed_none to l r size Greater t = refl
  mixed_none to l r size LessEqual t = refl
  mixed_none to l r size GreaterEqual t = refl
  mixed_none to l r size ShiftLeft t = refl
  mixed_none to l r size ShiftRight t = refl
  mixed_none to l r size Multiply t = refl
  mixed_none to l r size Divide t = refl
  mixed_none to l r size Remainder t = refl

  pointers_none : (to l r size : ℕ) (o : BinaryOp) → is_stop q (pointers_op to l r size o) ≡ false
  pointers_none to l r size Equal = refl
  pointers_none to l r size Unequal = refl
  pointers_none to l r size Less = refl
  pointers_none to l r size Greater = refl
  pointers_none to l r size LessEqual = refl
  pointers_none to l r size GreaterEqual = refl
  pointers_none to l r size Subtract = refl
  pointers_none to l r size BitOr = refl
  pointers_none to l r size BitXor = refl
  pointers_none to l r size BitAnd = refl
  pointers_none to l r size ShiftLeft = refl
  pointers_none to l r size ShiftRight = refl
  pointers_none to l r size Add = refl
  pointers_none to l r size Multiply = refl
  pointers_none to l r size Divide = refl
  pointers_none to l r size Remainder = refl

  unless_none : (o : Option ℕ) (code : List SlotOp) → None_in code → None_in (unless_register o code)
  unless_none None code h = h
  unless_none (Some x) code h = refl

  module _ (p : Program) where
    targets_none : (to l r : ℕ) (o : BinaryOp) (s t : CType) (a b : Option CType) → is_stop q (targets_op p to l r o s t a b) ≡ false
    targets_none to l r o s t None None = refl
    targets_none to l r o s t (Some a) None = mixed_none to l r _ o t
    targets_none to l r o s t None (Some b) = mixed_none to r l _ o s
    targets_none to l r o s t (Some a) (Some b) = pointers_none to l r _ o

    combine_none : (to l r : ℕ) (o : BinaryOp) (s t : CType) → is_stop q (combine_op p to l r o s t) ≡ false
    combine_none to l r o s t = targets_none to l r o s t (target_of s) (target_of t)

    referent_none : (d : ℕ) (r : Referent) → None_in (referent_code d r)
    referent_none d (Object o) = refl
    referent_none d (Local x) = refl
    referent_none d (Defined g) = refl
    referent_none d Declared = refl

    built_in_none : (d : ℕ) (name : List ℕ) (m : ℕ) → None_in (built_in_code d name m)
    built_in_none d name zero = by (bytes_eq name (codes "getchar"))
      where
        by : (b : Bool) → None_in (if b then op.GetChar d ∷ [] else [])
        by true = refl
        by false = refl
    built_in_none d name (suc m) = by (bytes_eq name (codes "putchar"))
      where
        by : (b : Bool) → None_in (if b then op.PutChar d ∷ [] else op.Exit d ∷ [])
        by true = refl
        by false = refl

    call_none : (d : ℕ) (r : Referent) (name : List ℕ) (m : ℕ) → None_in (call_code d r name m)
    call_none d (Object o) name m = refl
    call_none d (Local x) name m = refl
    call_none d (Defined g) name m = refl
    call_none d Declared name m = built_in_none d name m

    enter_none : (d : ℕ) (o : Option SymbolRow) (m : ℕ) → None_in (enter_code d o m)
    enter_none d None m = refl
    enter_none d (Some s) m = call_none d s.refers s.name m

    module _ (f : ℕ) where
      name_none : (d : ℕ) (o : Option SymbolRow) → None_in (name_code p f d o)
      name_none d None = refl
      name_none d (Some s) = referent_none d s.refers

      read_none : (d : ℕ) (o : Option ℕ) (t : CType) → None_in (read_at p f d o t)
      read_none d None t = load_none d t
      read_none d (Some x) t = refl

      write_none : (d : ℕ) (o : Option ℕ) (t : CType) → None_in (write_at p f d o t)
      write_none d None t = both_none (cast_code (suc d) t) _ (cast_none (suc d) (access_of t)) refl
      write_none d (Some x) t = both_none (cast_code (suc d) t) _ (cast_none (suc d) (access_of t)) refl

      update_none : (d : ℕ) (o : Option ℕ) (t : CType) (b : BinaryOp) (s : CType) (new : Bool) → None_in (update_at p f d o t b s new)
      update_none d None t b s new =
          past (op_none (combine_op p (suc d) (suc (suc d)) (suc d) b t s) (cast_code (suc d) t ++ (op.Store d (suc d) (kind_of t) ∷ op.Take d (if new then suc d else suc (suc d)) ∷ [])) (combine_none (suc d) (suc (suc d)) (suc d) b t s) (both_none (cast_code (suc d) t) (op.Store d (suc d) (kind_of t) ∷ op.Take d (if new then suc d else suc (suc d)) ∷ []) (cast_none (suc d) (access_of t)) refl))
      update_none d (Some x) t b s new =
          past (op_none (combine_op p (suc d) (suc (suc d)) (suc d) b t s) (cast_code (suc d) t ++ (op.WriteRegister (suc d) x (kind_of t) ∷ op.Take d (if new then suc d else suc (suc d)) ∷ [])) (combine_none (suc d) (suc (suc d)) (suc d) b t s) (both_none (cast_code (suc d) t) (op.WriteRegister (suc d) x (kind_of t) ∷ op.Take d (if new then suc d else suc (suc d)) ∷ []) (cast_none (suc d) (access_of t)) refl))

      combined_none : (d : ℕ) (o : BinaryOp) (s t : CType) → None_in (combine_op p d d (suc d) o s t ∷ [])
      combined_none d o s t = op_none _ [] (combine_none d d (suc d) o s t) refl

      choice_none : (at d : ℕ) (a b : List SlotOp) → None_in a → None_in b → None_in (choice_code at d a b)
      choice_none at d a b x y = past (both_none a (op.Jump (at + 1 + length a + 1 + length b) ∷ b) x (past y))

      assign_none : (a b : Typed) (at d : ℕ) (c : Bool) → None_in (place_code p f at d a) → None_in (place_code p f (at + length (place_code p f at d a)) (suc d) b)
          → None_in (expr_code p f (at + length (unless_register (register_in p f a) (place_code p f at d a))) (suc d) b)
          → None_in (if c then place_code p f at d a ++ (place_code p f (at + length (place_code p f at d a)) (suc d) b ++ op.Move d (suc d) (struct_number (type_of a)) ∷ op.Const d 0 ∷ []) else unless_register (register_in p f a) (place_code p f at d a) ++ (expr_code p f (at + length (unless_register (register_in p f a) (place_code p f at d a))) (suc d) b ++ write_at p f d (register_in p f a) (type_of a)))
      assign_none a b at d true ca cb eb = both_none (place_code p f at d a) _ ca (both_none (place_code p f (at + length (place_code p f at d a)) (suc d) b) _ cb refl)
      assign_none a b at d false ca cb eb =
          both_none (unless_register (register_in p f a) (place_code p f at d a)) _ (unless_none (register_in p f a) _ ca)
          (both_none (expr_code p f (at + length (unless_register (register_in p f a) (place_code p f at d a))) (suc d) b) _ eb (write_none d (register_in p f a) (type_of a)))

      mutual
        expr_none : (e : Typed) (at d : ℕ) → None_in (expr_code p f at d e)
        expr_none (Comma' h x a y b) at d = both_none (expr_code p f at d a) _ (expr_none a at d) (expr_none b _ d)
        expr_none (Assign' h x a None y b) at d =
            assign_none a b at d (is_struct (type_of a)) (place_none a at d) (place_none b (at + length (place_code p f at d a)) (suc d)) (expr_none b (at + length (unless_register (register_in p f a) (place_code p f at d a))) (suc d))
        expr_none (Assign' h x a (Some o) y b) at d =
            both_none (unless_register (register_in p f a) (place_code p f at d a)) _ (unless_none (register_in p f a) _ (place_none a at d))
            (both_none (expr_code p f (at + length (unless_register (register_in p f a) (place_code p f at d a))) (suc d) b) _ (expr_none b _ (suc d)) (update_none d (register_in p f a) (type_of a) o (type_of b) true))
        expr_none (Choice' h x c y a z b) at d =
            both_none (expr_code p f at d c) _ (expr_none c at d)
            (choice_none _ d (expr_code p f (at + length (expr_code p f at d c) + 1) d a ++ cast_code d h.ctype) _
            (both_none (expr_code p f (at + length (expr_code p f at d c) + 1) d a) _ (expr_none a _ d) (cast_none d (access_of h.ctype)))
            (both_none (expr_code p f (at + length (expr_code p f at d c) + 1 + length (expr_code p f (at + length (expr_code p f at d c) + 1) d a ++ cast_code d h.ctype) + 1) d b) _ (expr_none b _ d) (cast_none d (access_of h.ctype))))
        expr_none (Or' h x a y b) at d = both_none (expr_code p f at d a) _ (expr_none a at d) (past (both_none (expr_code p f (at + length (expr_code p f at d a) + 1) d b) _ (expr_none b _ d) refl))
        expr_none (And' h x a y b) at d = both_none (expr_code p f at d a) _ (expr_none a at d) (past (both_none (expr_code p f (at + length (expr_code p f at d a) + 1) d b) _ (expr_none b _ d) refl))
        expr_none (Binary' h x a o y b) at d =
            both_none (expr_code p f at d a) _ (expr_none a at d) (both_none (expr_code p f (at + length (expr_code p f at d a)) (suc d) b) _ (expr_none b _ (suc d)) (combined_none d o (type_of a) (type_of b)))
        expr_none (Cast' h x a) at d = both_none (expr_code p f at d a) _ (expr_none a at d) (cast_none d (access_of h.ctype))
        expr_none (Before' h o x a) at d = both_none (unless_register (register_in p f a) (place_code p f at d a)) _ (unless_none (register_in p f a) _ (place_none a at d)) ((past (update_none d (register_in p f a) (type_of a) (stepping o) ctype.Int true)))
        expr_none (Address' h x a) at d = place_none a at d
        expr_none (Unary' h o x a) at d = both_none (expr_code p f at d a) _ (expr_none a at d) refl
        expr_none (SizeOf' h x a) at d = refl
        expr_none (SizeOfType h t) at d = refl
        expr_none (Call' h g x row) at d = both_none (row_code p f at d row) _ (row_none row at d) (enter_none d (slice_get p.symbols g) (length (exprs row)))
        expr_none (After' h x a o) at d = both_none (unless_register (register_in p f a) (place_code p f at d a)) _ (unless_none (register_in p f a) _ (place_none a at d)) ((past (update_none d (register_in p f a) (type_of a) (stepping o) ctype.Int false)))
        expr_none (Constant h m) at d = refl
        expr_none (Parens' h x a) at d = expr_none a at d
        expr_none (Name h m) at d =
            both_none (unless_register (register_in p f (Name h m)) (name_code p f d (slice_get p.symbols m))) _ (unless_none (register_in p f (Name h m)) _ (name_none d (slice_get p.symbols m))) (read_none d (register_in p f (Name h m)) h.ctype)
        expr_none (Literal h m) at d = past (load_none d h.ctype)
        expr_none (Follow' h x a) at d = both_none (expr_code p f at d a) _ (expr_none a at d) (load_none d h.ctype)
        expr_none (Index' h x a y b) at d =
            both_none (place_code p f at d (Index' h x a y b)) _
            (both_none (expr_code p f at d a) _ (expr_none a at d) (both_none (expr_code p f (at + length (expr_code p f at d a)) (suc d) b) _ (expr_none b _ (suc d)) (combined_none d Add (type_of a) (type_of b))))
            (load_none d h.ctype)
        expr_none (Dot' h x a m) at d = both_none (place_code p f at d a ++ _) _ (both_none (place_code p f at d a) _ (place_none a at d) refl) (load_none d h.ctype)
        expr_none (Arrow' h x a m) at d = both_none (expr_code p f at d a ++ _) _ (both_none (expr_code p f at d a) _ (expr_none a at d) refl) (load_none d h.ctype)

        place_none : (e : Typed) (at d : ℕ) → None_in (place_code p f at d e)
        place_none (Name h m) at d = name_none d (slice_get p.symbols m)
        place_none (Literal h m) at d = refl
        place_none (Follow' h x a) at d = expr_none a at d
        place_none (Index' h x a y b) at d =
            both_none (expr_code p f at d a) _ (expr_none a at d) (both_none (expr_code p f (at + length (expr_code p f at d a)) (suc d) b) _ (expr_none b _ (suc d)) (combined_none d Add (type_of a) (type_of b)))
        place_none (Dot' h x a m) at d = both_none (place_code p f at d a) _ (place_none a at d) refl
        place_none (Arrow' h x a m) at d = both_none (expr_code p f at d a) _ (expr_none a at d) refl
        place_none (Parens' h x a) at d = place_none a at d
        place_none _ at d = refl

        row_none : {m : _} (row : Row_of-Typed m) (at d : ℕ) → None_in (row_code p f at d row)
        row_none end_of-Typed at d = refl
        row_none (more_of-Typed e rest) at d = both_none (expr_code p f at d e) _ (expr_none e at d) (row_none rest _ (suc d))

      -- ---- statements, each of whose points stands at most as often as it is listed

      abbrev point_of : Option Pointed → List ℕ
      point_of None = []
      point_of (Some c) = c.point ∷ []

      abbrev points_of_inits : List DeclaredLocal → List ℕ
      points_of_inits [] = []
      points_of_inits (d ∷ ds) = point_of d.init ++ points_of_inits ds

      part_few : (at : ℕ) (o : Option Pointed) → stops q (part_code p f at o) ≤ times q (point_of o)
      part_few at None = omega arith
      part_few at (Some c) = omega (arith, expr_none c.e (at + 1) 0)

      init_few : (at x : ℕ) (o : Option Pointed) → stops q (init_code p f at x o) ≤ times q (point_of o)
      init_few at x None = omega arith
      init_few at x (Some c) =
          let r = if_register x (register_of p f x) in
          let place = unless_register r (op.LocalAddress 0 x ∷ []) in
          let ce = expr_code p f (at + 1 + length place) 1 c.e in
          let none : None_in (place ++ (ce ++ write_at p f 0 r (local_type p f x))) = both_none place _ (unless_none r _ refl) (both_none ce _ (expr_none c.e _ 1) (write_none 0 r (local_type p f x))) in
          omega (arith, none)

      inits_few : (at : ℕ) (ds : List DeclaredLocal) → stops q (inits_code p f at ds) ≤ times q (points_of_inits ds)
      inits_few at [] = omega arith
      inits_few at (d ∷ ds) =
          let ci = init_code p f at d.local d.init in
          omega (arith, init_few at d.local d.init, inits_few (at + length ci) ds, stops_append q ci (inits_code p f (at + length ci) ds), times_append q (point_of d.init) (points_of_inits ds))

      zeros_none : (ds : List DeclaredLocal) → None_in (zeros_code ds)
      zeros_none [] = refl
      zeros_none (d ∷ ds) = past (zeros_none ds)

      test_few : (at : ℕ) (o : Option Pointed) (end : ℕ) → stops q (test_code p f at o end) ≤ times q (point_of o)
      test_few at None end = omega arith
      test_few at (Some c) end =
          let none : None_in (expr_code p f (at + 1) 0 c.e ++ op.JumpIfZero 0 end ∷ []) = both_none (expr_code p f (at + 1) 0 c.e) _ (expr_none c.e (at + 1) 0) refl in
          omega (arith, none)

      seeks_none : (ls : List Target) → None_in (seek_code ls)
      seeks_none [] = refl
      seeks_none (l ∷ ls) = past (seeks_none ls)

      loop_few : (at : ℕ) (first : Bool) (t c : Option Pointed) (body : List SlotOp) → stops q (loop_code p f at first t c body) ≤ times q (point_of t) + (times q (point_of c) + stops q body)
      loop_few at first t c body =
          let end = loop_body p f at t c + length body + 1 in
          let ct = part_code p f (at + 2) t in
          let cc = test_code p f (loop_test p f at t) c end in
          let back : List SlotOp = op.Jump (at + 2) ∷ [] in
          omega (arith, part_few (at + 2) t, test_few (loop_test p f at t) c end, stops_append q ct (cc ++ (body ++ back)), stops_append q cc (body ++ back), stops_append q body back)

      mutual
        stmt_few : (s : Stmt) (r : Around) (m at : ℕ) → stops q (stmt_code p f r m at s) ≤ times q (points_in s)
        stmt_few (Value x e) r m at = part_few at e
        stmt_few (Block' x ds y row l c) r m at =
            let zeros = zeros_code ds in
            let inits = inits_code p f (at + length zeros) ds in
            let code = block_code p f r (m + length ds) (at + length zeros + length inits) row in
            let leave : List SlotOp = op.Leave m ∷ [] in
            omega (arith, zeros_none ds, inits_few (at + length zeros) ds, row_few row r (m + length ds) (at + length zeros + length inits), stops_append q zeros (inits ++ (code ++ leave)), stops_append q inits (code ++ leave), stops_append q code leave, times_append q (points_of_inits ds) (points_in_row row))
        stmt_few (If' x c y s e) r m at =
            let test = expr_code p f (at + 1) 0 c.e in
            let start = at + 1 + length test in
            let ca = stmt_code p f r m (start + 1) s in
            let ce = else_code p f r m (start + 1 + length ca + 1) e in
            let skip : SlotOp = op.Jump (start + 1 + length ca + 1 + length ce) in
            omega (arith, expr_none c.e (at + 1) 0, stmt_few s r m (start + 1), else_few e r m (start + 1 + length ca + 1), stops_append q test (choice_code start 0 ca ce), stops_append q ca (skip ∷ ce), times_append q (points_in s) (points_in_else e))
        stmt_few (While' x c y s) r m at =
            let body = stmt_code p f (in_loop at m) m (loop_body p f at None (Some c)) s in
            omega (arith, loop_few at true None (Some c) body, stmt_few s (in_loop at m) m (loop_body p f at None (Some c)))
        stmt_few (Do' x y s c) r m at =
            let body = stmt_code p f (in_loop at m) m (loop_body p f at None (Some c)) s in
            omega (arith, loop_few at false None (Some c) body, stmt_few s (in_loop at m) m (loop_body p f at None (Some c)), times_append q (points_in s) (c.point ∷ []))
        stmt_few (For' x i c e y s) r m at =
            let ci = part_code p f at i in
            let start = at + length ci in
            let body = stmt_code p f (in_loop start m) m (loop_body p f start e c) s in
            let ic : List ℕ = point_of i ++ point_of c in
            omega (arith, part_few at i, loop_few start true e c body, stmt_few s (in_loop start m) m (loop_body p f start e c), stops_append q ci (loop_code p f start true e c body), times_append q (ic ++ point_of e) (points_in s), times_append q ic (point_of e), times_append q (point_of i) (point_of c))
        stmt_few (Switch' x c y s) r m at =
            let test = expr_code p f (at + 1) 0 c.e in
            let start = at + 1 + length test in
            let around = in_switch start m r in
            let body = body_code p f around m (start + 2) s in
            let targets = body_targets p f around m (start + 2) s in
            let defaults = body_defaults p f around m (start + 2) s in
            let over = start + 2 + length body in
            let end = over + 1 + length targets + 1 in
            let last : List SlotOp = op.Jump (first_target over defaults) ∷ [] in
            let rest : List SlotOp = op.Jump end ∷ (seek_code targets ++ last) in
            omega (arith, expr_none c.e (at + 1) 0, body_few s around m (start + 2), seeks_none targets, stops_append q test (switch_code start body targets defaults), stops_append q body rest, stops_append q (seek_code targets) last)
        stmt_few (Case' x c y s) r m at = stmt_few s r m at
        stmt_few (Default' x y s) r m at = stmt_few s r m at
        stmt_few (Break x) r m at = omega arith
        stmt_few (Continue x) r m at = omega arith
        stmt_few (Return x c None) r m at = omega arith
        stmt_few (Return x c (Some e)) r m at =
            let cast = cast_code 0 (result_type p f) in
            let ce = expr_code p f (at + 1) 0 e in
            omega (arith, expr_none e (at + 1) 0, cast_none 0 (access_of (result_type p f)), stops_append q ce (cast ++ op.Jump 2 ∷ []), stops_append q cast (op.Jump 2 ∷ []))

        row_few : {k : _} (row : Row_of-Stmt k) (r : Around) (m at : ℕ) → stops q (block_code p f r m at row) ≤ times q (points_in_row row)
        row_few end_of-Stmt r m at = omega arith
        row_few (more_of-Stmt s rest) r m at =
            let cs = stmt_code p f r m at s in
            omega (arith, stmt_few s r m at, row_few rest r m (at + length cs), stops_append q cs (block_code p f r m (at + length cs) rest), times_append q (points_in s) (points_in_row rest))

        else_few : (e : Held-Stmt-If-3) (r : Around) (m at : ℕ) → stops q (else_code p f r m at e) ≤ times q (points_in_else e)
        else_few None' r m at = omega arith
        else_few (Some' x s) r m at = stmt_few s r m at

        body_few : (s : Stmt) (r : Around) (m at : ℕ) → stops q (body_code p f r m at s) ≤ times q (points_in s)
        body_few (Block' x ds y row l c) r m at = omega (arith, row_few row r m at, times_append q (points_of_inits ds) (points_in_row row))
        body_few _ r m at = omega arith

      -- a body, with its objects and initializers
      pub block_few : (b : Stmt) (m at : ℕ)
          → stops q (zeros_code (declared_in b) ++ (inits_code p f (at + length (zeros_code (declared_in b))) (declared_in b) ++ stmts_code p f nowhere m (at + length (zeros_code (declared_in b)) + length (inits_code p f (at + length (zeros_code (declared_in b))) (declared_in b))) (statements_in b))) ≤ times q (points_in b)
      block_few (Block' x ds y row l c) m at =
          let zeros = zeros_code ds in
          let inits = inits_code p f (at + length zeros) ds in
          let start = at + length zeros + length inits in
          let code = stmts_code p f nowhere m start (stmts row) in
          let same = ap (stops q) (block_stmts p f nowhere m start row) in
          omega (arith, zeros_none ds, inits_few (at + length zeros) ds, row_few row nowhere m start, same, stops_append q zeros (inits ++ code), stops_append q inits code, times_append q (points_of_inits ds) (points_in_row row))
      block_few _ m at = omega arith

pub zero_none : (q : ℕ) (t : CType) → is_stop q (zero_code t) ≡ false
zero_none q ctype.Char = refl
zero_none q ctype.Int = refl
zero_none q ctype.Unsigned = refl
zero_none q ctype.Void = refl
zero_none q (ctype.Pointer' x t) = refl
zero_none q (ctype.Array' x t m) = refl
zero_none q (ctype.Struct s) = refl

-- ---- a stop that stands at most once

self_number : (x : ℕ) → (x == x) ≡ true
self_number x = grind arith

same_number : (x y : ℕ) → (x == y) ≡ true → x ≡ y
same_number x y h = grind (arith, h)

one_self : (q : ℕ) (o : SlotOp) → o ≡ op.Stop q → one (is_stop q o) ≡ 1
one_self q o e = ap (λ o. one (is_stop q o)) e ∙ ap one (self_number q)

stands_some : (q : ℕ) (l : List SlotOp) (i : ℕ) → slice_get l i ≡ Some (op.Stop q) → 1 ≤ stops q l
stands_some q [] i e = no_none (op.Stop q) e
stands_some q (o ∷ l) zero e = omega (arith, one_self q o (some_same o (op.Stop q) e))
stands_some q (o ∷ l) (suc i) e = omega (arith, stands_some q l i e)

pub stands_once : (q : ℕ) (l : List SlotOp) → stops q l ≤ 1 → (i j : ℕ) → slice_get l i ≡ Some (op.Stop q) → slice_get l j ≡ Some (op.Stop q) → i ≡ j
stands_once q [] few i j e g = no_none (op.Stop q) e
stands_once q (o ∷ l) few zero zero e g = refl
stands_once q (o ∷ l) few zero (suc j) e g = absurd (omega (arith, few, one_self q o (some_same o (op.Stop q) e), stands_some q l j g))
stands_once q (o ∷ l) few (suc i) zero e g = absurd (omega (arith, few, one_self q o (some_same o (op.Stop q) g), stands_some q l i e))
stands_once q (o ∷ l) few (suc i) (suc j) e g = ap suc (stands_once q l (omega (arith, few)) i j e g)

-- numbers that follow one another differ
before_by : (q k rest : ℕ) (b : Bool) → (q == k) ≡ b → q < k → rest ≡ 0 → one b + rest ≡ 0
before_by q k rest true e lt z = let same = same_number q k e in absurd (omega (arith, lt, same))
before_by q k rest false e lt z = omega (arith, z)

none_before : (q k n : ℕ) → q < k → times q (numbers k n) ≡ 0
none_before q k zero lt = refl
none_before q k (suc n) lt = before_by q k (times q (numbers (suc k) n)) (q == k) refl lt (none_before q (suc k) n (omega (arith, lt)))

differ_by : (q k rest : ℕ) (b : Bool) → (q == k) ≡ b → (q < suc k → rest ≡ 0) → rest ≤ 1 → one b + rest ≤ 1
differ_by q k rest true e z h = let same = same_number q k e in let none = z (omega (arith, same)) in omega (arith, none)
differ_by q k rest false e z h = omega (arith, h)

pub numbers_differ : (q k n : ℕ) → times q (numbers k n) ≤ 1
numbers_differ q k zero = omega arith
numbers_differ q k (suc n) = differ_by q k (times q (numbers (suc k) n)) (q == k) refl (none_before q (suc k) n) (numbers_differ q (suc k) n)

-- ---- and so at its listed place alone

pub listed : (code : List SlotOp) (q i : ℕ) (qs is : List ℕ) → stops q code ≤ 1 → Among q qs → ArePlaces code qs is → slice_get code i ≡ Some (op.Stop q) → IsListed q i qs is
listed code q i [] is few a h e = absurd a
listed code q i (r ∷ qs) [] few a h e = absurd h
listed code q i (r ∷ qs) (j ∷ is) few (inl same) h e = inl (same, stands_once q code few i j e (h.0 ∙ ap (λ x. Some (op.Stop x)) (sym same)))
listed code q i (r ∷ qs) (j ∷ is) few (inr more) h e = inr (listed code q i qs is few more h.1 e)
