-- The slot code of statements and functions.
use Rattle.std.specs.Prelude.{ℕ, ◌+◌, List, [], ◌∷◌, ◌++◌, Bool, true, false, Option, Some, None, length, if◌then◌else◌}
use Rattle.c_tree.specs.declared.types.CType.{CType}
use Rattle.c_tree.specs.declared.types.CType.TheVariants.{Pointer'}
use Rattle.c_tree.specs.declared.typed.Pointed.{Pointed}
use Rattle.c_tree.specs.declared.typed.DeclaredLocal.{DeclaredLocal}
use Rattle.c_tree.specs.declared.typed.Stmt.{Stmt, Row_of-Stmt, end_of-Stmt, more_of-Stmt, Held-Stmt-If-3, None', Some'}
use Rattle.c_tree.specs.declared.typed.Stmt.TheVariants.{Value as Expression, Block', If', While', Do', For', Switch', Case', Default', Break, Continue, Return}
use Rattle.c_tree.specs.declared.rows.Program.{Program}
use Rattle.c_tree.specs.declared.rows.Function.{Function}
use Rattle.c_source.specs.Blocks.{local_type, result_type}
use Rattle.c_tree.specs.Rows.{declared_in, statements_in}
use Rattle.c_source.specs.Control.{outermost_of}
use Rattle.c_tree.specs.Points.{first_of, last_of}
use Rattle.slot_ir.specs.declared.code.SlotOp.{SlotOp}
use Rattle.slot_ir.specs.declared.code.SlotOp.TheVariants.{Const, Null, LocalAddress, Jump, JumpIfZero, JumpIfEqual, Return as ReturnOp, Stop, Zero, Leave}
use Rattle.slot_gen.specs.Expressions.{expr_code, cast_code, choice_code, write_at, unless_register, register_of, if_register}

-- where `break` and `continue` go, and how many locals are in scope there
pub record Around : Type 0 where
  pub leave : ℕ
  pub leave_scope : ℕ
  pub again : ℕ
  pub again_scope : ℕ

abbrev pub nowhere : Around
nowhere = record { leave = 0; leave_scope = 0; again = 0; again_scope = 0 }

-- a label of a `switch` and the place of its statement
pub record Target : Type 0 where
  pub constant : ℕ
  pub place : ℕ

-- Where a function's code goes on before it ends. Its first operators are its first point, a jump to its body, and its end: the blocks are left, the last point, and the return.
abbrev pub end_place : ℕ
end_place = 2

abbrev pub body_place : ℕ
body_place = 5

-- the labels directly before a statement
abbrev pub constants_of : Stmt → List ℕ
constants_of (Case' at c _ s) = c ∷ constants_of s
constants_of (Default' at _ s) = constants_of s
constants_of s = []

abbrev pub is_default : Stmt → Bool
is_default (Case' at c _ s) = is_default s
is_default (Default' at _ s) = true
is_default s = false

abbrev pub targets_at : (place : ℕ) → List ℕ → List Target
targets_at place [] = []
targets_at place (c ∷ cs) = record { constant = c; place = place } ∷ targets_at place cs

abbrev pub seek_code : List Target → List SlotOp
seek_code [] = []
seek_code (l ∷ ls) = JumpIfEqual 0 l.constant l.place ∷ seek_code ls

-- the first of these places, or this one
abbrev pub first_target : (place : ℕ) → List ℕ → ℕ
first_target place [] = place
first_target place (d ∷ ds) = d

abbrev pub zeros_code : List DeclaredLocal → List SlotOp
zeros_code [] = []
zeros_code (d ∷ ds) = Zero d.local ∷ zeros_code ds

-- inside a loop or a `switch` with so many locals in scope
abbrev pub in_loop : (at scope : ℕ) → Around
in_loop at scope = record { leave = at + 1; leave_scope = scope; again = at + 2; again_scope = scope }

abbrev pub in_switch : (at scope : ℕ) → Around → Around
in_switch at scope r = record r { leave = at + 1; leave_scope = scope }

-- A `switch`: a jump to its labels, a jump past its end for each `break`, its body, a jump past its end, and its labels compared one by one.
abbrev pub switch_code : (at : ℕ) → List SlotOp → List Target → List ℕ → List SlotOp
switch_code at body labels default =
    let over = at + 2 + length body in
    let end = over + 1 + length labels + 1 in
    Jump (over + 1) ∷ Jump end ∷ (body ++ Jump end ∷ (seek_code labels ++ Jump (first_target over default) ∷ []))

-- ---- statements of function number f

module _ (p : Program) (f : ℕ) where
  -- an expression at its stopping point, whose value is dropped
  abbrev pub part_code : (at : ℕ) → Option Pointed → List SlotOp
  part_code at None = []
  part_code at (Some q) = Stop q.point ∷ expr_code p f (at + 1) 0 q.e

  -- an initializer, which is an assignment to its local
  abbrev pub init_code : (at local : ℕ) → Option Pointed → List SlotOp
  init_code at x None = []
  init_code at x (Some q) =
      let r = if_register x (register_of p f x) in
      let place = unless_register r (LocalAddress 0 x ∷ []) in
      Stop q.point ∷ (place ++ (expr_code p f (at + 1 + length place) 1 q.e ++ write_at p f 0 r (local_type p f x)))

  abbrev pub inits_code : (at : ℕ) → List DeclaredLocal → List SlotOp
  inits_code at [] = []
  inits_code at (d ∷ ds) = let ci = init_code at d.local d.init in ci ++ inits_code (at + length ci) ds

  -- a test at its stopping point, which jumps where it fails
  abbrev pub test_code : (at : ℕ) → Option Pointed → (end : ℕ) → List SlotOp
  test_code at None end = []
  test_code at (Some q) end = Stop q.point ∷ (expr_code p f (at + 1) 0 q.e ++ JumpIfZero 0 end ∷ [])

  -- where a loop's test and its body stand; it begins with two jumps and its third part
  abbrev pub loop_test : (at : ℕ) → Option Pointed → ℕ
  loop_test at t = at + 2 + length (part_code (at + 2) t)

  abbrev pub loop_body : (at : ℕ) → Option Pointed → Option Pointed → ℕ
  loop_body at t q = loop_test at t + length (test_code (loop_test at t) q 0)

  -- A loop: a jump to its start, a jump past its end for each `break`, its third part, its test, its body, and a jump to the third part.
  abbrev pub loop_code : (at : ℕ) (first : Bool) → Option Pointed → Option Pointed → List SlotOp → List SlotOp
  loop_code at first t q body =
      let end = loop_body at t q + length body + 1 in
      Jump (if first then loop_test at t else loop_body at t q) ∷ Jump end
      ∷ (part_code (at + 2) t ++ (test_code (loop_test at t) q end ++ (body ++ Jump (at + 2) ∷ [])))

  -- a statement's code at this place, with so many locals in scope
  abbrev mutual
    pub stmt_code : Around → (scope at : ℕ) → Stmt → List SlotOp
    stmt_code r n at (Expression s e) = part_code at e
    stmt_code r n at (Block' s ds _ row l c) =
        let zeros = zeros_code ds in
        let inits = inits_code (at + length zeros) ds in
        zeros ++ (inits ++ (block_code r (n + length ds) (at + length zeros + length inits) row ++ Leave n ∷ []))
    stmt_code r n at (If' s q _ a b) =
        let test = expr_code p f (at + 1) 0 q.e in
        let start = at + 1 + length test in
        let ca = stmt_code r n (start + 1) a in
        Stop q.point ∷ (test ++ choice_code start 0 ca (else_code r n (start + 1 + length ca + 1) b))
    stmt_code r n at (While' s q _ b) =
        loop_code at true None (Some q) (stmt_code (in_loop at n) n (loop_body at None (Some q)) b)
    stmt_code r n at (Do' s _ b q) =
        loop_code at false None (Some q) (stmt_code (in_loop at n) n (loop_body at None (Some q)) b)
    stmt_code r n at (For' s i q t _ b) =
        let ci = part_code at i in
        let start = at + length ci in
        ci ++ loop_code start true t q (stmt_code (in_loop start n) n (loop_body start t q) b)
    stmt_code r n at (Switch' s q _ b) =
        let test = expr_code p f (at + 1) 0 q.e in
        let start = at + 1 + length test in
        Stop q.point ∷ (test ++ switch_code start (body_code (in_switch start n r) n (start + 2) b) (body_targets (in_switch start n r) n (start + 2) b) (body_defaults (in_switch start n r) n (start + 2) b))
    stmt_code r n at (Case' s c _ b) = stmt_code r n at b
    stmt_code r n at (Default' s _ b) = stmt_code r n at b
    stmt_code r n at (Break s) = Leave r.leave_scope ∷ Jump r.leave ∷ []
    stmt_code r n at (Continue s) = Leave r.again_scope ∷ Jump r.again ∷ []
    stmt_code r n at (Return s q None) = Stop q ∷ Const 0 0 ∷ Jump end_place ∷ []
    stmt_code r n at (Return s q (Some e)) = Stop q ∷ (expr_code p f (at + 1) 0 e ++ (cast_code 0 (result_type p f) ++ Jump end_place ∷ []))

    pub else_code : Around → (scope at : ℕ) → Held-Stmt-If-3 → List SlotOp
    else_code r n at None' = []
    else_code r n at (Some' _ s) = stmt_code r n at s

    pub block_code : {m : _} → Around → (scope at : ℕ) → Row_of-Stmt m → List SlotOp
    block_code r n at end_of-Stmt = []
    block_code r n at (more_of-Stmt s rest) = let cs = stmt_code r n at s in cs ++ block_code r n (at + length cs) rest

    -- the statements of a `switch`, its labels with their places, and the places of `default`
    pub body_code : Around → (scope at : ℕ) → Stmt → List SlotOp
    body_code r n at (Block' s ds _ row l c) = block_code r n at row
    body_code r n at s = []

    pub body_targets : Around → (scope at : ℕ) → Stmt → List Target
    body_targets r n at (Block' s ds _ row l c) = row_targets r n at row
    body_targets r n at s = []

    pub body_defaults : Around → (scope at : ℕ) → Stmt → List ℕ
    body_defaults r n at (Block' s ds _ row l c) = row_defaults r n at row
    body_defaults r n at s = []

    pub row_targets : {m : _} → Around → (scope at : ℕ) → Row_of-Stmt m → List Target
    row_targets r n at end_of-Stmt = []
    row_targets r n at (more_of-Stmt s rest) = targets_at at (constants_of s) ++ row_targets r n (at + length (stmt_code r n at s)) rest

    pub row_defaults : {m : _} → Around → (scope at : ℕ) → Row_of-Stmt m → List ℕ
    row_defaults r n at end_of-Stmt = []
    row_defaults r n at (more_of-Stmt s rest) = if is_default s then at ∷ [] else row_defaults r n (at + length (stmt_code r n at s)) rest

  -- statements as a list
  abbrev pub stmts_code : Around → (scope at : ℕ) → List Stmt → List SlotOp
  stmts_code r n at [] = []
  stmts_code r n at (s ∷ rest) = let cs = stmt_code r n at s in cs ++ stmts_code r n (at + length cs) rest

  abbrev pub targets_of : Around → (scope at : ℕ) → List Stmt → List Target
  targets_of r n at [] = []
  targets_of r n at (s ∷ rest) = targets_at at (constants_of s) ++ targets_of r n (at + length (stmt_code r n at s)) rest

  abbrev pub defaults_of : Around → (scope at : ℕ) → List Stmt → List ℕ
  defaults_of r n at [] = []
  defaults_of r n at (s ∷ rest) = if is_default s then at ∷ [] else defaults_of r n (at + length (stmt_code r n at s)) rest

-- a result of 0, of a function whose end is reached
abbrev pub zero_code : CType → SlotOp
zero_code (Pointer' _ t) = Null 0
zero_code t = Const 0 0

-- the code of function number f
abbrev pub function_code : Program → ℕ → Function → List SlotOp
function_code p f fn =
    let ds = declared_in fn.body in
    let zeros = zeros_code ds in
    let inits = inits_code p f (body_place + length zeros) ds in
    Stop (first_of fn.points) ∷ Jump body_place ∷ Leave (outermost_of fn) ∷ Stop (last_of fn.points) ∷ ReturnOp 0
    ∷ (zeros ++ (inits ++ (stmts_code p f nowhere (outermost_of fn) (body_place + length zeros + length inits) (statements_in fn.body) ++ zero_code fn.result ∷ Jump end_place ∷ [])))
