-- What the emitter makes of parts that the code of a form has in several cases.
use Rattle.std.specs.Prelude.{ℕ, ◌+◌, List, [], ◌∷◌, ◌++◌, length, Bool, if◌then◌else◌, true, false, Option, Some, None}
use Rattle.c_tree.specs.declared.types.CType.{CType}
use Rattle.c_tree.specs.declared.typed.BinaryOp.{BinaryOp}
use Rattle.c_tree.specs.declared.rows.Program.{Program}
use Rattle.c_tree.specs.declared.rows.Function.{Function}
use Rattle.c_tree.specs.Types.{is_struct}
use Rattle.c_tree.specs.Rows.{declared_in, statements_in}
use Rattle.slot_ir.specs.declared.code.SlotOp.{SlotOp}
use Rattle.slot_ir.specs.declared.code.SlotOp.TheVariants.{Jump}
use Rattle.c_tree.specs.declared.typed.Pointed.{Pointed}
use Rattle.c_tree.specs.declared.typed.Stmt.{Stmt}
use Rattle.slot_gen.specs.declared.loops.Around.{Around as Given}
use Rattle.slot_gen.specs.Expressions.{write_at, update_at}
use Rattle.slot_gen.specs.Statements.{Around, nowhere, end_place, zeros_code, inits_code, stmts_code, zero_code, in_loop, in_switch, loop_body, loop_code, switch_code, stmt_code, body_code, body_targets, body_defaults}

-- an assignment that is not compound and whose left operand is a struct
abbrev pub copies : Option BinaryOp → CType → Bool
copies None t = is_struct t
copies (Some op) t = false

-- an assignment of the value in the next temporary, compound where it has an operator
abbrev pub assigned_at : Program → ℕ → (d : ℕ) → Option ℕ → CType → Option BinaryOp → CType → List SlotOp
assigned_at p f d r t None s = write_at p f d r t
assigned_at p f d r t (Some op) s = update_at p f d r t op s true

abbrev pub around_of : Given → Around
around_of r = record { leave = r.leave; leave_scope = r.leave_scope; again = r.again; again_scope = r.again_scope }

-- the place that `default` goes to, where there is one
abbrev pub first_place : List ℕ → Option ℕ
first_place [] = None
first_place (d ∷ ds) = Some d

module _ (p : Program) (f : ℕ) where
  -- a loop with so many locals in scope, and a `switch` behind its test
  abbrev pub repeated_code : (scope at : ℕ) (first : Bool) → Option Pointed → Option Pointed → Stmt → List SlotOp
  repeated_code n at first t q s = loop_code p f at first t q (stmt_code p f (in_loop at n) n (loop_body p f at t q) s)

  abbrev pub switched_code : Around → (scope at : ℕ) → Stmt → List SlotOp
  switched_code r n at s =
      switch_code at (body_code p f (in_switch at n r) n (at + 2) s) (body_targets p f (in_switch at n r) n (at + 2) s) (body_defaults p f (in_switch at n r) n (at + 2) s)

  -- a function's body, behind its first operators
  abbrev pub whole_body : (scope at : ℕ) → Function → List SlotOp
  whole_body n at fn =
      let ds = declared_in fn.body in
      let zeros = zeros_code ds in
      let inits = inits_code p f (at + length zeros) ds in
      zeros ++ (inits ++ (stmts_code p f nowhere n (at + length zeros + length inits) (statements_in fn.body) ++ zero_code fn.result ∷ Jump end_place ∷ []))

-- the first `default` among one that was found and one that may stand at a place
abbrev pub first_default_at : Option ℕ → (at : ℕ) → Bool → Option ℕ
first_default_at (Some d) at b = Some d
first_default_at None at b = if b then Some at else None
