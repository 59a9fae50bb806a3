-- How many temporaries the code of an expression takes.
use Rattle.std.specs.Prelude.{ℕ, suc, ◌+◌, ◌≤◌, ◌<◌, max, List, [], ◌∷◌, Option, Some, None}
use Rattle.c_tree.specs.declared.typed.Typed.{Typed, Row_of-Typed, end_of-Typed, more_of-Typed}
use Rattle.c_tree.specs.declared.typed.Typed.TheVariants.{Comma', Assign', Choice', Or', And', Binary', Cast', Before', Address', Follow', Unary', Index', Call', Dot', Arrow', After', Parens'}
use Rattle.c_tree.specs.declared.typed.Pointed.{Pointed}
use Rattle.c_tree.specs.declared.typed.DeclaredLocal.{DeclaredLocal}
use Rattle.c_tree.specs.declared.typed.Stmt.{Stmt, Row_of-Stmt, end_of-Stmt, more_of-Stmt, Held-Stmt-If-3, None', Some'}
use Rattle.c_tree.specs.declared.typed.Stmt.TheVariants.{Value, Block', If', While', Do', For', Switch', Case', Default', Break, Continue, Return as ReturnStmt}
use Rattle.c_tree.specs.declared.rows.Function.{Function}
use Rattle.slot_ir.specs.declared.code.SlotOp.{SlotOp}
use Rattle.slot_ir.specs.declared.code.SlotOp.TheVariants.{Const, Null, StaticAddress, TextAddress, LocalAddress, Load, Store, ReadRegister, WriteRegister, Convert, Unary, Binary, Compare, Index, Distance, Offset, Take, Jump, JumpIfZero, JumpIfNotZero, JumpIfEqual, Call, Return, Stop, Move, Zero, Leave, GetChar, PutChar, Exit}

-- from the temporary of its value on; an operand on the right stands one higher, and a compound assignment keeps three values
abbrev mutual
  pub temps_of : Typed → ℕ
  temps_of (Comma' h _ a _ b) = max (temps_of a) (temps_of b)
  temps_of (Assign' h _ a op _ b) = max 3 (max (temps_of a) (suc (temps_of b)))
  temps_of (Choice' h _ c _ a _ b) = max (temps_of c) (max (temps_of a) (temps_of b))
  temps_of (Or' h _ a _ b) = max (temps_of a) (temps_of b)
  temps_of (And' h _ a _ b) = max (temps_of a) (temps_of b)
  temps_of (Binary' h _ a op _ b) = max (temps_of a) (suc (temps_of b))
  temps_of (Cast' h _ a) = temps_of a
  temps_of (Before' h op _ a) = max 3 (temps_of a)
  temps_of (Address' h _ a) = temps_of a
  temps_of (Follow' h _ a) = temps_of a
  temps_of (Unary' h op _ a) = temps_of a
  temps_of (Index' h _ a _ b) = max (temps_of a) (suc (temps_of b))
  temps_of (Call' h f _ row) = max 1 (row_temps row)
  temps_of (Dot' h _ a m) = temps_of a
  temps_of (Arrow' h _ a m) = temps_of a
  temps_of (After' h _ a op) = max 3 (temps_of a)
  temps_of (Parens' h _ a) = temps_of a
  temps_of _ = 1

  pub row_temps : {m : _} → Row_of-Typed m → ℕ
  row_temps end_of-Typed = 0
  row_temps (more_of-Typed e rest) = max (temps_of e) (suc (row_temps rest))

-- the operator names temporaries below n alone
abbrev pub IsBelow : ℕ → SlotOp → Type 0
IsBelow n (Const d b) = d < n
IsBelow n (Null d) = d < n
IsBelow n (StaticAddress d o) = d < n
IsBelow n (TextAddress d k) = d < n
IsBelow n (LocalAddress d x) = d < n
IsBelow n (Load d i k a) = (d < n) × (i < n)
IsBelow n (Store i j k) = (i < n) × (j < n)
IsBelow n (ReadRegister d x k a) = d < n
IsBelow n (WriteRegister j x k) = j < n
IsBelow n (Convert d a) = d < n
IsBelow n (Unary d op) = d < n
IsBelow n (Binary d i j op) = (d < n) × (i < n) × (j < n)
IsBelow n (Compare d i j op) = (d < n) × (i < n) × (j < n)
IsBelow n (Index d i j size u back) = (d < n) × (i < n) × (j < n)
IsBelow n (Distance d i j size) = (d < n) × (i < n) × (j < n)
IsBelow n (Offset d b) = d < n
IsBelow n (Take d i) = (d < n) × (i < n)
IsBelow n (Jump place) = Unit {0}
IsBelow n (JumpIfZero d place) = d < n
IsBelow n (JumpIfNotZero d place) = d < n
IsBelow n (JumpIfEqual d b place) = d < n
IsBelow n (Call d f m) = (d < n) × (d + m ≤ n)
IsBelow n (Return d) = d < n
IsBelow n (Stop q) = Unit {0}
IsBelow n (Move i j s) = (i < n) × (j < n)
IsBelow n (Zero x) = Unit {0}
IsBelow n (Leave m) = Unit {0}
IsBelow n (GetChar d) = d < n
IsBelow n (PutChar d) = d < n
IsBelow n (Exit d) = d < n

abbrev pub AreBelow : ℕ → List SlotOp → Type 0
AreBelow n [] = Unit {0}
AreBelow n (o ∷ rest) = IsBelow n o × AreBelow n rest

-- ---- statements and functions

abbrev pub part_temps : Option Pointed → ℕ
part_temps None = 0
part_temps (Some q) = temps_of q.e

abbrev pub result_temps : Option Typed → ℕ
result_temps None = 1
result_temps (Some e) = temps_of e

-- an initializer's local stands below its expression
abbrev pub init_temps : Option Pointed → ℕ
init_temps None = 0
init_temps (Some q) = suc (temps_of q.e)

abbrev pub inits_temps : List DeclaredLocal → ℕ
inits_temps [] = 0
inits_temps (d ∷ ds) = max (init_temps d.init) (inits_temps ds)

abbrev mutual
  pub stmt_temps : Stmt → ℕ
  stmt_temps (Value s e) = part_temps e
  stmt_temps (Block' s ds _ row l c) = max (inits_temps ds) (row_of_temps row)
  stmt_temps (If' s q _ a b) = max (temps_of q.e) (max (stmt_temps a) (else_temps b))
  stmt_temps (While' s q _ b) = max (temps_of q.e) (stmt_temps b)
  stmt_temps (Do' s _ b q) = max (temps_of q.e) (stmt_temps b)
  stmt_temps (For' s i q t _ b) = max (part_temps i) (max (part_temps q) (max (part_temps t) (stmt_temps b)))
  stmt_temps (Switch' s q _ b) = max (temps_of q.e) (stmt_temps b)
  stmt_temps (Case' s c _ b) = stmt_temps b
  stmt_temps (Default' s _ b) = stmt_temps b
  stmt_temps (Break s) = 0
  stmt_temps (Continue s) = 0
  stmt_temps (ReturnStmt s q e) = result_temps e

  pub row_of_temps : {m : _} → Row_of-Stmt m → ℕ
  row_of_temps end_of-Stmt = 0
  row_of_temps (more_of-Stmt s rest) = max (stmt_temps s) (row_of_temps rest)

  pub else_temps : Held-Stmt-If-3 → ℕ
  else_temps None' = 0
  else_temps (Some' _ s) = stmt_temps s

-- a function gives a result, so it takes one
abbrev pub function_temps : Function → ℕ
function_temps f = max 1 (stmt_temps f.body)
