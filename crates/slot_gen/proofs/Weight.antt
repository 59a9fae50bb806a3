-- What remains to be done, as a number that falls where a step of the program has no operator of its own.
use Rattle.std.proofs.Common.{ℕ, suc, ◌+◌, ◌*◌, ◌≤◌, List, [], ◌∷◌, ◌++◌, Option, Some, None, arith}
use Rattle.c_tree.specs.declared.typed.Typed.{Typed, Row_of-Typed, end_of-Typed, more_of-Typed}
use Rattle.c_tree.specs.declared.typed.Typed.TheVariants.{Comma', Assign', Choice', Or', And', Binary', Cast', Before', Address', Follow', Unary', SizeOf', Index', Call', Dot', Arrow', After', Parens'}
use Rattle.c_tree.specs.declared.typed.Pointed.{Pointed}
use Rattle.c_tree.specs.declared.typed.DeclaredLocal.{DeclaredLocal}
use Rattle.c_tree.specs.declared.typed.Stmt.{Stmt, Row_of-Stmt, end_of-Stmt, more_of-Stmt}
use Rattle.c_tree.specs.declared.typed.Stmt.TheVariants.{Value, Block', If', While', Do', For', Switch', Case', Default', Break, Continue, Return}
use Rattle.c_tree.specs.Rows.{exprs, stmts}
use Rattle.c_source.specs.Control.{Item, Eval, Locate, Bound, Load, Convert, Use, Discard, Run, Open, runs_of, evals_of}

abbrev mutual
  pub size : Typed → ℕ
  size (Comma' h _ a _ b) = suc (size a + size b)
  size (Assign' h _ a op _ b) = suc (size a + size b)
  size (Choice' h _ c _ a _ b) = suc (size c + (size a + size b))
  size (Or' h _ a _ b) = suc (size a + size b)
  size (And' h _ a _ b) = suc (size a + size b)
  size (Binary' h _ a op _ b) = suc (size a + size b)
  size (Cast' h _ a) = suc (size a)
  size (Before' h op _ a) = suc (size a)
  size (Address' h _ a) = suc (size a)
  size (Follow' h _ a) = suc (size a)
  size (Unary' h op _ a) = suc (size a)
  size (SizeOf' h _ a) = suc (size a)
  size (Index' h _ a _ b) = suc (size a + size b)
  size (Call' h f _ row) = suc (sizes row)
  size (Dot' h _ a m) = suc (size a)
  size (Arrow' h _ a m) = suc (size a)
  size (After' h _ a op) = suc (size a)
  size (Parens' h _ a) = suc (size a)
  size _ = 1

  pub sizes : {m : _} → Row_of-Typed m → ℕ
  sizes end_of-Typed = 0
  sizes (more_of-Typed e rest) = 1 + (size e + sizes rest)

abbrev pub part_weight : Option Pointed → ℕ
part_weight None = 0
part_weight (Some q) = 8 * size q.e + 5

abbrev pub result_weight : Option Typed → ℕ
result_weight None = 0
result_weight (Some e) = 8 * size e + 5

abbrev pub inits_weight : List DeclaredLocal → ℕ
inits_weight [] = 0
inits_weight (d ∷ ds) = part_weight d.init + inits_weight ds

abbrev mutual
  pub stmt_weight : Stmt → ℕ
  stmt_weight (Value s e) = 2 + part_weight e
  stmt_weight (Block' s ds _ row l c) = 4 + (inits_weight ds + row_weight row)
  stmt_weight (If' s q _ a b) = 2 + (8 * size q.e + 5)
  stmt_weight (While' s q _ b) = 2 + (8 * size q.e + 5)
  stmt_weight (Do' s _ b q) = 2 + stmt_weight b
  stmt_weight (For' s i q t _ b) = 2 + (part_weight i + (part_weight q + stmt_weight b))
  stmt_weight (Switch' s q _ b) = 2 + (8 * size q.e + 5)
  stmt_weight (Case' s c _ b) = 2 + stmt_weight b
  stmt_weight (Default' s _ b) = 2 + stmt_weight b
  stmt_weight (Break s) = 2
  stmt_weight (Continue s) = 2
  stmt_weight (Return s q e) = 2 + result_weight e

  pub row_weight : {m : _} → Row_of-Stmt m → ℕ
  row_weight end_of-Stmt = 0
  row_weight (more_of-Stmt s rest) = stmt_weight s + row_weight rest

abbrev pub item_weight : Item → ℕ
item_weight (Eval e) = 8 * size e + 2
item_weight (Locate e) = 8 * size e
item_weight (Bound x) = 1
item_weight (Load t) = 1
item_weight (Convert t) = 1
item_weight Use = 1
item_weight Discard = 1
item_weight (Open ds) = 1
item_weight (Run s) = stmt_weight s
item_weight _ = 0

abbrev pub weight : List Item → ℕ
weight [] = 0
weight (i ∷ k) = item_weight i + weight k

pub weight-evals : {m : _} (row : Row_of-Typed m) (k : List Item) → weight (evals_of (exprs row) ++ k) ≤ 8 * sizes row + weight k
weight-evals end_of-Typed k = omega arith
weight-evals (more_of-Typed e rest) k = omega (arith, weight-evals rest k)

pub weight-runs : {m : _} (row : Row_of-Stmt m) (k : List Item) → weight (runs_of (stmts row) ++ k) ≤ row_weight row + weight k
weight-runs end_of-Stmt k = omega arith
weight-runs (more_of-Stmt s rest) k = omega (arith, weight-runs rest k)
