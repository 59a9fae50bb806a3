-- The fewest tokens that a checked tree is written with: those of its own, and those of its parts. A type has one token at least.
use Rattle.std.specs.Prelude.{ℕ, ◌+◌, ◌-◌, List, [], ◌∷◌, length, Option, Some, None}
use Rattle.c_tree.specs.Rows.{exprs}
use Rattle.c_tree.specs.declared.typed.Typed.{Typed, Row_of-Typed, end_of-Typed, more_of-Typed}
use Rattle.c_tree.specs.declared.typed.Typed.TheVariants.{Comma', Assign', Choice', Or', And', Binary', Cast', Before', Address', Follow', Unary', SizeOf', SizeOfType, Index', Call', Dot', Arrow', After', Parens'}
use Rattle.c_tree.specs.declared.typed.Pointed.{Pointed}
use Rattle.c_tree.specs.declared.typed.DeclaredLocal.{DeclaredLocal}
use Rattle.c_tree.specs.declared.typed.Stmt.{Stmt, Row_of-Stmt, end_of-Stmt, more_of-Stmt, Held-Stmt-If-3, None', Some'}
use Rattle.c_tree.specs.declared.typed.Stmt.TheVariants.{Value, Block', If', While', Do', For', Switch', Case', Default', Break, Continue, Return}

abbrev mutual
  pub tokens_of : Typed → ℕ
  tokens_of (Comma' h _ a _ b) = 1 + (tokens_of a + tokens_of b)
  tokens_of (Assign' h _ a op _ b) = 1 + (tokens_of a + tokens_of b)
  tokens_of (Choice' h _ c _ a _ b) = 2 + (tokens_of c + (tokens_of a + tokens_of b))
  tokens_of (Or' h _ a _ b) = 1 + (tokens_of a + tokens_of b)
  tokens_of (And' h _ a _ b) = 1 + (tokens_of a + tokens_of b)
  tokens_of (Binary' h _ a op _ b) = 1 + (tokens_of a + tokens_of b)
  tokens_of (Cast' h _ a) = 3 + tokens_of a
  tokens_of (Before' h op _ a) = 1 + tokens_of a
  tokens_of (Address' h _ a) = 1 + tokens_of a
  tokens_of (Follow' h _ a) = 1 + tokens_of a
  tokens_of (Unary' h op _ a) = 1 + tokens_of a
  tokens_of (SizeOf' h _ a) = 1 + tokens_of a
  tokens_of (SizeOfType h t) = 4
  tokens_of (Index' h _ a _ b) = 2 + (tokens_of a + tokens_of b)
  -- a name, two parentheses, and a comma between each two arguments
  tokens_of (Call' h f _ row) = 3 + (row_tokens row + (length (exprs row) - 1))
  tokens_of (Dot' h _ a m) = 2 + tokens_of a
  tokens_of (Arrow' h _ a m) = 2 + tokens_of a
  tokens_of (After' h _ a op) = 1 + tokens_of a
  tokens_of (Parens' h _ a) = 2 + tokens_of a
  tokens_of _ = 1

  pub row_tokens : {m : _} → Row_of-Typed m → ℕ
  row_tokens end_of-Typed = 0
  row_tokens (more_of-Typed e rest) = tokens_of e + row_tokens rest

abbrev pub part_tokens : Option Pointed → ℕ
part_tokens None = 0
part_tokens (Some q) = tokens_of q.e

abbrev pub result_tokens : Option Typed → ℕ
result_tokens None = 0
result_tokens (Some e) = tokens_of e

-- a declarator is a name and a comma or a semicolon, and an initializer follows `=`
abbrev pub init_tokens : Option Pointed → ℕ
init_tokens None = 0
init_tokens (Some q) = 1 + tokens_of q.e

abbrev pub declared_tokens : List DeclaredLocal → ℕ
declared_tokens [] = 0
declared_tokens (d ∷ ds) = 2 + (init_tokens d.init + declared_tokens ds)

abbrev mutual
  pub stmt_tokens : Stmt → ℕ
  stmt_tokens (Value s e) = 1 + part_tokens e
  stmt_tokens (Block' s ds _ row l c) = 2 + (declared_tokens ds + stmts_tokens row)
  stmt_tokens (If' s q _ a b) = 3 + (tokens_of q.e + (stmt_tokens a + else_tokens b))
  stmt_tokens (While' s q _ b) = 3 + (tokens_of q.e + stmt_tokens b)
  stmt_tokens (Do' s _ b q) = 5 + (tokens_of q.e + stmt_tokens b)
  stmt_tokens (For' s i q t _ b) = 5 + (part_tokens i + (part_tokens q + (part_tokens t + stmt_tokens b)))
  stmt_tokens (Switch' s q _ b) = 3 + (tokens_of q.e + stmt_tokens b)
  stmt_tokens (Case' s c _ b) = 3 + stmt_tokens b
  stmt_tokens (Default' s _ b) = 2 + stmt_tokens b
  stmt_tokens (Break s) = 2
  stmt_tokens (Continue s) = 2
  stmt_tokens (Return s q e) = 2 + result_tokens e

  pub stmts_tokens : {m : _} → Row_of-Stmt m → ℕ
  stmts_tokens end_of-Stmt = 0
  stmts_tokens (more_of-Stmt s rest) = stmt_tokens s + stmts_tokens rest

  pub else_tokens : Held-Stmt-If-3 → ℕ
  else_tokens None' = 0
  else_tokens (Some' _ s) = 1 + stmt_tokens s
