-- How many nodes an expression has, and how much stack an activation may take.
use Rattle.std.specs.Prelude.{ℕ, ◌+◌, ◌*◌, max, List, [], ◌∷◌, Option, Some, None, slice_get, sum, map}
use Rattle.std.specs.Int.{next_multiple_of}
use Rattle.c_tree.specs.declared.typed.Typed.{Typed, Row_of-Typed, end_of-Typed, more_of-Typed}
use Rattle.c_tree.specs.declared.typed.Typed.TheVariants.{Comma', Assign', Choice', Or', And', Binary', Cast', Before', Address', Follow', Unary', SizeOf', SizeOfType, Index', Call', Dot', Arrow', After', Parens'}
use Rattle.c_tree.specs.declared.typed.Pointed.{Pointed}
use Rattle.c_tree.specs.declared.typed.DeclaredLocal.{DeclaredLocal}
use Rattle.c_tree.specs.declared.typed.Stmt.{Stmt, Row_of-Stmt, end_of-Stmt, more_of-Stmt, Held-Stmt-If-3, None', Some'}
use Rattle.c_tree.specs.declared.typed.Stmt.TheVariants.{Value, Block', If', While', Do', For', Switch', Case', Default', Break, Continue, Return}
use Rattle.c_tree.specs.declared.rows.Program.{Program}
use Rattle.c_tree.specs.declared.rows.Function.{Function}
use Rattle.c_tree.specs.declared.rows.Local.{Local}
use Rattle.c_tree.specs.Layout.{size_of}
use Rattle.c_source.specs.Control.{State}
use Rattle.c_source.specs.Begin.{records}

abbrev mutual
  -- The syntax nodes of an expression, as the parser's tree has them. A list of arguments that is not empty is one more, and so are the name that is called and the name of a type.
  pub nodes_of : Typed → ℕ
  nodes_of (Comma' h _ a _ b) = 1 + (nodes_of a + nodes_of b)
  nodes_of (Assign' h _ a op _ b) = 1 + (nodes_of a + nodes_of b)
  nodes_of (Choice' h _ c _ a _ b) = 1 + (nodes_of c + (nodes_of a + nodes_of b))
  nodes_of (Or' h _ a _ b) = 1 + (nodes_of a + nodes_of b)
  nodes_of (And' h _ a _ b) = 1 + (nodes_of a + nodes_of b)
  nodes_of (Binary' h _ a op _ b) = 1 + (nodes_of a + nodes_of b)
  nodes_of (Cast' h _ a) = 2 + nodes_of a
  nodes_of (Before' h op _ a) = 1 + nodes_of a
  nodes_of (Address' h _ a) = 1 + nodes_of a
  nodes_of (Follow' h _ a) = 1 + nodes_of a
  nodes_of (Unary' h op _ a) = 1 + nodes_of a
  nodes_of (SizeOf' h _ a) = 1 + nodes_of a
  nodes_of (SizeOfType h t) = 2
  nodes_of (Index' h _ a _ b) = 1 + (nodes_of a + nodes_of b)
  nodes_of (Call' h f _ row) = 2 + list_nodes row
  nodes_of (Dot' h _ a m) = 1 + nodes_of a
  nodes_of (Arrow' h _ a m) = 1 + nodes_of a
  nodes_of (After' h _ a op) = 1 + nodes_of a
  nodes_of (Parens' h _ a) = 1 + nodes_of a
  nodes_of _ = 1

  pub list_nodes : {m : _} → Row_of-Typed m → ℕ
  list_nodes end_of-Typed = 0
  list_nodes (more_of-Typed e rest) = 1 + (nodes_of e + row_nodes rest)

  pub row_nodes : {m : _} → Row_of-Typed m → ℕ
  row_nodes end_of-Typed = 0
  row_nodes (more_of-Typed e rest) = nodes_of e + row_nodes rest

abbrev pub part_nodes : Option Pointed → ℕ
part_nodes None = 0
part_nodes (Some q) = nodes_of q.e

abbrev pub result_nodes : Option Typed → ℕ
result_nodes None = 0
result_nodes (Some e) = nodes_of e

abbrev pub inits_nodes : List DeclaredLocal → ℕ
inits_nodes [] = 0
inits_nodes (d ∷ ds) = max (part_nodes d.init) (inits_nodes ds)

-- the nodes of a statement's deepest expression, which is the one of most nodes
abbrev mutual
  pub most_nodes : Stmt → ℕ
  most_nodes (Value at e) = part_nodes e
  most_nodes (Block' at ds _ row l c) = max (inits_nodes ds) (most_nodes_in row)
  most_nodes (If' at q _ a b) = max (nodes_of q.e) (max (most_nodes a) (else_nodes b))
  most_nodes (While' at q _ s) = max (nodes_of q.e) (most_nodes s)
  most_nodes (Do' at _ s q) = max (nodes_of q.e) (most_nodes s)
  most_nodes (For' at i q t _ s) = max (part_nodes i) (max (part_nodes q) (max (part_nodes t) (most_nodes s)))
  most_nodes (Switch' at q _ s) = max (nodes_of q.e) (most_nodes s)
  most_nodes (Case' at c _ s) = most_nodes s
  most_nodes (Default' at _ s) = most_nodes s
  most_nodes (Break at) = 0
  most_nodes (Continue at) = 0
  most_nodes (Return at q e) = result_nodes e

  pub most_nodes_in : {m : _} → Row_of-Stmt m → ℕ
  most_nodes_in end_of-Stmt = 0
  most_nodes_in (more_of-Stmt s rest) = max (most_nodes s) (most_nodes_in rest)

  pub else_nodes : Held-Stmt-If-3 → ℕ
  else_nodes None' = 0
  else_nodes (Some' _ s) = most_nodes s

-- 512, each object's size rounded up to 4 and 8 more, and 8 for each node of the deepest expression
abbrev object_need : Program → Local → ℕ
object_need p l = next_multiple_of (size_of p.defs l.ctype) 4 + 8

abbrev need_in : Program → Option Function → ℕ
need_in p None = 0
need_in p (Some f) = 512 + sum (map (object_need p) f.locals) + 8 * most_nodes f.body

abbrev pub need_of : Program → State → ℕ
need_of p s = sum (map (λ a. need_in p (slice_get p.functions a.function)) (records s))
