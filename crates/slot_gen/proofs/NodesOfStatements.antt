-- A function takes at most two temporaries more than its deepest expression has nodes.
use Rattle.std.proofs.Common.{ℕ, ◌+◌, ◌≤◌, List, [], ◌∷◌, Option, Some, None, arith}
use Rattle.c_tree.specs.declared.typed.Typed.{Typed}
use Rattle.c_tree.specs.declared.typed.Pointed.{Pointed}
use Rattle.c_tree.specs.declared.typed.DeclaredLocal.{DeclaredLocal}
use Rattle.c_tree.specs.declared.typed.Stmt.{Stmt, Row_of-Stmt, end_of-Stmt, more_of-Stmt, Held-Stmt-If-3, None', Some'}
use Rattle.c_tree.specs.declared.typed.Stmt.TheVariants.{Value, Block', If', While', Do', For', Switch', Case', Default', Break, Continue, Return}
use Rattle.c_tree.specs.declared.rows.Function.{Function}
use Rattle.c_source.specs.Size.{part_nodes, result_nodes, inits_nodes, most_nodes, most_nodes_in, else_nodes}
use Rattle.slot_gen.specs.Bounds.{part_temps, result_temps, init_temps, inits_temps, stmt_temps, row_of_temps, else_temps, function_temps}
use Rattle.slot_gen.proofs.Temps.{temps_few}

part_few : (o : Option Pointed) → part_temps o ≤ part_nodes o + 1
part_few None = omega arith
part_few (Some q) = temps_few q.e

result_few : (o : Option Typed) → result_temps o ≤ result_nodes o + 1
result_few None = omega arith
result_few (Some e) = temps_few e

init_few : (o : Option Pointed) → init_temps o ≤ part_nodes o + 2
init_few None = omega arith
init_few (Some q) = omega (arith, temps_few q.e)

inits_few : (ds : List DeclaredLocal) → inits_temps ds ≤ inits_nodes ds + 2
inits_few [] = omega arith
inits_few (d ∷ ds) = omega (arith, init_few d.init, inits_few ds)

mutual
  stmt_few : (s : Stmt) → stmt_temps s ≤ most_nodes s + 2
  stmt_few (Value at e) = omega (arith, part_few e)
  stmt_few (Block' at ds x row l c) = omega (arith, inits_few ds, row_few row)
  stmt_few (If' at q x a b) = omega (arith, temps_few q.e, stmt_few a, else_few b)
  stmt_few (While' at q x s) = omega (arith, temps_few q.e, stmt_few s)
  stmt_few (Do' at x s q) = omega (arith, temps_few q.e, stmt_few s)
  stmt_few (For' at i q t x s) = omega (arith, part_few i, part_few q, part_few t, stmt_few s)
  stmt_few (Switch' at q x s) = omega (arith, temps_few q.e, stmt_few s)
  stmt_few (Case' at c x s) = stmt_few s
  stmt_few (Default' at x s) = stmt_few s
  stmt_few (Break at) = omega arith
  stmt_few (Continue at) = omega arith
  stmt_few (Return at q e) = omega (arith, result_few e)

  row_few : {m : _} (row : Row_of-Stmt m) → row_of_temps row ≤ most_nodes_in row + 2
  row_few end_of-Stmt = omega arith
  row_few (more_of-Stmt s rest) = omega (arith, stmt_few s, row_few rest)

  else_few : (e : Held-Stmt-If-3) → else_temps e ≤ else_nodes e + 2
  else_few None' = omega arith
  else_few (Some' x s) = stmt_few s

pub function_few : (fn : Function) → function_temps fn ≤ most_nodes fn.body + 2
function_few fn = omega (arith, stmt_few fn.body)
