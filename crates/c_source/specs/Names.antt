-- Names in scope, and how a stopping point is written.
use Rattle.std.specs.Prelude.{ℕ, suc, zero, List, [], ◌++◌, Option, Some, None, slice_get, length, bytes_eq, codes, decimal, option_and_then, if◌then◌else◌}
use Rattle.c_tree.specs.declared.rows.Program.{Program}
use Rattle.c_tree.specs.declared.rows.Function.{Function}
use Rattle.c_tree.specs.declared.rows.Point.{Point}
use Rattle.c_tree.specs.declared.rows.UnitRow.{UnitRow}
use Rattle.c_tree.specs.declared.rows.SymbolRow.{SymbolRow}

-- ---- scope

abbrev pub named_in : List SymbolRow → List ℕ → (left : ℕ) → Option ℕ → Option SymbolRow
named_in rows name zero s = None
named_in rows name (suc left) None = None
named_in rows name (suc left) (Some s) = option_and_then (λ row. if bytes_eq row.name name then Some row else named_in rows name left row.up) (slice_get rows s)

abbrev symbol_in : Option Point → Option ℕ
symbol_in None = None
symbol_in (Some q) = q.symbol

-- the name at a point, from the innermost scope outward
abbrev pub named : Program → List ℕ → (point : ℕ) → Option SymbolRow
named p name q = named_in p.symbols name (length p.symbols) (symbol_in (slice_get p.points q))

-- ---- rows of a point

abbrev name_in : Option Function → List ℕ
name_in None = []
name_in (Some f) = f.name

abbrev pub function_name : Program → ℕ → List ℕ
function_name p f = name_in (slice_get p.functions f)

abbrev file_in : Option UnitRow → List ℕ
file_in None = []
file_in (Some u) = u.file

abbrev pub file_name : Program → ℕ → List ℕ
file_name p u = file_in (slice_get p.units u)

abbrev unit_in : Option Function → ℕ
unit_in None = 0
unit_in (Some f) = f.unit

abbrev pub file_of : Program → Point → List ℕ
file_of p q = file_name p (unit_in (slice_get p.functions q.function))

abbrev pub line_place : Program → Point → List ℕ
line_place p q = file_of p q ++ codes ":" ++ decimal q.line ++ codes "." ++ decimal q.column

abbrev place_in : Program → Option Point → List ℕ
place_in p None = []
place_in p (Some q) = line_place p q

-- `F:L.C`
abbrev pub place_text : Program → (point : ℕ) → List ℕ
place_text p q = place_in p (slice_get p.points q)

abbrev caller_in : Program → Option Point → List ℕ
caller_in p None = []
caller_in p (Some q) = function_name p q.function

-- `FUNC F:L.C` and `F:L.C FUNC`
abbrev pub activation_text : Program → (point : ℕ) → List ℕ
activation_text p q = caller_in p (slice_get p.points q) ++ codes " " ++ place_text p q

abbrev pub stop_text : Program → (point : ℕ) → List ℕ
stop_text p q = codes "stop " ++ place_text p q ++ codes " " ++ caller_in p (slice_get p.points q)
