-- What the text of an expression in a session stands among: the names on the chain at a stopping point, and the structs of all files.
use Rattle.std.specs.Prelude.{ℕ, zero, suc, false, List, length, map, Option, Some, None, option_and_then, slice_get, bytes_eq, if◌then◌else◌}
use Rattle.c_tree.specs.declared.rows.Program.{Program}
use Rattle.c_tree.specs.declared.rows.Point.{Point}
use Rattle.c_tree.specs.declared.rows.ObjectRow.{ObjectRow}
use Rattle.c_tree.specs.declared.rows.SymbolRow.{SymbolRow}
use Rattle.c_tree.specs.declared.rows.Referent.{Referent}
use Rattle.c_tree.specs.declared.rows.Referent.TheVariants.{Object}
use Rattle.c_typing.specs.Plain.{Plain, plain}
use Rattle.c_typing.specs.Expressions as typing
use Rattle.c_typing.specs.Declarations.{denoted_by}
use Rattle.c_typing.specs.Statements.{locals_at, function_at}
use Rattle.c_judge.specs.Scope.{Scope, tagged}

-- ---- types of names

abbrev object_type : Plain → Option ObjectRow → Plain
object_type t None = t
object_type t (Some row) = plain row.ctype

abbrev completed_by : Program → Plain → Referent → Plain
completed_by p t (Object o) = object_type t (slice_get p.objects o)
completed_by p t _ = t

-- A type for each symbol: of an object the one that its definition gives it, whichever file declares it: an array without a bound has that of its definition (C90 6.1.2.6).
abbrev pub as_completed : Program → SymbolRow → Plain
as_completed p row = completed_by p (plain row.ctype) row.refers

-- what the names denote in a function, where these locals are in scope and the symbols have these types
abbrev pub scope_with : Program → (function : ℕ) → (visible : List ℕ) → (SymbolRow → Plain) → typing.Scope
scope_with p f visible types = record { names = map (λ row. denoted_by p f visible (types row) row.name row.refers) p.symbols; defs = p.defs; strings = p.strings }

-- ---- the chain at a point

-- the number of the first symbol with a name, from the innermost outward
abbrev pub number_from : List SymbolRow → List ℕ → (left : ℕ) → Option ℕ → Option ℕ
number_from rows name zero s = None
number_from rows name (suc left) None = None
number_from rows name (suc left) (Some s) = option_and_then (λ row. if bytes_eq row.name name then Some s else number_from rows name left row.up) (slice_get rows s)

abbrev symbol_in : Option Point → Option ℕ
symbol_in None = None
symbol_in (Some q) = q.symbol

-- the number of the symbol that a name means at a point
abbrev pub number_at : Program → (point : ℕ) → List ℕ → Option ℕ
number_at p q name = number_from p.symbols name (length p.symbols) (symbol_in (slice_get p.points q))

abbrev pub function_or_0 : Option ℕ → ℕ
function_or_0 None = 0
function_or_0 (Some f) = f

-- The names on the chain at a point, with types as any file completes them, and all structs, of which the first with a tag is meant. No string and no call is typed here, since both are forbidden.
abbrev pub scope_of : Program → (point : ℕ) → Scope
scope_of p q = record {
  among = scope_with p (function_or_0 (function_at p q)) (locals_at p q) (as_completed p);
  number = number_at p q;
  tag = tagged p.defs;
  literal = λ at. 0;
  asks = false;
}
