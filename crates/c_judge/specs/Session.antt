-- The scope of an expression in a session: names and structs in order, the first of a name counts.
use Rattle.std.specs.Prelude.{ℕ, false, List, [], map}
use Rattle.c_tree.specs.declared.types.StructDef.{StructDef}
use Rattle.c_judge.specs.declared.symbol.Symbol.{Symbol}
use Rattle.c_judge.specs.Scope.{Scope, tagged}
use Rattle.c_defs.specs.Numbers.{first_number}
use Rattle.c_judge.specs.Judges.{denoted_all}

abbrev pub symbol_name : Symbol → List ℕ
symbol_name s = s.name

abbrev pub session : List Symbol → List StructDef → Scope
session names defs = record {
  among = record { names = denoted_all names []; defs = defs; strings = [] };
  number = first_number (map symbol_name names);
  tag = tagged defs;
  literal = λ at. 0;
  asks = false;
}
