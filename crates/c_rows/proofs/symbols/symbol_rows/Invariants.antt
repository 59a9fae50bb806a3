use Rattle.std.proofs.Common.{◌≡◌, ◌++◌, map, drop}
use Rattle.c_rows.specs.Symbols.{symbol_said, symbols_by}
use Rattle.c_rows.proofs.symbols.symbol_rows.Given as goal

abbrev pub invariant-loop-i : goal.invariant-loop-i
invariant-loop-i l = (map symbol_said l.rows.items ++ symbols_by l.places (drop l.i l.names) (drop l.i l.links)) ≡ symbols_by l.places l.names l.links
