use Rattle.std.proofs.Common.{◌≡◌, ◌++◌, [], ℕ, map, drop}
use Rattle.c_rows.specs.Units.{file_of, files_functions}
use Rattle.c_rows.proofs.units.files.Given as goal

abbrev pub invariant-loop-name : goal.invariant-loop-name
invariant-loop-name l = record {
  files : (map file_of l.units.items ++ drop l.name-index l.names) ≡ l.names;
  functions : (u : ℕ) → files_functions l.units.items u ≡ [];
}
