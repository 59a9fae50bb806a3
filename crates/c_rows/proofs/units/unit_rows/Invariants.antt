use Rattle.std.proofs.Common.{◌≡◌, ◌<◌, ◌++◌, ℕ, map, drop, length}
use Rattle.c_rows.specs.Units.{file_of, files_functions, functions_by}
use Rattle.c_rows.proofs.units.unit_rows.Given as goal

abbrev pub invariant-loop-i : goal.invariant-loop-i
invariant-loop-i l = record {
  files : map file_of l.units.items ≡ l.names;
  functions : (u : ℕ) → u < length l.names → (files_functions l.units.items u ++ functions_by u l.i (drop l.i l.functions)) ≡ functions_by u 0 l.functions;
}
