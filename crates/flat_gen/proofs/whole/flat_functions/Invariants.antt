use Rattle.std.proofs.Common.{◌≡◌, ◌++◌, map, drop}
use Rattle.flat_gen.specs.Codes.{flat_function}
use Rattle.flat_gen.proofs.whole.flat_functions.Given as goal

abbrev pub invariant-loop-function : goal.invariant-loop-function
invariant-loop-function l = l.rows.items ++ map (flat_function l.linkage l.slots) (drop l.function-index l.functions) ≡ map (flat_function l.linkage l.slots) l.functions
