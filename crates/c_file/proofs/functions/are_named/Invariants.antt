use Rattle.std.proofs.Common.{◌≡◌, drop, map}
use Rattle.c_file.specs.Files.{are_named}
use Rattle.c_scope.specs.Shapes.{parameter_of}
use Rattle.c_file.proofs.functions.are_named.Given as goal

abbrev pub invariant-loop-p : goal.invariant-loop-p
invariant-loop-p l = are_named (map parameter_of (drop l.p-index l.ps)) ≡ are_named (map parameter_of l.ps)
