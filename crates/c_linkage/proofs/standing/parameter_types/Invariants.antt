use Rattle.std.proofs.Common.{◌≡◌, ◌++◌, map, drop}
use Rattle.c_typing.specs.Plain.{plain}
use Rattle.c_scope.specs.Declarators.{parameter_type}
use Rattle.c_scope.specs.Shapes.{parameter_of}
use Rattle.c_linkage.proofs.standing.parameter_types.Given as goal

abbrev pub invariant-loop-p : goal.invariant-loop-p
invariant-loop-p l = map plain l.types ++ map parameter_type (map parameter_of (drop l.p-index l.ps)) ≡ map parameter_type (map parameter_of l.ps)
