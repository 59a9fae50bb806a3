use Rattle.std.proofs.Common.{◌≡◌, drop}
use Rattle.c_scope.specs.Shapes.{any_called}
use Rattle.c_scope.proofs.parameter.any_called.Given as goal

abbrev pub invariant-loop-p : goal.invariant-loop-p
invariant-loop-p l = any_called l.name (drop l.p-index l.parameters) ≡ any_called l.name l.parameters
