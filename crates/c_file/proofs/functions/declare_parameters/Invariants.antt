use Rattle.std.proofs.Common.{◌≡◌, drop, map}
use Rattle.c_file.specs.Files.{with_parameters}
use Rattle.c_scope.specs.Here.{environment_of}
use Rattle.c_scope.specs.Shapes.{parameter_of}
use Rattle.c_file.proofs.functions.declare_parameters.Given as goal

abbrev pub invariant-loop-p : goal.invariant-loop-p
invariant-loop-p l = record {
  declared : with_parameters (environment_of l.here) (map parameter_of (drop l.p-index l.ps)) ≡ with_parameters (environment_of l.initial.here) (map parameter_of l.ps);
  start : l.here.table.start ≡ l.initial.here.table.start;
}
