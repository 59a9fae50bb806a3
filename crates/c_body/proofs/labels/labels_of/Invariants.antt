use Rattle.std.proofs.Common.{◌≡◌, ◌++◌, map, drop}
use Rattle.c_body.specs.Bodies.{labels_before}
use Rattle.c_scope.specs.Here.{environment_of}
use Rattle.c_body.specs.Labels.{label_of}
use Rattle.c_body.specs.Calls.{of_all}
use Rattle.c_body.proofs.labels.labels_of.Given as goal

abbrev pub invariant-loop-statement : goal.invariant-loop-statement
invariant-loop-statement l = map label_of l.found.items ++ of_all (labels_before (environment_of l.here)) (drop l.statement-index l.statements) ≡ of_all (labels_before (environment_of l.here)) l.statements
