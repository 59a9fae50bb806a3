use Rattle.std.proofs.Common.{◌≡◌, drop}
use Rattle.c_file.specs.Programs.{any, takes_many}
use Rattle.c_check.proofs.parameters.declarators_take_many.Given as goal

abbrev pub invariant-loop-declarator : goal.invariant-loop-declarator
invariant-loop-declarator l = any takes_many (drop l.declarator-index l.declarators) ≡ any takes_many l.declarators
