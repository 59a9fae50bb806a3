use Rattle.std.proofs.Common.{◌≡◌, length}
use Rattle.c_statement.specs.Machine.{settle}
use Rattle.c_statement.proofs.frame.settle.Given as goal

abbrev pub invariant-ending : goal.invariant-ending
invariant-ending l = settle l.is_else l.part l.stack ≡ settle l.is_else l.fn.part l.fn.stack

abbrev pub decreases-ending : goal.decreases-ending
decreases-ending l = length l.stack
