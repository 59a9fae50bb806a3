use Rattle.std.proofs.Common.{◌≡◌, length}
use Rattle.c_expr.specs.Frames.{reduce}
use Rattle.c_expr.proofs.frame.reduce.Given as goal

abbrev pub invariant-ending : goal.invariant-ending
invariant-ending l = reduce l.level l.g l.stack ≡ reduce l.level l.fn.g l.fn.stack

abbrev pub decreases-ending : goal.decreases-ending
decreases-ending l = length l.stack
