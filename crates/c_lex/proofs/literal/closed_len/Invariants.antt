use Rattle.std.proofs.Common.{◌-◌, length}
use Rattle.c_lex.proofs.Literals.{Walk}
use Rattle.c_lex.proofs.literal.closed_len.Given as goal

abbrev pub invariant-loop-at : goal.invariant-loop-at
invariant-loop-at l = Walk l.quote l.text l.at

abbrev pub decreases-loop-at : goal.decreases-loop-at
decreases-loop-at l = length l.text - l.at
