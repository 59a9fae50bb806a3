use Rattle.std.proofs.Common.{◌-◌, length}
use Rattle.c_lex.proofs.Literals.{Reading}
use Rattle.c_lex.proofs.literal.literal_bytes.Given as goal

abbrev pub invariant-loop-at : goal.invariant-loop-at
invariant-loop-at l = Reading l.text l.at l.values.items

abbrev pub decreases-loop-at : goal.decreases-loop-at
decreases-loop-at l = length l.text - l.at
