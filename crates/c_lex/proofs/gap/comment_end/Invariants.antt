use Rattle.std.proofs.Common.{◌≡◌, ◌-◌, length, drop}
use Rattle.c_lex.specs.Grammar.{comment_end}
use Rattle.c_lex.proofs.gap.comment_end.Given as goal

abbrev pub invariant-loop-at : goal.invariant-loop-at
invariant-loop-at l = comment_end l.at (drop l.at l.text) ≡ comment_end 2 (drop 2 l.text)

abbrev pub decreases-loop-at : goal.decreases-loop-at
decreases-loop-at l = length l.text - l.at
