use Rattle.std.proofs.Common.{◌-◌, length}
use Rattle.c_lex.proofs.Lexing.{Lexed}
use Rattle.c_lex.proofs.lex.tokens.Given as goal

abbrev pub invariant-reading : goal.invariant-reading
invariant-reading l = Lexed l.text l.place l.found.items

abbrev pub decreases-reading : goal.decreases-reading
decreases-reading l = length l.text - l.place.at
