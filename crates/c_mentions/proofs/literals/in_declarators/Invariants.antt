use Rattle.std.proofs.Common.{◌≡◌, ◌++◌, map, drop}
use Rattle.c_mentions.specs.Literals.{literal, in_all, in_declarator}
use Rattle.c_mentions.proofs.literals.in_declarators.Given as goal

abbrev pub invariant-loop-declarator : goal.invariant-loop-declarator
invariant-loop-declarator l = map literal l.found.items ++ in_all in_declarator (drop l.declarator-index l.declarators) ≡ map literal l.initial.found.items ++ in_all in_declarator l.declarators
