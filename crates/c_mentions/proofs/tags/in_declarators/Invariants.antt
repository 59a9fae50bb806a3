use Rattle.std.proofs.Common.{◌≡◌, ◌++◌, map, drop}
use Rattle.c_mentions.specs.Tags.{now, in_all, in_declarator}
use Rattle.c_mentions.proofs.tags.in_declarators.Given as goal

abbrev pub invariant-loop-declarator : goal.invariant-loop-declarator
invariant-loop-declarator l = map now l.found.items ++ in_all in_declarator (drop l.declarator-index l.declarators) ≡ map now l.initial.found.items ++ in_all in_declarator l.declarators
