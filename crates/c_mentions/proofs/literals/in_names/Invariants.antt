use Rattle.std.proofs.Common.{◌≡◌, ◌++◌, map, drop}
use Rattle.c_mentions.specs.Literals.{literal, in_all, in_declared}
use Rattle.c_mentions.proofs.literals.in_names.Given as goal

abbrev pub invariant-loop-name : goal.invariant-loop-name
invariant-loop-name l = map literal l.found.items ++ in_all in_declared (drop l.name-index l.names) ≡ map literal l.initial.found.items ++ in_all in_declared l.names
