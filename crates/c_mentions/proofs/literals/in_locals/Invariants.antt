use Rattle.std.proofs.Common.{◌≡◌, ◌++◌, map, drop}
use Rattle.c_mentions.specs.Literals.{literal, in_all, in_local}
use Rattle.c_mentions.proofs.literals.in_locals.Given as goal

abbrev pub invariant-loop-local : goal.invariant-loop-local
invariant-loop-local l = map literal l.found.items ++ in_all in_local (drop l.local-index l.locals) ≡ map literal l.initial.found.items ++ in_all in_local l.locals
