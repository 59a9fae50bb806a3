use Rattle.std.proofs.Common.{◌≡◌, ◌++◌, map, drop}
use Rattle.c_mentions.specs.Tags.{now, in_all, in_local}
use Rattle.c_mentions.proofs.tags.in_locals.Given as goal

abbrev pub invariant-loop-local : goal.invariant-loop-local
invariant-loop-local l = map now l.found.items ++ in_all in_local (drop l.local-index l.locals) ≡ map now l.initial.found.items ++ in_all in_local l.locals
