use Rattle.std.proofs.Common.{◌≡◌, ◌++◌, map, drop}
use Rattle.c_mentions.specs.Tags.{now, in_all, in_external}
use Rattle.c_mentions.proofs.tags.in_externals.Given as goal

abbrev pub invariant-loop-external : goal.invariant-loop-external
invariant-loop-external l = map now l.found.items ++ in_all in_external (drop l.external-index l.externals) ≡ map now l.initial.found.items ++ in_all in_external l.externals
