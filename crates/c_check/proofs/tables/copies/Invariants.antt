use Rattle.std.proofs.Common.{◌≡◌, ◌++◌, map, drop}
use Rattle.c_mentions.specs.Tags.{now}
use Rattle.c_check.proofs.tables.copies.Given as goal

abbrev pub invariant-loop-text : goal.invariant-loop-text
invariant-loop-text l = (l.copies.items ++ map now (drop l.text-index l.texts)) ≡ map now l.texts
