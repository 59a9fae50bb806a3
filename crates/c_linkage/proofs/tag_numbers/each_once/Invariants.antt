use Rattle.std.proofs.Common.{◌≡◌, [], map, drop}
use Rattle.c_defs.specs.Numbers.{Finds}
use Rattle.c_mentions.specs.Tags.{now, each_once}
use Rattle.c_linkage.proofs.tag_numbers.each_once.Given as goal

abbrev pub invariant-loop-tag : goal.invariant-loop-tag
invariant-loop-tag l = Finds l.numbers (map now l.tags.items) × (each_once (map now l.tags.items) (map now (drop l.tag-index l.found)) ≡ each_once [] (map now l.found))
