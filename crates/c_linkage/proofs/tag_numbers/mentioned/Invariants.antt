use Rattle.std.proofs.Common.{◌≡◌, ◌++◌, map, drop}
use Rattle.c_mentions.specs.Tags.{now, in_all, in_external}
use Rattle.c_linkage.specs.FileTags.{externals_of}
use Rattle.c_linkage.proofs.tag_numbers.mentioned.Given as goal

abbrev pub invariant-loop-unit : goal.invariant-loop-unit
invariant-loop-unit l = (map now l.found.items ++ in_all (in_all in_external) (map externals_of (drop l.unit-index l.units))) ≡ in_all (in_all in_external) (map externals_of l.units)
