use Rattle.std.proofs.Common.{◌≡◌, ◌++◌, drop, map}
use Rattle.c_file.specs.Programs.{incomplete}
use Rattle.c_mentions.specs.Tags.{now}
use Rattle.c_file.proofs.files.incomplete.Given as goal

abbrev pub invariant-loop-tag : goal.invariant-loop-tag
invariant-loop-tag l = (l.defs.items ++ map incomplete (map now (drop l.tag-index l.tags))) ≡ map incomplete (map now l.tags)
