use Rattle.std.proofs.Common.{◌≡◌, ◌++◌, map, drop}
use Rattle.c_mentions.specs.Tags.{now, in_all, in_member}
use Rattle.c_mentions.proofs.tags.in_members.Given as goal

abbrev pub invariant-loop-part : goal.invariant-loop-part
invariant-loop-part l = map now l.found.items ++ in_all in_member (drop l.part-index l.parts) ≡ map now l.initial.found.items ++ in_all in_member l.parts
