use Rattle.std.proofs.Common.{◌≡◌, ◌++◌, map, drop}
use Rattle.c_mentions.specs.Literals.{literal, in_all, in_member}
use Rattle.c_mentions.proofs.literals.in_members.Given as goal

abbrev pub invariant-loop-part : goal.invariant-loop-part
invariant-loop-part l = map literal l.found.items ++ in_all in_member (drop l.part-index l.parts) ≡ map literal l.initial.found.items ++ in_all in_member l.parts
