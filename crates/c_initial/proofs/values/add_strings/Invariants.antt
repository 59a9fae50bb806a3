use Rattle.std.proofs.Common.{◌≡◌, ◌++◌, map, drop}
use Rattle.c_mentions.specs.Tags.{now}
use Rattle.c_mentions.specs.Literals.{literal, texts}
use Rattle.c_initial.proofs.values.add_strings.Given as goal

abbrev pub invariant-loop-literal : goal.invariant-loop-literal
invariant-loop-literal l = map now l.strings.items ++ texts (map literal (drop l.literal-index l.literal-items)) ≡ map now l.initial.strings.items ++ texts (map literal l.literal-items)
