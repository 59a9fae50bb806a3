use Rattle.std.proofs.Common.{◌≡◌, ◌++◌, map, drop}
use Rattle.c_mentions.specs.Literals.{literal, texts}
use Rattle.c_mentions.specs.Tags.{now}
use Rattle.c_body.proofs.passing.push_texts.Given as goal

abbrev pub invariant-loop-literal : goal.invariant-loop-literal
invariant-loop-literal l = map now l.strings.items ++ texts (map literal (drop l.literal-index l.literals)) ≡ map now l.initial.strings.items ++ texts (map literal l.literals)
