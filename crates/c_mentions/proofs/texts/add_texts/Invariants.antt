use Rattle.std.proofs.Common.{◌≡◌, ◌++◌, map, drop}
use Rattle.c_mentions.specs.Tags.{now}
use Rattle.c_mentions.specs.Literals.{literal, texts}
use Rattle.c_mentions.proofs.texts.add_texts.Given as goal

abbrev pub invariant-loop-l : goal.invariant-loop-l
invariant-loop-l l = map now l.strings.items ++ texts (map literal (drop l.l-index l.found)) ≡ map now l.initial.strings.items ++ texts (map literal l.found)
