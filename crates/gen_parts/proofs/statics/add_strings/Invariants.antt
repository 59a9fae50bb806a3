use Rattle.std.proofs.Common.{◌≡◌, ◌++◌, drop}
use Rattle.gen_parts.specs.Statics.{strings_statics}
use Rattle.gen_parts.proofs.statics.add_strings.Given as goal

abbrev pub invariant-loop-string : goal.invariant-loop-string
invariant-loop-string l = l.statics.items ++ strings_statics l.number (drop l.string-index l.strings) ≡ l.fn.statics.items ++ strings_statics l.first l.strings
