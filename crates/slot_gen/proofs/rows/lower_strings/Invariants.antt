use Rattle.std.proofs.Common.{◌≡◌, take}
use Rattle.slot_gen.proofs.rows.lower_strings.Given as goal

abbrev pub invariant-loop-text : goal.invariant-loop-text
invariant-loop-text l = l.rows.items ≡ take l.text-index l.strings
