use Rattle.std.proofs.Common.{◌≡◌, map, drop, string_bytes}
use Rattle.cc_call.specs.Words.{all_differ}
use Rattle.cc_call.proofs.words.all_differ.Given as goal

abbrev pub invariant-loop-i : goal.invariant-loop-i
invariant-loop-i l = all_differ (map string_bytes (drop l.i l.names)) ≡ all_differ (map string_bytes l.names)
