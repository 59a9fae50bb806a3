use Rattle.std.proofs.Common.{◌≡◌, ◌++◌, map, drop, string_bytes}
use Rattle.cc_call.proofs.reading.names_of.Given as goal

abbrev pub invariant-loop-name : goal.invariant-loop-name
invariant-loop-name l = (l.texts.items ++ map string_bytes (drop l.name-index l.names)) ≡ map string_bytes l.names
