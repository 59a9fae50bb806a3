use Rattle.std.proofs.Common.{◌≡◌, map, drop, string_bytes}
use Rattle.cc_call.specs.Words.{are_sources}
use Rattle.cc_call.proofs.words.are_sources.Given as goal

abbrev pub invariant-loop-name : goal.invariant-loop-name
invariant-loop-name l = are_sources (map string_bytes (drop l.name-index l.names)) ≡ are_sources (map string_bytes l.names)
