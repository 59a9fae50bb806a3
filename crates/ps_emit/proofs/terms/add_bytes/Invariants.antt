use Rattle.std.proofs.Common.{◌≡◌, ◌++◌, drop}
use Rattle.ps_scan.specs.Escaping.{escaped}
use Rattle.ps_emit.proofs.terms.add_bytes.Given as goal

abbrev pub invariant-loop-byte : goal.invariant-loop-byte
invariant-loop-byte l = l.text ++ escaped (drop l.byte-index l.bytes) ≡ l.initial.text ++ escaped l.bytes
