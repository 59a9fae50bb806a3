use Rattle.std.proofs.Common.{◌≡◌, ◌++◌, drop}
use Rattle.ps_append.specs.Appending.{plain_text}
use Rattle.ps_append.proofs.append.append_plain.Given as goal

abbrev pub invariant-loop-byte : goal.invariant-loop-byte
invariant-loop-byte l = l.out ++ plain_text (drop l.byte-index l.bytes) ≡ l.initial.out ++ plain_text l.bytes
