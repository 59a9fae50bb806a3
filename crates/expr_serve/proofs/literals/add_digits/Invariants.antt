use Rattle.std.proofs.Common.{◌≡◌, ◌++◌, drop}
use Rattle.expr_serve.specs.Literals.{in_digits}
use Rattle.expr_serve.proofs.literals.add_digits.Given as goal

abbrev pub invariant-loop-byte : goal.invariant-loop-byte
invariant-loop-byte l = l.text ++ in_digits (drop l.byte-index l.bytes) ≡ l.initial.text ++ in_digits l.bytes
