use Rattle.std.proofs.Common.{◌≡◌, drop}
use Rattle.std.specs.List.{list_all}
use Rattle.expr_serve.specs.Literals.{is_part}
use Rattle.expr_serve.proofs.literals.is_identifier.Given as goal

abbrev pub invariant-loop-byte : goal.invariant-loop-byte
invariant-loop-byte l = list_all is_part (drop l.byte-index l.name) ≡ list_all is_part l.name
