use Rattle.std.proofs.Common.{◌≡◌, ◌++◌, drop}
use Rattle.slot_gen.specs.Statements.{zeros_code}
use Rattle.slot_gen.proofs.blocks.put_zeros.Given as goal

abbrev pub invariant-loop-declared : goal.invariant-loop-declared
invariant-loop-declared l = l.code.items ++ zeros_code (drop l.declared-index l.locals) ≡ l.initial.code.items ++ zeros_code l.locals
