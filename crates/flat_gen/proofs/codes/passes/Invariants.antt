use Rattle.std.proofs.Common.{◌≡◌, ◌++◌}
use Rattle.flat_gen.specs.Codes.{passes}
use Rattle.flat_gen.proofs.codes.passes.Given as goal

abbrev pub invariant-loop-number : goal.invariant-loop-number
invariant-loop-number l = l.code.items ≡ l.initial.code.items ++ passes l.within.slots.now l.within.function.now l.within.layout.now l.within.starts.now l.at l.number
