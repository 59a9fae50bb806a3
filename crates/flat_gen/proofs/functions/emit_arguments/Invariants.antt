use Rattle.std.proofs.Common.{◌≡◌, ◌++◌, drop}
use Rattle.flat_gen.specs.Codes.{arguments}
use Rattle.flat_gen.proofs.functions.emit_arguments.Given as goal

-- with the code of the parameters that are left, it is all the code
abbrev pub invariant-loop-local : goal.invariant-loop-local
invariant-loop-local l = l.code.items ++ arguments l.within.slots.now l.within.function.now l.within.layout.now l.within.starts.now l.number (drop l.local-index l.params) ≡ l.initial.code.items ++ arguments l.within.slots.now l.within.function.now l.within.layout.now l.within.starts.now 0 l.params
