use Rattle.std.proofs.Common.{◌≡◌, ◌++◌, length, drop}
use Rattle.flat_gen.specs.Codes.{ops_code, starts_from}
use Rattle.flat_gen.proofs.functions.emit_ops.Given as goal

-- with the code of the operators that are left, it is all the code
abbrev pub invariant-loop-op : goal.invariant-loop-op
invariant-loop-op l =
    (l.code.items ++ ops_code l.within.slots.now l.within.function.now l.within.layout.now l.within.starts.now (drop l.op-index l.ops) ≡ l.initial.code.items ++ ops_code l.within.slots.now l.within.function.now l.within.layout.now l.within.starts.now l.ops)
    × (l.starts.items ++ starts_from l.within.slots.now l.within.function.now l.within.layout.now l.within.starts.now (length l.code.items) (drop l.op-index l.ops) ≡ l.initial.starts.items ++ starts_from l.within.slots.now l.within.function.now l.within.layout.now l.within.starts.now (length l.initial.code.items) l.ops)
