use Rattle.std.proofs.Common.{◌≡◌, ◌++◌, length, drop}
use Rattle.gen_parts.specs.Text.{ops_insns, ops_offsets}
use Rattle.gen_parts.proofs.functions.put_ops.Given as goal

-- with the instructions of the operators that are left, it is all of them
abbrev pub invariant-loop-op : goal.invariant-loop-op
invariant-loop-op g l =
    (l.code.items ++ ops_insns g.T.Coder.coding l.frame (drop l.op-index l.ops) ≡ l.initial.code.items ++ ops_insns g.T.Coder.coding l.frame l.ops)
    × (l.places.items ++ ops_offsets g.T.Coder.coding l.frame (length l.code.items) (drop l.op-index l.ops) ≡ ops_offsets g.T.Coder.coding l.frame (length l.initial.code.items) l.ops)
