use Rattle.std.proofs.Common.{◌≡◌, ◌≤◌, ◌++◌, drop}
use Rattle.slot_gen.specs.Expressions.{registers_from}
use Rattle.slot_gen.proofs.registers.registers.Given as goal

-- with the registers of the locals that are left, it is the whole table
abbrev pub invariant-loop-local : goal.invariant-loop-local
invariant-loop-local l = (l.table.items ++ registers_from (drop l.local-index l.locals) l.taken ≡ registers_from l.initial.locals 0) × (l.taken ≤ 8)
