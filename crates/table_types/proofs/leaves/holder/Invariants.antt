use Rattle.std.proofs.Common.{◌≡◌, drop, None}
use Rattle.table_types.specs.Offsets.{holder}
use Rattle.table_types.proofs.leaves.holder.Given as goal

-- what is left decides
abbrev pub invariant-loop-object : goal.invariant-loop-object
invariant-loop-object l = holder l.store l.at l.best (drop l.object-index l.members) ≡ holder l.store l.at None l.members
