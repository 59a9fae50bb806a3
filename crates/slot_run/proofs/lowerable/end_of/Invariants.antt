use Rattle.std.proofs.Common.{ℕ, drop}
use Rattle.c_tree.specs.Layout.{AreLaid}
use Rattle.slot_run.proofs.lowerable.end_of.Given as goal

-- with the members that are left, all are laid
abbrev pub invariant-loop-member : goal.invariant-loop-member
invariant-loop-member l = (end : ℕ) → AreLaid l.defs l.from (drop l.member-index l.members) end → AreLaid l.defs 0 l.members end
