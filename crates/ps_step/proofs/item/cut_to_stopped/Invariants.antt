use Rattle.std.proofs.Common.{◌≡◌, length}
use Rattle.ps_step.specs.Item.{under_stopped}
use Rattle.ps_step.proofs.item.cut_to_stopped.Given as goal

-- what is left decides
abbrev pub invariant-loop-item : goal.invariant-loop-item
invariant-loop-item l = under_stopped l.items ≡ under_stopped l.fn.items

abbrev pub decreases-loop-item : goal.decreases-loop-item
decreases-loop-item l = length l.items
