use Rattle.std.proofs.Common.{◌≡◌, drop}
use Rattle.ps_step.specs.Item.{loop_from}
use Rattle.ps_step.proofs.item.loop_depth.Given as goal

-- what is left decides
abbrev pub invariant-loop-depth : goal.invariant-loop-depth
invariant-loop-depth l = loop_from l.depth (drop l.depth l.items) ≡ loop_from 0 l.items
