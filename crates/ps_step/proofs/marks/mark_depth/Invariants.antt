use Rattle.std.proofs.Common.{◌≡◌, drop}
use Rattle.ps_step.specs.Marks.{mark_from}
use Rattle.ps_step.proofs.marks.mark_depth.Given as goal

-- what is left decides
abbrev pub invariant-loop-depth : goal.invariant-loop-depth
invariant-loop-depth l = mark_from l.depth (drop l.depth l.xs) ≡ mark_from 0 l.xs
