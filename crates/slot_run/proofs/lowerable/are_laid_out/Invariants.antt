use Rattle.slot_run.proofs.Steps.{AreLaidBelow}
use Rattle.slot_run.proofs.lowerable.are_laid_out.Given as goal

-- each struct so far is laid out
abbrev pub invariant-loop-def : goal.invariant-loop-def
invariant-loop-def l = AreLaidBelow l.defs l.def-index
