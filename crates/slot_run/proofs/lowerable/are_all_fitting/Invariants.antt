use Rattle.std.proofs.Common.{drop}
use Rattle.slot_gen.specs.Rows.{AllFitting}
use Rattle.slot_run.proofs.lowerable.are_all_fitting.Given as goal

-- where the objects that are left fit, all do
abbrev pub invariant-loop-row : goal.invariant-loop-row
invariant-loop-row l = AllFitting l.program (drop l.row-index l.objects) → AllFitting l.program l.objects
