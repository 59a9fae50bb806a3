use Rattle.std.proofs.Common.{refl, []}
use Rattle.c_defs.proofs.Completed.{none_kept}
use Rattle.c_defs.proofs.view.StructsView.of.Goals as goal

pub invariant_of-result : goal.invariant_of-result
invariant_of-result c = none_kept [] 0 refl c.args.defs.now
