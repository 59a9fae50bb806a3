use Rattle.std.proofs.Common.{◌∙◌, sym}
use Rattle.table_model.specs.Places.{called}
use Rattle.table_points.specs.Naming.{choice_of, with_all}
use Rattle.table_points.proofs.Gathering.{gather_behind, gather_fails}
use Rattle.table_points.proofs.Naming.{all_joins}
use Rattle.table_points.proofs.named.add_functions.Goals as goal

pub returns-in-Err : goal.returns-in-Err
returns-in-Err c =
    sym (gather_fails with_all all_joins (λ n x. called c.args.store.now c.args.name.now c.args.number c.args.unit x) c.loop-function.function-index c.args.functions.now _ c.loop-function-test.true (choice_of c.loop-function.meant) c.in-Err.lack (sym c.in-Err.ensures))
    ∙ c.loop-function.invariant

pub loop-function-preserved : goal.loop-function-preserved
loop-function-preserved c =
    sym (gather_behind with_all all_joins (λ n x. called c.args.store.now c.args.name.now c.args.number c.args.unit x) c.loop-function.function-index c.args.functions.now _ c.loop-function-test.true (choice_of c.loop-function.meant) (choice_of c.in-Ok.more) (sym c.in-Ok.ensures))
    ∙ c.loop-function.invariant
