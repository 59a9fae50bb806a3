use Rattle.std.proofs.Common.{◌∙◌, sym}
use Rattle.table_model.specs.Places.{called_in}
use Rattle.table_points.specs.Naming.{choice_of, with_all}
use Rattle.table_points.proofs.Gathering.{gather_behind, gather_fails}
use Rattle.table_points.proofs.Naming.{all_joins}
use Rattle.table_points.proofs.named.functions_named.Goals as goal

pub returns-in-Err : goal.returns-in-Err
returns-in-Err c =
    sym (gather_fails with_all all_joins (called_in c.args.store.now c.args.name.now) c.loop-number.number c.args.units.now _ c.loop-number-test.true (choice_of c.loop-number.meant) c.in-Err.lack (sym c.in-Err.ensures))
    ∙ c.loop-number.invariant

pub loop-number-preserved : goal.loop-number-preserved
loop-number-preserved c =
    sym (gather_behind with_all all_joins (called_in c.args.store.now c.args.name.now) c.loop-number.number c.args.units.now _ c.loop-number-test.true (choice_of c.loop-number.meant) (choice_of c.in-Ok.more) (sym c.in-Ok.ensures))
    ∙ c.loop-number.invariant
