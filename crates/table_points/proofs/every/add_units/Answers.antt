use Rattle.table_model.specs.Places.{rows_in}
use Rattle.table_points.proofs.Adding.{so_far_on}
use Rattle.table_points.proofs.every.add_units.Goals as goal

pub loop-number-preserved : goal.loop-number-preserved
loop-number-preserved c =
    let far = c.loop-number in
    so_far_on c.args.store.now (rows_in c.args.store.now) c.args.units.now c.args.points.now.items far.number _ far.points.items c.add_unit.new.points.items c.loop-number-test.true far.invariant c.in-Ok.ensures
