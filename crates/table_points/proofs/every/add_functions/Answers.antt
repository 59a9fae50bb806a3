use Rattle.ps_store.specs.Store.{bytes_of}
use Rattle.table_model.specs.Places.{rows_of}
use Rattle.table_points.proofs.Adding.{so_far_on}
use Rattle.table_points.proofs.every.add_functions.Goals as goal

pub loop-function-preserved : goal.loop-function-preserved
loop-function-preserved c =
    let s = c.args.store.now in
    let far = c.loop-function in
    so_far_on s (λ n x. rows_of s (bytes_of s c.args.file) x) c.args.functions.now c.args.points.now.items far.function-index _ far.points.items c.add_function.new.points.items c.loop-function-test.true far.invariant c.in-Ok.ensures
