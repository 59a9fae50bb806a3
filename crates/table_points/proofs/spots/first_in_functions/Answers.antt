use Rattle.std.proofs.Common.{◌∙◌, sym, ap, Ok, option_map}
use Rattle.table_read.specs.Reads.{in_ok}
use Rattle.table_points.specs.Rows.{row_in}
use Rattle.table_points.proofs.Looks.{first_behind}
use Rattle.table_points.proofs.spots.first_in_functions.Goals as goal

pub loop-function-preserved : goal.loop-function-preserved
loop-function-preserved c =
    sym (first_behind _ c.loop-function.function-index c.args.functions.now _ c.loop-function-test.true
    (sym c.in_function.ensures ∙ ap (in_ok (option_map (row_in c.args.store.now))) (c.in_ok-found.was ∙ ap (λ o. Ok o) c.in-None.is)))
    ∙ c.loop-function.invariant
