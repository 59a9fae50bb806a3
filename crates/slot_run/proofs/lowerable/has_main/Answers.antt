use Rattle.std.proofs.Common.{◌≡◌}
use Rattle.std.proofs.lemmas.Bool.{eqb-true}
use Rattle.c_source.specs.Begin.{main_from}
use Rattle.slot_run.proofs.Steps.{main_found, main_more, main_at}
use Rattle.slot_run.proofs.lowerable.has_main.Goals as goal

pub loop-function-preserved : goal.loop-function-preserved
loop-function-preserved c = main_more _ c.args.functions.now c.loop-function.function-index c.function-item.result c.is_main.result c.loop-function-test.true c.function-item.is c.is_main.ensures c.if-is_main.false c.loop-function.invariant

pub returns-then-is_main : goal.returns-then-is_main
returns-then-is_main c = λ none.
    let fs = c.args.functions.now in
    let i = c.loop-function.function-index in
    let f = c.function-item.result in
    let here : i ≡ main_from 0 fs = main_found _ fs i f c.is_main.result c.loop-function-test.true c.function-item.is c.is_main.ensures c.if-is_main.true c.loop-function.invariant in
    (f, main_at _ fs i f c.loop-function-test.true c.function-item.is here, eqb-true f.params 0 none)
