use Rattle.std.proofs.Common.{◌∙◌, length, ap}
use Rattle.slot_gen.specs.Emission.{around_of}
use Rattle.slot_gen.proofs.Turns.{loop_arm}
use Rattle.slot_gen.proofs.Forms.{stmts_more, labels_more, default_more, body_ok, targets_ok, default_ok, block_ok, switch_ok, alone_ok, else_ok, some_map}
use Rattle.slot_gen.proofs.statements.+stmt.Goals as goal

pub emit_body-returns-in-Block-clause-code : goal.emit_body-returns-in-Block-clause-code
emit_body-returns-in-Block-clause-code t c =
    body_ok c.emit_cases.result c.args.within.now.program.now c.args.within.now.number (around_of c.args.around) c.args.scope c.args.code.now.items c.emit_cases.new.code.items (length c.args.code.now.items) c.in-Block.field-0 c.in-Block.field-1 c.in-Block.statements c.in-Block.field-3 c.in-Block.field-4 c.args.body.now c.deref.result.now c.in-Block.is c.deref.ensures.value c.emit_cases.ensures.code

pub emit_body-returns-in-Block-clause-labels : goal.emit_body-returns-in-Block-clause-labels
emit_body-returns-in-Block-clause-labels t c =
    targets_ok c.emit_cases.result c.args.within.now.program.now c.args.within.now.number (around_of c.args.around) c.args.scope c.args.labels.now.items c.emit_cases.new.labels.items (length c.args.code.now.items) c.in-Block.field-0 c.in-Block.field-1 c.in-Block.statements c.in-Block.field-3 c.in-Block.field-4 c.args.body.now c.deref.result.now c.in-Block.is c.deref.ensures.value c.emit_cases.ensures.labels

pub emit_body-returns-in-Block-clause-default : goal.emit_body-returns-in-Block-clause-default
emit_body-returns-in-Block-clause-default t c =
    default_ok c.emit_cases.result c.args.within.now.program.now c.args.within.now.number (around_of c.args.around) c.args.scope (length c.args.code.now.items) c.in-Block.field-0 c.in-Block.field-1 c.in-Block.statements c.in-Block.field-3 c.in-Block.field-4 c.args.body.now c.deref.result.now c.in-Block.is c.deref.ensures.value c.emit_cases.ensures.default

pub emit_loop-returns : goal.emit_loop-returns
emit_loop-returns t c =
    loop_arm c.args.within.now.program.now c.args.within.now.number c.end_loop.result c.args.code.now.items c.begin_loop.new.code.items c.emit_stmt.new.code.items c.end_loop.new.code.items c.args.first c.in_ok-head.head.tests _ _ c.in_ok-head.head.start c.in_ok-head.head.test c.in_ok-head.head.body c.args.scope (around_of c.in_ok-around.around) c.args.body.now c.in_ok-head.ensures.start c.in_ok-head.ensures.test c.in_ok-head.ensures.body (c.in_ok-head.ensures.tests ∙ some_map _ c.args.q) c.in_ok-head.ensures.code c.in_ok-around.ensures c.in_ok-emit_stmt.ensures
    (λ before body s a e i. c.end_loop.ensures c.args.within.now.program.now c.args.within.now.number _ _ before body s a e i (c.in_ok-head.ensures.tests ∙ some_map _ c.args.q))

pub emit_stmt-returns-in_ok-emit_stmts-in-Block : goal.emit_stmt-returns-in_ok-emit_stmts-in-Block
emit_stmt-returns-in_ok-emit_stmts-in-Block t c =
    block_ok c.put.result c.args.within.now.program.now c.args.within.now.number (around_of c.args.around) c.args.scope c.args.code.now.items c.put.new.code.items c.put_zeros.new.code.items c.emit_inits.new.code.items c.emit_stmts.new.code.items c.in_ok-deeper-in-Block.field-0 c.len.result c.in-Block.field-0 c.in-Block.locals c.as_slice.result.now c.as_slice-in-Block.result.now c.in-Block.body c.deref.result.now c.in-Block.field-3 c.in-Block.field-4 c.args.s.now
    c.in-Block.is c.as_slice.ensures c.as_slice-in-Block.ensures c.deref.ensures.value c.len.ensures c.in_ok-deeper-in-Block.ensures c.in_ok-put_zeros-in-Block.ensures c.in_ok-emit_inits-in-Block.ensures c.in_ok-emit_stmts-in-Block.ensures c.put.ensures

pub emit_stmt-returns-in-None : goal.emit_stmt-returns-in-None
emit_stmt-returns-in-None t c = alone_ok c.end_choice.result c.args.within.now.program.now c.args.within.now.number (around_of c.args.around) c.args.scope c.args.code.now.items c.end_choice.new.code.items c.emit_condition.new.code.items c.emit_stmt.new.code.items c.put_jump.new.code.items c.in_ok-test-in-If.test c.in_ok-over-in-If.over c.in-If.field-0 c.in-If.q c.in-If.a c.in-If.b c.args.s.now c.deref-in-If.result.now c.in-If.is c.deref-in-If.ensures c.in_ok-test-in-If.ensures.test c.in_ok-test-in-If.ensures.there c.in_ok-emit_stmt-in-If.ensures c.in_ok-over-in-If.ensures.there c.in_ok-over-in-If.ensures.one c.in-None.is c.end_choice.ensures

pub emit_stmt-returns-in_ok-emit_stmt-in-Some : goal.emit_stmt-returns-in_ok-emit_stmt-in-Some
emit_stmt-returns-in_ok-emit_stmt-in-Some t c =
    else_ok c.end_choice-in-Some.result c.args.within.now.program.now c.args.within.now.number (around_of c.args.around) c.args.scope c.args.code.now.items c.end_choice-in-Some.new.code.items c.emit_condition.new.code.items c.emit_stmt.new.code.items c.put_jump.new.code.items c.in_ok-test-in-If.test c.in_ok-over-in-If.over c.in-If.field-0 c.in-If.q c.in-If.a c.in-If.b c.args.s.now c.deref-in-If.result.now c.in-If.is c.deref-in-If.ensures c.in_ok-test-in-If.ensures.test c.in_ok-test-in-If.ensures.there c.in_ok-emit_stmt-in-If.ensures c.in_ok-over-in-If.ensures.there c.in_ok-over-in-If.ensures.one c.emit_stmt-in-Some.new.code.items c.in-Some.b c.deref-in-Some.result.now c.in-Some.is c.deref-in-Some.ensures c.in_ok-emit_stmt-in-Some.ensures c.end_choice-in-Some.ensures

pub emit_stmt-returns-in_ok-emit_pointed-in-Switch : goal.emit_stmt-returns-in_ok-emit_pointed-in-Switch
emit_stmt-returns-in_ok-emit_pointed-in-Switch t c =
    switch_ok c.emit_switch.result c.args.within.now.program.now c.args.within.now.number (around_of c.args.around) c.args.scope c.args.code.now.items c.emit_switch.new.code.items c.emit_pointed.new.code.items c.in-Switch.field-0 c.in-Switch.q _ c.in-Switch.body.value c.deref-in-Switch.result.now c.args.s.now c.in-Switch.is c.deref-in-Switch.ensures c.in_ok-emit_pointed-in-Switch.ensures c.emit_switch.ensures

pub emit_cases-loop-s-preserved : goal.emit_cases-loop-s-preserved
emit_cases-loop-s-preserved t c =
    let here = c.in_ok-at.ensures ∙ ap length c.deref.ensures.value in
    record {
      code = stmts_more c.args.within.now.program.now c.args.within.now.number (around_of c.args.around) c.args.scope _ _ _ _ _ _ c.loop-s-test.true c.s-item.is c.loop-s.invariant.code c.in_ok-emit_stmt.ensures;
      labels = labels_more c.args.within.now.program.now c.args.within.now.number (around_of c.args.around) c.args.scope _ _ _ _ _ _ _ _ _ c.loop-s-test.true c.s-item.is here c.loop-s.invariant.labels c.in_ok-put_labels.ensures c.in_ok-emit_stmt.ensures;
      default = default_more c.args.within.now.program.now c.args.within.now.number (around_of c.args.around) c.args.scope _ _ _ _ _ _ _ _ _ c.loop-s-test.true c.s-item.is here c.loop-s.invariant.default c.first_default-default.ensures c.in_ok-emit_stmt.ensures;
    }

pub emit_stmts-loop-s-preserved : goal.emit_stmts-loop-s-preserved
emit_stmts-loop-s-preserved t c =
    stmts_more c.args.within.now.program.now c.args.within.now.number (around_of c.args.around) c.args.scope _ _ _ _ _ _ c.loop-s-test.true c.s-item.is c.loop-s.invariant c.in_ok-emit_stmt.ensures
