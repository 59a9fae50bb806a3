use Rattle.std.proofs.Common.{sym, ap, ◌∙◌}
use Rattle.c_tree.specs.Types.{type_of}
use Rattle.slot_gen.proofs.Emitted.{on_ok}
use Rattle.slot_gen.proofs.Arms.{args_more, call_done, binary_done, copy_done, assign_done, and_done, or_done, choice_arm, name_done}
use Rattle.slot_gen.proofs.expressions.+expr.Goals as goal

pub emit_args-loop-arg-preserved : goal.emit_args-loop-arg-preserved
emit_args-loop-arg-preserved t c =
    args_more c.args.within.now.program.now c.args.within.now.number _ _ _ _ _ _ _ _ c.loop-arg-test.true c.arg-item.is c.in_ok-to.ensures c.loop-arg.invariant c.in_ok-emit_expr.ensures

pub emit_expr-returns-in_ok-emit_place-in-Assign-2 : goal.emit_expr-returns-in_ok-emit_place-in-Assign-2
emit_expr-returns-in_ok-emit_place-in-Assign-2 t c =
    on_ok c.put_move.result _ _
    (λ q. copy_done c.args.within.now.program.now c.args.within.now.number _ _ _ _ _ _ _ _ _ _ _ _ _ _ _ _ _ c.in-Assign.is c.deref-then-is_copy.ensures c.deref-then-is_copy-2.ensures c.in_ok-next-in-Assign.ensures (c.type_of.ensures ∙ ap type_of c.deref-in-Assign.ensures) (sym c.is_copy.ensures ∙ c.if-is_copy.true) (c.type_of-then-is_copy.ensures ∙ ap type_of c.deref-then-is_copy-3.ensures) c.in_ok-emit_place-in-Assign.ensures c.in_ok-emit_place-in-Assign-2.ensures q)
    c.put_move.ensures

pub emit_expr-returns-in_ok-emit_expr-in-Assign : goal.emit_expr-returns-in_ok-emit_expr-in-Assign
emit_expr-returns-in_ok-emit_expr-in-Assign t c =
    on_ok c.put_assigned.result _ _
    (λ q. assign_done c.args.within.now.program.now c.args.within.now.number _ _ _ _ _ _ _ _ _ _ _ _ _ _ _ _ _ _ _ c.in-Assign.is c.deref-else-is_copy.ensures c.deref-else-is_copy-2.ensures c.in_ok-next-in-Assign-2.ensures (c.type_of.ensures ∙ ap type_of c.deref-in-Assign.ensures) (sym c.is_copy.ensures ∙ c.if-is_copy.false) (c.type_of-else-is_copy.ensures ∙ ap type_of c.deref-else-is_copy-3.ensures) (c.type_of-else-is_copy-2.ensures ∙ ap type_of c.deref-else-is_copy-4.ensures) c.in_ok-register-in-Assign.ensures.register c.in_ok-register-in-Assign.ensures.place c.in_ok-emit_expr-in-Assign.ensures q)
    c.put_assigned.ensures

pub emit_expr-returns-in_ok-put_cast-in-Choice-2 : goal.emit_expr-returns-in_ok-put_cast-in-Choice-2
emit_expr-returns-in_ok-put_cast-in-Choice-2 t c =
    choice_arm c.args.within.now.program.now c.args.within.now.number c.end_choice.result _ _ _ _ _ _ _ _ _ _ _ _ _ _ _ _ _ _ _ _ _ _ _ _ _ c.in-Choice.is c.deref-in-Choice.ensures c.deref-in-Choice-2.ensures c.deref-in-Choice-3.ensures c.in_ok-test-in-Choice.ensures.there c.in_ok-over-in-Choice.ensures.there
    c.in_ok-emit_expr-in-Choice.ensures c.in_ok-test-in-Choice.ensures.one c.in_ok-emit_expr-in-Choice-2.ensures c.in_ok-put_cast-in-Choice.ensures c.in_ok-over-in-Choice.ensures.one c.in_ok-emit_expr-in-Choice-3.ensures c.in_ok-put_cast-in-Choice-2.ensures c.end_choice.ensures

pub emit_expr-returns-in_ok-emit_expr-in-Or-2 : goal.emit_expr-returns-in_ok-emit_expr-in-Or-2
emit_expr-returns-in_ok-emit_expr-in-Or-2 t c =
    or_done c.args.within.now.program.now c.args.within.now.number c.end_or.result _ _ _ _ _ _ _ _ _ _ _ _ c.in_ok-test-in-Or.ensures.there c.in_ok-emit_expr-in-Or.ensures c.in_ok-test-in-Or.ensures.one c.in_ok-emit_expr-in-Or-2.ensures _ _ _ _ c.in-Or.is c.deref-in-Or.ensures c.deref-in-Or-2.ensures c.end_or.ensures

pub emit_expr-returns-in_ok-emit_expr-in-And-2 : goal.emit_expr-returns-in_ok-emit_expr-in-And-2
emit_expr-returns-in_ok-emit_expr-in-And-2 t c =
    and_done c.args.within.now.program.now c.args.within.now.number c.end_and.result _ _ _ _ _ _ _ _ _ _ _ _ c.in_ok-test-in-And.ensures.there c.in_ok-emit_expr-in-And.ensures c.in_ok-test-in-And.ensures.one c.in_ok-emit_expr-in-And-2.ensures _ _ _ _ c.in-And.is c.deref-in-And.ensures c.deref-in-And-2.ensures c.end_and.ensures

pub emit_expr-returns-in_ok-emit_expr-in-Binary-2 : goal.emit_expr-returns-in_ok-emit_expr-in-Binary-2
emit_expr-returns-in_ok-emit_expr-in-Binary-2 t c =
    on_ok c.put_combine.result _ _
    (λ q. binary_done c.args.within.now.program.now c.args.within.now.number _ _ _ _ _ _ _ _ _ _ _ _ _ _ _ _ _ c.in-Binary.is c.deref-in-Binary.ensures c.deref-in-Binary-2.ensures c.in_ok-next-in-Binary.ensures (c.type_of-in-Binary.ensures ∙ ap type_of c.deref-in-Binary-3.ensures) (c.type_of-in-Binary-2.ensures ∙ ap type_of c.deref-in-Binary-4.ensures) c.in_ok-emit_expr-in-Binary.ensures c.in_ok-emit_expr-in-Binary-2.ensures q)
    c.put_combine.ensures

pub emit_expr-returns-in_ok-emit_args-in-Call : goal.emit_expr-returns-in_ok-emit_args-in-Call
emit_expr-returns-in_ok-emit_args-in-Call t c =
    on_ok c.put_enter.result _ _
    (λ q. call_done c.args.within.now.program.now c.args.within.now.number _ _ _ _ _ _ _ _ _ _ c.in-Call.is c.deref-in-Call.ensures.value (c.len.ensures ∙ c.in-Call.args.ok.0) c.in_ok-emit_args-in-Call.ensures q)
    c.put_enter.ensures

pub emit_expr-returns-in_ok-register-in-Name : goal.emit_expr-returns-in_ok-register-in-Name
emit_expr-returns-in_ok-register-in-Name t c =
    on_ok c.put_read.result _ _
    (λ q. name_done c.args.within.now.program.now c.args.within.now.number _ _ _ _ _ _ _ _ c.in-Name.is c.in_ok-register-in-Name.ensures.register c.in_ok-register-in-Name.ensures.place q)
    (c.put_read.ensures.place c.args.within.now.program.now c.args.within.now.number)
