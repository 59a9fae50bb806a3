use Rattle.std.proofs.Common.{◌≡◌, Some, None, Ok, sym, subst, ◌∙◌}
use Rattle.c_body.specs.Passing.{PassesExpression}
use Rattle.c_body.specs.Walking.{walk_of}
use Rattle.c_body.proofs.Passed.{stop_passes, stop_breaks, stop_unknown, stop_fails}
use Rattle.c_body.proofs.parts.at_stop.Goals as goal

pub returns-then-answers-clause-passes : goal.returns-then-answers-clause-passes
returns-then-answers-clause-passes c =
    let q : c.in-Ok-Some.field-0 ≡ Some c.in-Ok-Some.part = cc in
    stop_passes (walk_of c.args.walk.now) (walk_of c.point.new.walk) (walk_of c.at_expression.new.walk) c.args.e.now c.place_of-at.result c.args.asking c.in-Ok-Some.part c.in_ok-point.point c.pointed.result
    c.in_ok-point.ensures.walk c.place_of-at.ensures c.in_ok-point.ensures.number (subst (λ x. PassesExpression (walk_of c.point.new.walk) c.args.e.now (Ok x) (walk_of c.at_expression.new.walk)) q c.in-Ok-Some.ensures.walk) (sym c.answers.ensures ∙ c.if-answers.true) c.pointed.ensures

pub returns-else-answers-clause-passes : goal.returns-else-answers-clause-passes
returns-else-answers-clause-passes c =
    let q : c.in-Ok-Some.field-0 ≡ Some c.in-Ok-Some.part = cc in
    stop_breaks (walk_of c.args.walk.now) (walk_of c.point.new.walk) (walk_of c.at_expression.new.walk) c.args.e.now c.place_of-at.result c.args.asking c.in-Ok-Some.part c.rule_of.result
    c.in_ok-point.ensures.walk c.place_of-at.ensures c.rule_of.ensures (subst (λ x. PassesExpression (walk_of c.point.new.walk) c.args.e.now (Ok x) (walk_of c.at_expression.new.walk)) q c.in-Ok-Some.ensures.walk) (sym c.answers.ensures ∙ c.if-answers.false)

pub returns-in-Ok-None-clause-passes : goal.returns-in-Ok-None-clause-passes
returns-in-Ok-None-clause-passes c =
    let q : c.in-Ok-None.field-0 ≡ None = cc in
    stop_unknown (walk_of c.args.walk.now) (walk_of c.point.new.walk) (walk_of c.at_expression.new.walk) c.args.e.now c.place_of-at.result c.args.asking c.in_ok-point.ensures.walk c.place_of-at.ensures (subst (λ x. PassesExpression (walk_of c.point.new.walk) c.args.e.now (Ok x) (walk_of c.at_expression.new.walk)) q c.in-Ok-None.ensures.walk)

pub returns-in-Err-clause-passes : goal.returns-in-Err-clause-passes
returns-in-Err-clause-passes c =
    stop_fails (walk_of c.args.walk.now) (walk_of c.point.new.walk) (walk_of c.at_expression.new.walk) c.args.e.now c.place_of-at.result c.args.asking c.in-Err.f c.in_ok-point.ensures.walk c.place_of-at.ensures c.in-Err.ensures.walk
