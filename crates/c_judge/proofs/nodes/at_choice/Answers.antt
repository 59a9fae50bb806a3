use Rattle.std.proofs.Common.{sym, ap, ◌∙◌}
use Rattle.c_judge.specs.Pairs.{refused}
use Rattle.c_judge.proofs.Made.{choice_judges, choice_fails}
use Rattle.c_judge.proofs.nodes.at_choice.Goals as goal

pub returns-in-Ok : goal.returns-in-Ok
returns-in-Ok c = λ v d a b g h k.
    choice_judges v c.args.at d a b c.args.z c.args.x c.args.y c.refused-branches.result g h k
    (c.refused-branches.ensures ∙ (ap (λ o. refused c.args.at.at o c.pair.result) c.branch_alone-rule.ensures ∙ ap (refused c.args.at.at _) c.pair.ensures))
    c.in-Ok.z c.in-Ok.branches c.chosen.result
    (sym (c.refused.ensures ∙ (ap (λ o. refused c.args.at.at o c.pair-2.result) c.choice_alone-rule.ensures ∙ ap (refused c.args.at.at _) c.pair-2.ensures)) ∙ c.in-Ok.is) c.chosen.ensures

pub returns-in-Err : goal.returns-in-Err
returns-in-Err c = λ v d a b g h k.
    choice_fails v c.args.at d a b c.args.z c.args.x c.args.y c.refused-branches.result g h k
    (c.refused-branches.ensures ∙ (ap (λ o. refused c.args.at.at o c.pair.result) c.branch_alone-rule.ensures ∙ ap (refused c.args.at.at _) c.pair.ensures))
    c.in-Err.f
    (sym (c.refused.ensures ∙ (ap (λ o. refused c.args.at.at o c.pair-2.result) c.choice_alone-rule.ensures ∙ ap (refused c.args.at.at _) c.pair-2.ensures)) ∙ c.in-Err.is)
