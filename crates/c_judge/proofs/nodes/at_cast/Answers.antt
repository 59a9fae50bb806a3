use Rattle.std.proofs.Common.{sym, ap, ◌∙◌}
use Rattle.c_judge.specs.Pairs.{refused}
use Rattle.c_judge.proofs.Made.{cast_judges, cast_fails}
use Rattle.c_judge.proofs.nodes.at_cast.Goals as goal

pub returns-in-Ok : goal.returns-in-Ok
returns-in-Ok c = λ v s d a h k. cast_judges v c.args.at s d a c.args.t c.args.x c.in-Ok.t c.in-Ok.x c.cast.result h k (sym (c.refused.ensures ∙ (ap (λ o. refused c.args.at.at o c.pair.result) c.casts_alone-rule.ensures ∙ ap (refused c.args.at.at _) c.pair.ensures)) ∙ c.in-Ok.is) c.cast.ensures

pub returns-in-Err : goal.returns-in-Err
returns-in-Err c = λ v s d a h k. cast_fails v c.args.at s d a c.args.t c.args.x c.in-Err.f h k (sym (c.refused.ensures ∙ (ap (λ o. refused c.args.at.at o c.pair.result) c.casts_alone-rule.ensures ∙ ap (refused c.args.at.at _) c.pair.ensures)) ∙ c.in-Err.is)
