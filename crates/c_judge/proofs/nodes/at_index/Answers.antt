use Rattle.std.proofs.Common.{sym, ap, ◌∙◌}
use Rattle.c_judge.specs.Judges.{scope_of}
use Rattle.c_judge.specs.Pairs.{refused}
use Rattle.c_judge.proofs.Made.{index_judges, index_fails}
use Rattle.c_judge.proofs.nodes.at_index.Goals as goal

pub returns-in-Ok : goal.returns-in-Ok
returns-in-Ok c = λ a b h k. index_judges (scope_of c.args.v.now) c.args.at a b c.args.x c.args.y c.in-Ok.x c.in-Ok.y c.index.result h k (sym (c.refused.ensures ∙ (ap (λ o. refused c.args.at.at o c.pair.result) (rw c.defs.ensures at c.indices_alone-rule.ensures) ∙ ap (refused c.args.at.at _) c.pair.ensures)) ∙ c.in-Ok.is) (rw c.defs-in-Ok.ensures at c.index.ensures)

pub returns-in-Err : goal.returns-in-Err
returns-in-Err c = λ a b h k. index_fails (scope_of c.args.v.now) c.args.at a b c.args.x c.args.y c.in-Err.f h k (sym (c.refused.ensures ∙ (ap (λ o. refused c.args.at.at o c.pair.result) (rw c.defs.ensures at c.indices_alone-rule.ensures) ∙ ap (refused c.args.at.at _) c.pair.ensures)) ∙ c.in-Err.is)
