use Rattle.std.proofs.Common.{sym, ap, ◌∙◌}
use Rattle.c_judge.specs.Judges.{scope_of}
use Rattle.c_judge.specs.Pairs.{refused}
use Rattle.c_judge.proofs.Made.{binary_judges, binary_fails}
use Rattle.c_judge.proofs.nodes.at_binary.Goals as goal

pub returns-in-Ok : goal.returns-in-Ok
returns-in-Ok c = λ a b h k. binary_judges (scope_of c.args.v.now) c.args.at c.args.op a b c.args.x c.args.y c.in-Ok.x c.in-Ok.y c.joined.result h k (sym (c.refused.ensures ∙ (ap (λ o. refused c.args.at.at o c.pair.result) (rw c.defs.ensures at c.binary_alone-rule.ensures) ∙ ap (refused c.args.at.at _) c.pair.ensures)) ∙ c.in-Ok.is) (rw c.defs-in-Ok.ensures at c.joined.ensures)

pub returns-in-Err : goal.returns-in-Err
returns-in-Err c = λ a b h k. binary_fails (scope_of c.args.v.now) c.args.at c.args.op a b c.args.x c.args.y c.in-Err.f h k (sym (c.refused.ensures ∙ (ap (λ o. refused c.args.at.at o c.pair.result) (rw c.defs.ensures at c.binary_alone-rule.ensures) ∙ ap (refused c.args.at.at _) c.pair.ensures)) ∙ c.in-Err.is)
