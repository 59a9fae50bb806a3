use Rattle.std.proofs.Common.{sym, ◌∙◌, subst}
use Rattle.c_typing.specs.Plain.{plain}
use Rattle.c_judge.specs.Scope.{defs_of}
use Rattle.c_judge.specs.Judgement.{bounded}
use Rattle.c_judge.specs.Parts.{judged_of}
use Rattle.c_judge.specs.Judges.{scope_of, Gives}
use Rattle.c_judge.proofs.Bounds.{bound_judges, bound_fails}
use Rattle.c_judge.proofs.nodes.at_bound.Goals as goal

pub returns-in-Ok : goal.returns-in-Ok
returns-in-Ok c = λ j e w h k. bound_judges (scope_of c.args.v.now) c.args.at e j c.args.t c.args.x c.in-Ok.t c.in-Ok.x c.bounded.result h k (sym c.pair.ensures ∙ c.in-Ok.is)
    (subst (λ q. Gives plain (bounded (defs_of (scope_of c.args.v.now)) c.args.at q (plain c.in-Ok.t) (judged_of c.in-Ok.x)) c.bounded.result) w c.bounded.ensures)

pub returns-in-Err : goal.returns-in-Err
returns-in-Err c = λ j e w h k. bound_fails (scope_of c.args.v.now) c.args.at e j c.args.t c.args.x c.in-Err.f h k (sym c.pair.ensures ∙ c.in-Err.is)
