use Rattle.std.proofs.Common.{subst, ap, ◌∙◌, map}
use Rattle.c_judge.specs.Judges.{Judges}
use Rattle.c_scope.specs.Environment.{scope}
use Rattle.c_scope.specs.Here.{environment_of}
use Rattle.c_mentions.specs.Literals.{literal, number_at}
use Rattle.c_body.proofs.passing.judged_behind.Goals as goal

pub returns : goal.returns
returns c =
    let v = environment_of c.args.here.now in
    let n = c.args.numbered.now.first in
    subst (λ s. Judges s c.args.e.now c.judge.result) (c.scope-v.ensures ∙ ((λ i. scope v (λ at. c.in_ok-numbers.ensures at i)) ∙ ap (λ ls. scope v (number_at n (map literal ls))) c.deref.ensures.value)) c.judge.ensures
