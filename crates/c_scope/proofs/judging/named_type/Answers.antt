use Rattle.std.proofs.Common.{ap, ◌∙◌}
use Rattle.std.specs.BTreeMap.{is_at}
use Rattle.std.specs.Map.{lookup}
use Rattle.std.specs.Ordering.{nat_cmp}
use Rattle.c_judge.specs.Scope.{or_else_number}
use Rattle.c_judge.specs.Judgement.{spec_type}
use Rattle.c_scope.specs.Here.{environment_of}
use Rattle.c_scope.proofs.Scopes.{scope_plain}
use Rattle.c_scope.proofs.judging.named_type.Goals as goal

pub returns : goal.returns
returns c = c.spec_type.ensures ∙ ap (λ v. spec_type v c.args.spec.now)
    (scope_plain _ (environment_of c.args.here.now) _ c.scope-v.ensures (λ at. ap (λ es. or_else_number 0 (lookup (is_at (nat_cmp at)) es)) c.new-none.ensures.empty))
