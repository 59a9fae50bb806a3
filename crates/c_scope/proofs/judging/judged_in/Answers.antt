use Rattle.std.proofs.Common.{ap}
use Rattle.std.specs.BTreeMap.{is_at}
use Rattle.std.specs.Map.{lookup}
use Rattle.std.specs.Ordering.{nat_cmp}
use Rattle.c_judge.specs.Scope.{or_else_number}
use Rattle.c_scope.specs.Here.{environment_of}
use Rattle.c_scope.proofs.Scopes.{scope_plain, judges_in}
use Rattle.c_scope.proofs.judging.judged_in.Goals as goal

pub returns : goal.returns
returns c = judges_in _ _ c.args.e.now c.judge.result
    (scope_plain _ (environment_of c.args.here.now) _ c.scope-v.ensures (λ at. ap (λ es. or_else_number 0 (lookup (is_at (nat_cmp at)) es)) c.new-none.ensures.empty))
    c.judge.ensures
