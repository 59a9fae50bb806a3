use Rattle.std.proofs.Common.{ap}
use Rattle.c_scope.specs.Here.{environment_of}
use Rattle.c_body.specs.Walking.{walk_of}
use Rattle.c_body.proofs.Labeled.{label_passes, label_fails}
use Rattle.c_body.proofs.parts.at_label.Goals as goal

pub returns-in-Ok-clause-passes : goal.returns-in-Ok-clause-passes
returns-in-Ok-clause-passes c =
    let g = c.in_ok-gathered.ensures.walk in
    label_passes (walk_of c.args.walk.now) (walk_of c.gathered.new.walk) (environment_of c.gathered.new.walk.here) c.args.e.now c.in-Ok.n g (ap (λ x. x.here) g) c.in-Ok.ensures

pub returns-in-Err-clause-passes : goal.returns-in-Err-clause-passes
returns-in-Err-clause-passes c =
    let g = c.in_ok-gathered.ensures.walk in
    label_fails (walk_of c.args.walk.now) _ (environment_of c.gathered.new.walk.here) c.args.e.now c.in-Err.f (ap (λ x. x.here) g) c.in-Err.ensures
