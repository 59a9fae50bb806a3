use Rattle.std.proofs.Common.{ap, map}
use Rattle.c_scope.specs.Here.{environment_of}
use Rattle.c_mentions.specs.Literals.{literal}
use Rattle.c_body.specs.Walking.{walk_of}
use Rattle.c_body.proofs.Passed.{part_passes}
use Rattle.c_body.proofs.passing.at_expression.Goals as goal

pub returns-clause-walk : goal.returns-clause-walk
returns-clause-walk c =
    let w = c.gathered.new.walk in
    let n = c.in_ok-numbered.numbered in
    let g = c.in_ok-numbered.ensures in
    part_passes (walk_of c.args.walk.now) (walk_of w) (environment_of w.here) c.args.e.now n.first (map literal n.literals.items) c.judged_behind-judged.result c.noted.result c.noted.new.unknown g.walk
    (ap (λ x. x.here) g.walk) g.first g.found c.judged_behind-judged.ensures c.noted.ensures
