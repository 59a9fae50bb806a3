use Rattle.c_body.specs.Walking.{walk_of}
use Rattle.c_body.proofs.Forms.{while_passes}
use Rattle.c_body.proofs.heads.at_while.Goals as goal

pub returns-in-Ok-clause-passes : goal.returns-in-Ok-clause-passes
returns-in-Ok-clause-passes c = λ t a s. while_passes t a (walk_of c.args.walk.now) (walk_of c.at_stop.new.walk) c.args.at c.args.e.now s c.in-Ok.q c.checked_while.result c.checked_while.ensures c.in-Ok.ensures.passes
