use Rattle.evaluating.proofs.Keeping.{same_keeps, walked_on, walk_fails}
use Rattle.evaluating.proofs.running.object_at.Goals as goal

pub returns-in-Ok-clause-told : goal.returns-in-Ok-clause-told
returns-in-Ok-clause-told g c =
    let seen = g.W.AbsMem.seen in
    same_keeps seen c.args.talk.now c.find.new.m (walked_on seen _ (seen c.args.talk.now.memory.below.below.below) (seen c.again.m) (seen c.find.new.m) _ c.again.invariant.same c.in-Ok.ensures.meaning)

pub returns-in-Err-settle_walk-clause-told : goal.returns-in-Err-settle_walk-clause-told
returns-in-Err-settle_walk-clause-told g c =
    let seen = g.W.AbsMem.seen in
    walk_fails seen _ c.args.talk.now (seen c.again.m) c.find.new.m c.in-Err.fault c.in-Err-settle_walk.fault c.again.inquiry c.settle_walk.new.inquiry c.again.invariant.same c.in-Err.ensures.meaning c.in-Err-settle_walk.ensures.settles
