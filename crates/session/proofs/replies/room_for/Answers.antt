use Rattle.std.proofs.Common.{arith}
use Rattle.session.proofs.replies.room_for.Goals as goal

pub returns-clause-each : goal.returns-clause-each
returns-clause-each c = λ k d h. c.loop-point.invariant.each k d (omega (arith, h, c.loop-point.auto.point-index-end, c.loop-point-test.false))
