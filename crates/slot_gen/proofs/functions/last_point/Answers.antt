use Rattle.std.proofs.Common.{refl}
use Rattle.slot_gen.proofs.Forms.{last_found, last_more}
use Rattle.slot_gen.proofs.functions.last_point.Goals as goal

pub loop-q-init : goal.loop-q-init
loop-q-init c = last_found c.args.points.now

pub loop-q-preserved : goal.loop-q-preserved
loop-q-preserved c = last_more _ c.loop-q.last _ c.args.points.now c.loop-q.q-index c.loop-q-test.true refl c.loop-q.invariant
