use Rattle.std.proofs.Common.{◌≡◌, ◌<◌, length, refl, arith}
use Rattle.debug_side.proofs.Putting.{wrote_none}
use Rattle.debug_side.proofs.Stood.{AllLeft, drop_one, one_more}
use Rattle.debug_side.proofs.there.put_words.Goals as goal

pub loop-there-init : goal.loop-there-init
loop-there-init g c = wrote_none (g.M.AbsMem.seen c.args.m.now) (AllLeft c.args.words.now 0) (λ b. refl)

pub loop-there-preserved : goal.loop-there-preserved
loop-there-preserved g c =
    let inside : c.loop-there.there-index < length c.args.words.now = omega arith in
    one_more c.args.words.now c.loop-there.there-index _ (g.M.AbsMem.seen c.args.m.now) (g.M.AbsMem.seen c.loop-there.m) (g.M.AbsMem.seen c.put_there.new.m) (drop_one c.args.words.now c.loop-there.there-index _ inside) c.loop-there.invariant c.in-Ok.ensures
