use Rattle.std.proofs.Common.{take}
use Rattle.debug_side.specs.There.{AreRead}
use Rattle.debug_side.proofs.there.words_there.Given as goal

abbrev pub invariant-loop-point : goal.invariant-loop-point
invariant-loop-point g l = AreRead (take l.point-index l.points) l.words.items (g.M.AbsMem.seen l.fn.m) (g.M.AbsMem.seen l.m)
