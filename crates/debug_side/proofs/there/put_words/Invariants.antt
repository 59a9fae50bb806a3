use Rattle.debug_side.specs.Wrote.{Wrote}
use Rattle.debug_side.proofs.Stood.{AllLeft}
use Rattle.debug_side.proofs.there.put_words.Given as goal

abbrev pub invariant-loop-there : goal.invariant-loop-there
invariant-loop-there g l = Wrote (g.M.AbsMem.seen l.fn.m) (g.M.AbsMem.seen l.m) (AllLeft l.words l.there-index)
