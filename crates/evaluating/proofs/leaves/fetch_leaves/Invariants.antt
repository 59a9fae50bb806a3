use Rattle.evaluating.specs.Told.{Keeps}
use Rattle.evaluating.proofs.leaves.fetch_leaves.Given as goal

-- nothing was stored so far
abbrev pub invariant-loop-leaf : goal.invariant-loop-leaf
invariant-loop-leaf g l = Keeps g.W.AbsMem.seen l.fn.talk l.talk
