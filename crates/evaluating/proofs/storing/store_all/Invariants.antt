use Rattle.evaluating.specs.Told.{Changed}
use Rattle.evaluating.proofs.storing.store_all.Given as goal

-- leaves were stored so far
abbrev pub invariant-loop-leaf : goal.invariant-loop-leaf
invariant-loop-leaf g l = Changed g.W.AbsMem.seen l.fn.talk l.talk
