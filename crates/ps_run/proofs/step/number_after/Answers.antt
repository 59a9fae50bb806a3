use Rattle.std.proofs.Common.{arith}
use Rattle.std.proofs.lemmas.Int.{ints}
use Rattle.ps_run.proofs.step.number_after.Goals as goal

pub returns-then-after-from-clause-sum : goal.returns-then-after-from-clause-sum
returns-then-after-from-clause-sum c = omega (arith, ints)

pub returns-then-from-after-clause-sum : goal.returns-then-from-after-clause-sum
returns-then-from-after-clause-sum c = omega (arith, ints)

pub returns-then-after-from-clause-some : goal.returns-then-after-from-clause-some
returns-then-after-from-clause-some c = grind (arith, ints)

pub returns-then-from-after-clause-some : goal.returns-then-from-after-clause-some
returns-then-from-after-clause-some c = grind (arith, ints)
