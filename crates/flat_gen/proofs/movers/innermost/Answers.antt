use Rattle.std.proofs.Common.{sym, ◌∙◌}
use Rattle.flat_gen.proofs.Descent.{level}
use Rattle.flat_gen.proofs.movers.innermost.Goals as goal

pub loop-preserved : goal.loop-preserved
loop-preserved c =
    level c.args.slots.now c.loop.found c.in-Some.next c.loop.counter c.loop-test.true (sym c.in_ok-next.ensures ∙ c.in-Some.is) ∙ c.loop.invariant
