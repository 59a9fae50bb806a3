use Rattle.slot_run.proofs.Steps.{fitting_end}
use Rattle.slot_run.proofs.lowerable.are_fitting.Goals as goal

pub returns-then-i-starts : goal.returns-then-i-starts
returns-then-i-starts c = λ _. c.loop-i.invariant (fitting_end c.loop-i.i c.args.leaves.now c.args.starts.now c.if-i-starts.true)
