use Rattle.nub_core.proofs.CountedTurns.{none_before, one_more, told_next, quiet_end}
use Rattle.nub_core.proofs.nub.Nub.turn_counted.Goals as goal

pub loop-done-init : goal.loop-done-init
loop-done-init g c = c.in-None.ensures

pub returns-in-Some-turn-clause-told : goal.returns-in-Some-turn-clause-told
returns-in-Some-turn-clause-told g c =
    told_next g.T.Target.behaviour c.loop-done.done c.args.self.now c.loop-done.self c.turn-in-loop-done.new.self c.in-Some-turn.message
    c.loop-done.invariant c.in-Some-turn.ensures

pub returns-in-Some-turn-clause-fewest : goal.returns-in-Some-turn-clause-fewest
returns-in-Some-turn-clause-fewest g c = none_before g.T.Target.behaviour c.loop-done.done c.args.self.now c.loop-done.self c.loop-done.invariant

pub loop-done-preserved : goal.loop-done-preserved
loop-done-preserved g c =
    one_more g.T.Target.behaviour c.loop-done.done c.args.self.now c.loop-done.self c.turn-in-loop-done.new.self c.loop-done.invariant c.in-None-turn.ensures

pub returns-clause-quiet : goal.returns-clause-quiet
returns-clause-quiet g c =
    quiet_end g.T.Target.behaviour c.args.n c.loop-done.done c.args.self.now c.loop-done.self c.loop-done.invariant c.loop-done-test.false c.loop-done.auto.done-end
