use Rattle.slot_run.proofs.Steps.{laid_more}
use Rattle.slot_run.proofs.lowerable.end_of.Goals as goal

pub loop-member-preserved : goal.loop-member-preserved
loop-member-preserved c = λ end rest.
    c.loop-member.invariant end (laid_more c.args.defs.now c.loop-member.from c.in_ok-from.from c.loop-member.member-index c.args.members.now c.member-item.result end
    c.loop-member-test.true c.member-item.is c.in_ok-from.ensures.at c.in_ok-from.ensures.end rest)
