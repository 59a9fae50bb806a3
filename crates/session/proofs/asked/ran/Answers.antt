use Rattle.c_session.specs.declared.command.Command.TheVariants.{Ps}
use Rattle.session.specs.Meant.{SaidOne, NotOne, RanOne}
use Rattle.session.proofs.AskingText.{text_ran, text_unsaid, text_failed}
use Rattle.session.proofs.Looked.{counts_same}
use Rattle.session.proofs.Storing.{done_unbroken}
use Rattle.session.proofs.asked.ran.Goals as goal

pub returns-in-Ok-clause-meant : goal.returns-in-Ok-clause-meant
returns-in-Ok-clause-meant g c = λ b h beside a there ready none.
    text_ran b g.L.Link.conduct (g.L.Link.world c.asked_text.new.talk.memory.below.below.below.link) c.args.side.now c.asked_text.new.side h beside c.args.text.now _ a (c.in-Ok.ensures.meant b h beside a there ready none)

pub returns-then-is_failure-clause-meant : goal.returns-then-is_failure-clause-meant
returns-then-is_failure-clause-meant g c = λ b h beside a there ready none.
    let o = g.L.Link.world c.asked_text.new.talk.memory.below.below.below.link in
    text_failed (g.L.Link.faults c.args.talk.now.memory.below.below.below.link) (g.L.Link.faults c.asked_text.new.talk.memory.below.below.below.link)
    (λ said. SaidOne b g.L.Link.conduct o c.args.side.now c.asked_text.new.side h beside (Ps c.args.text.now) a said) (λ u. RanOne b g.L.Link.conduct o c.args.side.now c.asked_text.new.side h beside (Ps c.args.text.now) a)
    (NotOne b g.L.Link.conduct o c.args.side.now c.asked_text.new.side h beside (Ps c.args.text.now) a) (λ e. ⊥) c.in-Err.fault (c.is_failure.ensures.yes c.if-is_failure.true) (c.in-Err.ensures.meant b h beside a there ready none)

pub returns-else-is_failure-clause-meant : goal.returns-else-is_failure-clause-meant
returns-else-is_failure-clause-meant g c = λ b h beside a there ready none.
    text_unsaid b g.L.Link.conduct (g.L.Link.world c.asked_text.new.talk.memory.below.below.below.link) c.args.side.now c.asked_text.new.side h beside c.args.text.now a (g.L.Link.faults c.args.talk.now.memory.below.below.below.link) (g.L.Link.faults c.asked_text.new.talk.memory.below.below.below.link) c.in-Err.fault
    (c.is_failure.ensures.no c.if-is_failure.false) (c.in-Err.ensures.meant b h beside a there ready none)

pub returns-else-is_failure-clause-count : goal.returns-else-is_failure-clause-count
returns-else-is_failure-clause-count g c = counts_same (g.L.Link.faults c.args.talk.now.memory.below.below.below.link) (g.L.Link.faults c.asked_text.new.talk.memory.below.below.below.link) c.in-Err.fault (c.is_failure.ensures.no c.if-is_failure.false) c.in-Err.ensures.count

pub returns-in-Ok-clause-stores : goal.returns-in-Ok-clause-stores
returns-in-Ok-clause-stores g c = λ b h beside a there ready none unbroken. c.in-Ok.ensures.stores b h beside a there ready none tt

pub returns-then-is_failure-clause-stores : goal.returns-then-is_failure-clause-stores
returns-then-is_failure-clause-stores g c = λ b h beside a there ready none unbroken. c.in-Err.ensures.stores b h beside a there ready none unbroken

pub returns-else-is_failure-clause-stores : goal.returns-else-is_failure-clause-stores
returns-else-is_failure-clause-stores g c = λ b h beside a there ready none unbroken. c.in-Err.ensures.stores b h beside a there ready none (done_unbroken c.in-Err.fault (c.is_failure.ensures.no c.if-is_failure.false))
