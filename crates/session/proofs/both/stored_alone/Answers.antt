use Rattle.std.proofs.Common.{IfErr}
use Rattle.table_asks.specs.declared.fault.AskFault.{AskFault}
use Rattle.table_asks.specs.Faults.{IsUnbroken}
use Rattle.session.specs.Meant.{StoredThere}
use Rattle.session.proofs.Looked.{stays_well, on_ok, unbroken_there}
use Rattle.session.proofs.both.stored_alone.Goals as goal

pub returns-then-is_failure-clause-stores : goal.returns-then-is_failure-clause-stores
returns-then-is_failure-clause-stores g c = λ b h beside n there. absurd (n (c.is_failure.ensures.yes c.if-is_failure.true))

pub returns-then-is_failure-clause-count : goal.returns-then-is_failure-clause-count
returns-then-is_failure-clause-count g c = λ n. absurd (n (c.is_failure.ensures.yes c.if-is_failure.true))

pub returns-clause-failed : goal.returns-clause-failed
returns-clause-failed g c = λ is. absurd (c.is_failure.ensures.no c.if-is_failure.false is)

pub returns-clause-stores : goal.returns-clause-stores
returns-clause-stores g c = λ b h beside n there. c.stored.ensures.well (g.L.Link.faults c.args.talk.now.memory.below.below.below.link) (g.L.Link.faults c.store.new.talk.memory.below.below.below.link) (stays_well (g.L.Link.faults c.args.talk.now.memory.below.below.below.link) (g.L.Link.faults c.store.new.talk.memory.below.below.below.link) _ (Unit {0}) c.store.result (λ x. tt) (c.store.ensures.stores b h beside there))

pub returns-clause-count : goal.returns-clause-count
returns-clause-count g c = λ n. c.stored.ensures.count (g.L.Link.faults c.args.talk.now.memory.below.below.below.link) (g.L.Link.faults c.store.new.talk.memory.below.below.below.link) c.store.ensures.count

pub returns-then-is_failure-clause-whole : goal.returns-then-is_failure-clause-whole
returns-then-is_failure-clause-whole g c = λ n u. absurd (n (c.is_failure.ensures.yes c.if-is_failure.true))

pub returns-clause-whole : goal.returns-clause-whole
returns-clause-whole g c = λ n u. c.stored.ensures.whole c.store.ensures.last u

pub returns-clause-leaves : goal.returns-clause-leaves
returns-clause-leaves g c = λ b h beside n there.
    let f = g.L.Link.faults c.args.talk.now.memory.below.below.below.link in
    let f1 = g.L.Link.faults c.store.new.talk.memory.below.below.below.link in
    let There = StoredThere b g.L.Link.conduct (g.L.Link.world c.store.new.talk.memory.below.below.below.link) c.args.first.now h beside in
    on_ok (IfErr c.store.result (λ (e : AskFault). IsUnbroken e)) (λ x. There) c.stored.result (λ x u. unbroken_there f f1 There c.store.result u (c.store.ensures.stores b h beside there)) c.stored.ensures.done
