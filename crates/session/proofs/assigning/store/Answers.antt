use Rattle.session.proofs.Looked.{store_counts, store_last, store_well}
use Rattle.session.proofs.assigning.store.Goals as goal

pub returns-clause-count : goal.returns-clause-count
returns-clause-count g c = store_counts g.L.Link.conduct g.L.Link.world g.L.Link.faults c.args.side.now c.args.talk.now c.turn.new.talk c.store_all.new.talk c.turn.ensures c.store_all.result c.store_all.ensures

pub returns-clause-stores : goal.returns-clause-stores
returns-clause-stores g c = λ b h beside there.
    store_well g.L.Link.conduct g.L.Link.world g.L.Link.faults c.args.side.now c.args.talk.now c.turn.new.talk c.store_all.new.talk c.turn.ensures c.store_all.result c.store_all.ensures b h beside there

pub returns-clause-last : goal.returns-clause-last
returns-clause-last g c = store_last g.L.Link.conduct g.L.Link.world g.L.Link.faults c.args.side.now c.args.talk.now c.turn.new.talk c.store_all.new.talk c.turn.ensures c.store_all.result c.store_all.ensures
