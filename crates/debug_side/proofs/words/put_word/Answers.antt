use Rattle.debug_side.proofs.Putting.{puts_by, led_by}
use Rattle.debug_side.proofs.words.put_word.Goals as goal

pub returns-clause-meaning : goal.returns-clause-meaning
returns-clause-meaning g c =
    puts_by (g.M.AbsMem.seen c.args.m.now) (g.M.AbsMem.seen c.store.new.self) c.args.at c.args.word c.store.result c.where_it_can.result c.where_it_can.ensures c.store.ensures.meaning

pub returns-clause-calls : goal.returns-clause-calls
returns-clause-calls g c = led_by g.M.AbsMem.leads c.args.m.now c.store.new.self c.store.result c.where_it_can.result c.where_it_can.ensures c.store.ensures.calls
