use Rattle.break_plant.specs.Planted.{noop_of}
use Rattle.debug_side.proofs.Putting.{puts_by, led_by}
use Rattle.debug_side.proofs.words.put_noop.Goals as goal

pub returns-clause-meaning : goal.returns-clause-meaning
returns-clause-meaning g c =
    puts_by (g.M.AbsMem.seen c.args.m.now) (g.M.AbsMem.seen c.unplant.new.m) c.args.at (noop_of c.args.target) c.unplant.result c.where_it_can.result c.where_it_can.ensures c.unplant.ensures.meaning

pub returns-clause-calls : goal.returns-clause-calls
returns-clause-calls g c = led_by g.M.AbsMem.leads c.args.m.now c.unplant.new.m c.unplant.result c.where_it_can.result c.where_it_can.ensures c.unplant.ensures.calls
