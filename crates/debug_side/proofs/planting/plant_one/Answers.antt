use Rattle.debug_side.proofs.Planted.{plants_one, passes_here, fails_here, led_one, led_fault}
use Rattle.debug_side.proofs.planting.plant_one.Goals as goal

pub returns-in-Ok-clause-meaning : goal.returns-in-Ok-clause-meaning
returns-in-Ok-clause-meaning g c = plants_one c.args.target c.args.at (g.M.AbsMem.seen c.args.m.now) (g.M.AbsMem.seen c.plant.new.m) c.in-Ok.field-0 c.in-Ok.ensures.meaning

pub returns-in-Err-NotNoop-clause-meaning : goal.returns-in-Err-NotNoop-clause-meaning
returns-in-Err-NotNoop-clause-meaning g c =
    passes_here c.args.target c.args.at c.in-Err-NotNoop.field-0-0 c.in-Err-NotNoop.field-0-1 (g.M.AbsMem.seen c.args.m.now) (g.M.AbsMem.seen c.plant.new.m) c.in-Err-NotNoop.field-0 c.in-Err-NotNoop.field-0-is c.in-Err-NotNoop.ensures.meaning

pub returns-in-Err-NotNoop-clause-calls : goal.returns-in-Err-NotNoop-clause-calls
returns-in-Err-NotNoop-clause-calls g c =
    led_one g.M.AbsMem.leads c.args.m.now c.plant.new.m c.in-Err-NotNoop.field-0-0 c.in-Err-NotNoop.field-0-1 c.in-Err-NotNoop.field-0 c.in-Err-NotNoop.field-0-is c.in-Err-NotNoop.ensures.calls

pub returns-in-Err-Memory-clause-meaning : goal.returns-in-Err-Memory-clause-meaning
returns-in-Err-Memory-clause-meaning g c =
    fails_here c.args.target c.args.at (g.M.AbsMem.seen c.args.m.now) (g.M.AbsMem.seen c.plant.new.m) c.in-Err-Memory.fault c.in-Err-Memory.field-0 c.in-Err-Memory.field-0-is c.in-Err-Memory.ensures.meaning

pub returns-in-Err-Memory-clause-calls : goal.returns-in-Err-Memory-clause-calls
returns-in-Err-Memory-clause-calls g c =
    led_fault g.M.AbsMem.leads c.args.m.now c.plant.new.m c.in-Err-Memory.fault c.in-Err-Memory.field-0 c.in-Err-Memory.field-0-is c.in-Err-Memory.ensures.calls
