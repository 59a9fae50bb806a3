use Rattle.debug_side.proofs.Putting.{passes_none, passes_some, err_puts, led_then}
use Rattle.debug_side.proofs.words.pass_no_op.Goals as goal

pub returns-in-None-clause-meaning : goal.returns-in-None-clause-meaning
returns-in-None-clause-meaning g c = passes_none c.args.context c.args.stands_at (g.M.AbsMem.seen c.args.m.now) c.in-None.is

pub returns-in-None-clause-calls : goal.returns-in-None-clause-calls
returns-in-None-clause-calls g c = g.met.M.AbsMem.stays c.args.m.now

pub returns-in-Err-clause-meaning : goal.returns-in-Err-clause-meaning
returns-in-Err-clause-meaning g c = err_puts (g.M.AbsMem.seen c.args.m.now) (g.M.AbsMem.seen c.put_pc.new.m) c.in-Err.fault _ _ c.in-Err.ensures.meaning

pub returns-in-Ok-clause-meaning : goal.returns-in-Ok-clause-meaning
returns-in-Ok-clause-meaning g c =
    passes_some c.args.context c.in-Some.at c.args.stands_at (g.M.AbsMem.seen c.args.m.now) (g.M.AbsMem.seen c.put_pc.new.m) (g.M.AbsMem.seen c.put_next_pc.new.m) c.put_next_pc.result c.in-Some.is
    c.in-Ok.ensures.meaning c.put_next_pc.ensures.meaning

pub returns-in-Ok-clause-calls : goal.returns-in-Ok-clause-calls
returns-in-Ok-clause-calls g c =
    led_then g.M.AbsMem.leads g.met.M.AbsMem.goes_on c.args.m.now c.put_pc.new.m c.put_next_pc.new.m c.put_next_pc.result c.in-Ok.ensures.calls c.put_next_pc.ensures.calls
