use Rattle.debug_side.proofs.Planted.{gives_back, gives_badly, gives_link, gives_reply, led_back, led_badly, led_link, led_reply}
use Rattle.debug_side.proofs.planting.gives_up.Goals as goal

pub returns-in-Ok-clause-meaning : goal.returns-in-Ok-clause-meaning
returns-in-Ok-clause-meaning g c =
    gives_back c.args.target c.args.planted.now (g.M.AbsMem.seen c.args.m.now) (g.M.AbsMem.seen c.unplant_back.new.m) c.args.fault c.in-Outside.place c.in-Outside.is c.in-Ok.ensures.meaning

pub returns-in-Ok-clause-calls : goal.returns-in-Ok-clause-calls
returns-in-Ok-clause-calls g c = led_back g.M.AbsMem.leads c.args.m.now c.unplant_back.new.m c.args.fault c.in-Outside.place c.in-Outside.is c.in-Ok.ensures.calls

pub returns-in-Err-clause-meaning : goal.returns-in-Err-clause-meaning
returns-in-Err-clause-meaning g c =
    gives_badly c.args.target c.args.planted.now (g.M.AbsMem.seen c.args.m.now) (g.M.AbsMem.seen c.unplant_back.new.m) c.args.fault c.in-Outside.place c.in-Err.fault c.mem_fault.result _ c.in-Outside.is c.mem_fault.ensures
    c.in-Err.ensures.meaning

pub returns-in-Err-clause-calls : goal.returns-in-Err-clause-calls
returns-in-Err-clause-calls g c =
    led_badly g.M.AbsMem.leads c.args.m.now c.unplant_back.new.m c.args.fault c.in-Outside.place c.in-Err.fault c.mem_fault.result c.in-Outside.is c.mem_fault.ensures c.in-Err.ensures.calls

pub returns-in-LinkFault-clause-meaning : goal.returns-in-LinkFault-clause-meaning
returns-in-LinkFault-clause-meaning g c = gives_link c.args.target c.args.planted.now (g.M.AbsMem.seen c.args.m.now) c.args.fault c.in-LinkFault.is

pub returns-in-LinkFault-clause-calls : goal.returns-in-LinkFault-clause-calls
returns-in-LinkFault-clause-calls g c = led_link g.M.AbsMem.leads c.args.m.now c.args.fault c.in-LinkFault.is

pub returns-in-BadReply-clause-meaning : goal.returns-in-BadReply-clause-meaning
returns-in-BadReply-clause-meaning g c = gives_reply c.args.target c.args.planted.now (g.M.AbsMem.seen c.args.m.now) c.args.fault c.in-BadReply.frame c.in-BadReply.is

pub returns-in-BadReply-clause-calls : goal.returns-in-BadReply-clause-calls
returns-in-BadReply-clause-calls g c = led_reply g.M.AbsMem.leads c.args.m.now c.args.fault c.in-BadReply.frame c.in-BadReply.is
