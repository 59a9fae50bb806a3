use Rattle.debug_side.proofs.Stood.{puts_none}
use Rattle.debug_side.proofs.there.put_there.Goals as goal

pub returns-in-None : goal.returns-in-None
returns-in-None g c = puts_none c.args.there (g.M.AbsMem.seen c.args.m.now) c.in-None.is
