use Rattle.std.proofs.Common.{refl}
use Rattle.evaluating.proofs.OwnSteps.{spent_apart}
use Rattle.evaluating.proofs.apart.ApartDialect.operate.Goals as goal

pub returns-in-Err-Spent-clause-operates : goal.returns-in-Err-Spent-clause-operates
returns-in-Err-Spent-clause-operates g c = (refl, spent_apart g.W.AbsMem.seen c.args.self.now.talk.now c.operate.new.self c.args.core.now c.operate.new.core c.args.op _ _ c.in-Err-Spent.field-0 c.in-Err-Spent.field-0-is c.in-Err-Spent.ensures.operates)
