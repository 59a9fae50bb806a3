use Rattle.std.proofs.Common.{arith}
use Rattle.nub_wire.proofs.Payloads.{below, resume_part, resume_whole}
use Rattle.nub_wire.proofs.front.resumed.Goals as goal

pub returns-in-None : goal.returns-in-None
returns-in-None c = resume_part c.args.payload.now (below c.args.payload.now (λ i. omega (arith, c.type_inv.payload i))) c.in-None.ensures

pub returns-in-Some : goal.returns-in-Some
returns-in-Some c = resume_whole c.args.payload.now c.in-Some.field-0-1.now c.in-Some.turns (below c.args.payload.now (λ i. omega (arith, c.type_inv.payload i))) c.in-Some.ensures
