use Rattle.std.proofs.Common.{arith}
use Rattle.nub_wire.proofs.Payloads.{below, exit_part, exit_whole}
use Rattle.nub_wire.proofs.front.exited.Goals as goal

pub returns-in-None : goal.returns-in-None
returns-in-None c = exit_part c.args.payload.now (below c.args.payload.now (λ i. omega (arith, c.type_inv.payload i))) c.in-None.ensures

pub returns-in-Some : goal.returns-in-Some
returns-in-Some c = exit_whole c.args.payload.now c.in-Some.field-0-1.now c.in-Some.status (below c.args.payload.now (λ i. omega (arith, c.type_inv.payload i))) c.in-Some.ensures
