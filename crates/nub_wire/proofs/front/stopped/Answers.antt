use Rattle.std.proofs.Common.{arith}
use Rattle.nub_wire.proofs.Payloads.{below, stop_none, stop_unnamed, stop_part, stop_whole}
use Rattle.nub_wire.proofs.front.stopped.Goals as goal

pub returns-in_default : goal.returns-in_default
returns-in_default c = stop_none c.args.payload.now (below c.args.payload.now (λ i. omega (arith, c.type_inv.payload i))) c.in_default.ensures

pub returns-in_default-reason_named : goal.returns-in_default-reason_named
returns-in_default-reason_named c = stop_unnamed c.args.payload.now c.in-Some.rest.now c.in-Some.byte (below c.args.payload.now (λ i. omega (arith, c.type_inv.payload i))) c.in-Some.ensures c.in_default-reason_named.ensures

pub returns-in-None : goal.returns-in-None
returns-in-None c = stop_part c.args.payload.now c.in-Some.rest.now c.in-Some.byte c.in-Some-reason_named.reason (below c.args.payload.now (λ i. omega (arith, c.type_inv.payload i))) c.in-Some.ensures c.in-Some-reason_named.ensures c.in-None.ensures

pub returns-in-Some-cut_word : goal.returns-in-Some-cut_word
returns-in-Some-cut_word c = stop_whole c.args.payload.now c.in-Some.rest.now c.in-Some-cut_word.field-0-1.now c.in-Some.byte c.in-Some-cut_word.pc c.in-Some-reason_named.reason (below c.args.payload.now (λ i. omega (arith, c.type_inv.payload i))) c.in-Some.ensures c.in-Some-reason_named.ensures c.in-Some-cut_word.ensures
