use Rattle.std.proofs.Common.{arith}
use Rattle.nub_wire.proofs.Payloads.{below, fault_none, fault_unnamed, fault_part, fault_whole}
use Rattle.nub_wire.proofs.front.faulted.Goals as goal

pub returns-in_default : goal.returns-in_default
returns-in_default c = fault_none c.args.payload.now (below c.args.payload.now (λ i. omega (arith, c.type_inv.payload i))) c.in_default.ensures

pub returns-in_default-kind_named : goal.returns-in_default-kind_named
returns-in_default-kind_named c = fault_unnamed c.args.payload.now c.in-Some.rest.now c.in-Some.byte (below c.args.payload.now (λ i. omega (arith, c.type_inv.payload i))) c.in-Some.ensures c.in_default-kind_named.ensures

pub returns-in-None : goal.returns-in-None
returns-in-None c = fault_part c.args.payload.now c.in-Some.rest.now c.in-Some.byte c.in-Some-kind_named.kind (below c.args.payload.now (λ i. omega (arith, c.type_inv.payload i))) c.in-Some.ensures c.in-Some-kind_named.ensures c.in-None.ensures

pub returns-in-Some-cut_word : goal.returns-in-Some-cut_word
returns-in-Some-cut_word c = fault_whole c.args.payload.now c.in-Some.rest.now c.in-Some-cut_word.field-0-1.now c.in-Some.byte c.in-Some-cut_word.pc c.in-Some-kind_named.kind (below c.args.payload.now (λ i. omega (arith, c.type_inv.payload i))) c.in-Some.ensures c.in-Some-kind_named.ensures c.in-Some-cut_word.ensures
