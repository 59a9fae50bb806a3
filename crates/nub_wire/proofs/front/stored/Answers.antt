use Rattle.std.proofs.Common.{arith}
use Rattle.nub_wire.proofs.Payloads.{below, store_short, store_part, store_unnamed, store_half, store_whole}
use Rattle.nub_wire.proofs.front.stored.Goals as goal

pub returns-in_default : goal.returns-in_default
returns-in_default c = store_short c.args.payload.now (below c.args.payload.now (λ i. omega (arith, c.type_inv.payload i))) c.in_default.ensures

pub returns-in_default-cut_byte : goal.returns-in_default-cut_byte
returns-in_default-cut_byte c = store_part c.args.payload.now c.in-Some.rest.now c.in-Some.address (below c.args.payload.now (λ i. omega (arith, c.type_inv.payload i))) c.in-Some.ensures c.in_default-cut_byte.ensures

pub returns-in_default-size_named : goal.returns-in_default-size_named
returns-in_default-size_named c = store_unnamed c.args.payload.now c.in-Some.rest.now c.in-Some-cut_byte.rest.now c.in-Some.address c.in-Some-cut_byte.width (below c.args.payload.now (λ i. omega (arith, c.type_inv.payload i))) c.in-Some.ensures c.in-Some-cut_byte.ensures c.in_default-size_named.ensures

pub returns-in-None : goal.returns-in-None
returns-in-None c = store_half c.args.payload.now c.in-Some.rest.now c.in-Some-cut_byte.rest.now c.in-Some.address c.in-Some-cut_byte.width c.in-Some-size_named.size (below c.args.payload.now (λ i. omega (arith, c.type_inv.payload i))) c.in-Some.ensures c.in-Some-cut_byte.ensures c.in-Some-size_named.ensures c.in-None.ensures

pub returns-in-Some-cut_word : goal.returns-in-Some-cut_word
returns-in-Some-cut_word c = store_whole c.args.payload.now c.in-Some.rest.now c.in-Some-cut_byte.rest.now c.in-Some-cut_word.field-0-1.now c.in-Some.address c.in-Some-cut_byte.width c.in-Some-cut_word.value c.in-Some-size_named.size (below c.args.payload.now (λ i. omega (arith, c.type_inv.payload i))) c.in-Some.ensures c.in-Some-cut_byte.ensures c.in-Some-size_named.ensures c.in-Some-cut_word.ensures
