use Rattle.std.proofs.Common.{arith}
use Rattle.nub_wire.proofs.Payloads.{below, fetch_short, fetch_part, fetch_unnamed, fetch_whole}
use Rattle.nub_wire.proofs.front.fetched.Goals as goal

pub returns-in_default : goal.returns-in_default
returns-in_default c = fetch_short c.args.payload.now (below c.args.payload.now (λ i. omega (arith, c.type_inv.payload i))) c.in_default.ensures

pub returns-in_default-cut_byte : goal.returns-in_default-cut_byte
returns-in_default-cut_byte c = fetch_part c.args.payload.now c.in-Some.rest.now c.in-Some.address (below c.args.payload.now (λ i. omega (arith, c.type_inv.payload i))) c.in-Some.ensures c.in_default-cut_byte.ensures

pub returns-in-None : goal.returns-in-None
returns-in-None c = fetch_unnamed c.args.payload.now c.in-Some.rest.now c.in-Some-cut_byte.field-0-1.now c.in-Some.address c.in-Some-cut_byte.width (below c.args.payload.now (λ i. omega (arith, c.type_inv.payload i))) c.in-Some.ensures c.in-Some-cut_byte.ensures c.in-None.ensures

pub returns-in-Some-size_named : goal.returns-in-Some-size_named
returns-in-Some-size_named c = fetch_whole c.args.payload.now c.in-Some.rest.now c.in-Some-cut_byte.field-0-1.now c.in-Some.address c.in-Some-cut_byte.width c.in-Some-size_named.size (below c.args.payload.now (λ i. omega (arith, c.type_inv.payload i))) c.in-Some.ensures c.in-Some-cut_byte.ensures c.in-Some-size_named.ensures
