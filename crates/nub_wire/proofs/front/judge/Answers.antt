use Rattle.std.proofs.Common.{◌+◌, ◌*◌, arith}
use Rattle.nub_wire.proofs.Payloads.{below, empty_front, one_part, one_nothing, two_part, two_nothing}
use Rattle.nub_wire.proofs.front.judge.Goals as goal

pub returns-in-empty : goal.returns-in-empty
returns-in-empty c = empty_front c.args.bytes.now c.in-empty.len_below

pub returns-then-high-le4 : goal.returns-then-high-le4
returns-then-high-le4 c = one_part c.args.bytes.now (below c.args.bytes.now (λ i. omega (arith, c.type_inv.bytes i))) c.in-len1.len_at_least c.in-len1.len_below c.if-high-le4.true

pub returns-else-high-le4 : goal.returns-else-high-le4
returns-else-high-le4 c = one_nothing c.args.bytes.now (below c.args.bytes.now (λ i. omega (arith, c.type_inv.bytes i))) c.in-len1.len_at_least c.in-len1.len_below c.if-high-le4.false

pub returns-then-length-le1025 : goal.returns-then-length-le1025
returns-then-length-le1025 c =
    two_part c.args.bytes.now (256 * c.from.result + c.from-in-len2.result) (below c.args.bytes.now (λ i. omega (arith, c.type_inv.bytes i))) c.in-len2.len_at_least c.in-len2.len_below
    (omega (arith, c.from.ensures, c.from-in-len2.ensures)) c.if-length-ge1.true c.if-length-le1025.true

pub returns-else-length-ge1 : goal.returns-else-length-ge1
returns-else-length-ge1 c =
    two_nothing c.args.bytes.now (256 * c.from.result + c.from-in-len2.result) (below c.args.bytes.now (λ i. omega (arith, c.type_inv.bytes i))) c.in-len2.len_at_least c.in-len2.len_below
    (omega (arith, c.from.ensures, c.from-in-len2.ensures)) c.else-length-ge1.either
