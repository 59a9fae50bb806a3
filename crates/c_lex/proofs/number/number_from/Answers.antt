use Rattle.std.proofs.Common.{sym, ◌∙◌, ap, arith, ◌<◌, ◌*◌, ◌+◌}
use Rattle.c_lex.specs.Numbers.{in_range}
use Rattle.c_lex.proofs.Numbers.{too_large_step}
use Rattle.c_lex.proofs.number.number_from.Goals as goal

pub returns-then-number-gt4294967295 : goal.returns-then-number-gt4294967295
returns-then-number-gt4294967295 c =
    let big : 4294967295 < c.loop-b.number * c.args.base + c.digit_of.result = rw (c.from.ensures, c.from-in-loop-b.ensures, c.from-digit.ensures) at c.if-number-gt4294967295.true in
    let small : c.digit_of.result < c.args.base = omega arith in
    sym (ap in_range (sym c.loop-b.invariant.same)
    ∙ too_large_step c.args.base c.loop-b.number c.loop-b.b-index c.args.digits.now c.digit_of.result c.loop-b-test.true c.digit_of.ensures.value small big c.requires.least)
