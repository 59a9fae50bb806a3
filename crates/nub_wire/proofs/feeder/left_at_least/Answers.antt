use Rattle.std.proofs.Common.{arith}
use Rattle.nub_wire.proofs.ToCome.{three_at_least, two_at_least}
use Rattle.nub_wire.proofs.feeder.left_at_least.Goals as goal

pub returns-in_default : goal.returns-in_default
returns-in_default c = three_at_least c.args.bytes.now c.saturating_sub.result (omega (arith, c.saturating_sub.ensures))

pub returns-in-len2-up : goal.returns-in-len2-up
returns-in-len2-up c =
    two_at_least c.args.bytes.now c.saturating_sub-in-len2-up.result c.in-len2-up.len_at_least
    (omega (arith, c.saturating_sub-in-len2-up.ensures, c.from.ensures, c.from-in-len2-up.ensures))
