use Rattle.std.proofs.Common.{◌∙◌}
use Rattle.c_tree.specs.declared.rows.Start.TheVariants.{Number}
use Rattle.c_rows.proofs.Holding.{zero_more}
use Rattle.c_rows.proofs.starts.add_zeros.Goals as goal

pub loop-preserved : goal.loop-preserved
loop-preserved c = zero_more c.args.n c.loop.counter c.loop.starts.items c.push.new.self.items (Number 0) c.loop-test.true c.in_ok-push.ensures.items ∙ c.loop.invariant
