use Rattle.std.proofs.Common.{◌∙◌}
use Rattle.slot_gen.proofs.Begun.{starts_more, starts_end}
use Rattle.slot_gen.proofs.rows.lower_starts.Goals as goal

pub loop-i-preserved : goal.loop-i-preserved
loop-i-preserved c = starts_more _ _ _ c.loop-i.i c.args.leaves.now c.args.starts.now _ _ c.leaf_at.ensures c.start_at.ensures c.loop-i.invariant c.in_ok-push_start.ensures

pub returns : goal.returns
returns c = c.from_vec.ensures ∙ starts_end _ _ c.loop-i.i c.args.leaves.now c.args.starts.now c.loop-i-test.false c.loop-i.invariant
