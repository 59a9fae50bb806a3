use Rattle.std.proofs.Common.{◌≤◌}
use Rattle.slot_gen.proofs.Above.{below_more, one_more, at_below, is_high, left_of, right_of}
use Rattle.slot_gen.proofs.places.temporaries.Goals as goal

pub loop-i-preserved : goal.loop-i-preserved
loop-i-preserved c = record {
  below = λ m h e. c.loop-i.invariant.below m (left_of c.higher-most.result c.loop-i.most c.in_ok-above.field-0 m c.higher-most.ensures h) (one_more m c.args.code.now c.loop-i.i _ c.loop-i-test.true (below_more c.in_ok-above.field-0 m (right_of c.higher-most.result c.loop-i.most c.in_ok-above.field-0 m c.higher-most.ensures h) _ c.in_ok-above.ensures.below) e);
  least = λ m e. is_high c.higher-most.result c.loop-i.most c.in_ok-above.field-0 m c.higher-most.ensures (c.loop-i.invariant.least m e) (c.in_ok-above.ensures.least m (at_below m c.args.code.now c.loop-i.i _ c.loop-i-test.true e));
}
