use Rattle.std.proofs.Common.{◌∙◌, sym}
use Rattle.c_rows.specs.Fresh.{sees}
use Rattle.c_rows.proofs.Listed.{static_more, static_left}
use Rattle.c_rows.proofs.places.static_names.Goals as goal

pub loop-f-preserved : goal.loop-f-preserved
loop-f-preserved c = λ u t. static_more c.args.names.now c.loop-f.f-index u t c.f-item.result (sees c.loop-f.statics u t) (sees c.add_static.new.statics u t) c.loop-f-test.true c.f-item.is (c.in_ok-add_static.ensures u t) ∙ c.loop-f.invariant u t

pub returns : goal.returns
returns c = λ u t. sym (static_left c.args.names.now c.loop-f.f-index u t (sees c.loop-f.statics u t) c.loop-f-test.false) ∙ c.loop-f.invariant u t
