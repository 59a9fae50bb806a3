use Rattle.std.proofs.Common.{refl, sym, ◌∙◌, ◌-◌}
use Rattle.ps_emit.proofs.Followed.{none_left, counted_more}
use Rattle.ps_emit.specs.Table.{anchor_code, anchors_code}
use Rattle.ps_emit.proofs.tables.add_anchors.Goals as goal

pub loop-i-preserved : goal.loop-i-preserved
loop-i-preserved c =
    let added = rw (← c.index-anchors-i.is) at c.in_ok-add_anchor.ensures in
    counted_more anchors_code c.loop-i.k c.in_ok-k.k (anchor_code c.loop-i.k c.index-anchors-i.result.1) c.args.anchors.now c.loop-i.i c.index-anchors-i.result
    c.in_ok-k.ensures c.loop-i-test.true c.index-anchors-i.is refl added
    ∙ c.loop-i.invariant

pub returns : goal.returns
returns c = record { text = sym (none_left (anchors_code c.loop-i.k) c.args.anchors.now c.loop-i.i c.loop-i.text refl c.loop-i-test.false) ∙ c.loop-i.invariant }
