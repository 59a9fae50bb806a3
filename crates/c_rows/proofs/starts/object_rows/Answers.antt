use Rattle.std.proofs.Common.{◌∙◌}
use Rattle.c_rows.proofs.Holding.{row_more}
use Rattle.c_rows.proofs.starts.object_rows.Goals as goal

pub loop-i-preserved : goal.loop-i-preserved
loop-i-preserved c =
    row_more c.args.places.now c.args.starts.now c.args.objects.now c.args.types.now c.loop-i.i c.index-objects-i.result c.index-types-i.result c.loop-i.rows.items c.push.new.self.items c.in_ok-row.row
    c.loop-i-test.true c.requires c.index-objects-i.is c.index-types-i.is c.in_ok-push.ensures.items c.in_ok-row.ensures ∙ c.loop-i.invariant
