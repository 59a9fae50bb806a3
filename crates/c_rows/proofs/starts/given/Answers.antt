use Rattle.std.proofs.Common.{◌+◌, ◌∙◌, drop}
use Rattle.c_scope.proofs.Items.{item_of}
use Rattle.c_rows.proofs.Holding.{begins_held}
use Rattle.c_rows.proofs.starts.given.Goals as goal

pub loop-begin-preserved : goal.loop-begin-preserved
loop-begin-preserved c =
    let bs = c.args.begins.now in
    let i = c.loop-begin.begin-index in
    let b = c.begin-item.result in
    begins_held c.args.places.now c.args.unit c.loop-begin.starts.items c.add_begin.new.starts.items b (drop i bs) (drop (i + 1) bs) c.in_ok-add_begin.ensures (item_of bs i b c.loop-begin-test.true c.begin-item.is) ∙ c.loop-begin.invariant
