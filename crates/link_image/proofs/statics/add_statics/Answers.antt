use Rattle.std.proofs.Common.{◌+◌, ◌++◌, ◌∙◌, sym, ap, length, drop}
use Rattle.obj_placed.specs.Placed.{cut}
use Rattle.link_image.specs.Linked.{addresses_from, next_address, data_from}
use Rattle.link_image.proofs.Lists.{row_step, item_of}
use Rattle.link_image.proofs.statics.add_statics.Goals as goal

pub loop-row-preserved : goal.loop-row-preserved
loop-row-preserved c =
    let rest : _ = sym (item_of c.args.rows.now c.loop-row.row-index _ c.loop-row-test.true c.row-item.is) in
    record {
      bytes =
          row_step c.loop-row.statics.items c.add_static.new.statics.items c.args.bytes.now _ _ _ _ c.row-item.result (drop (c.loop-row.row-index + 1) c.args.rows.now) c.in_ok-add_static.ensures (c.in_ok-end.ensures ∙ ap (λ n. c.loop-row.from + n) c.len.ensures) c.in_ok-at.ensures
          ∙ (ap (λ rows. c.loop-row.statics.items ++ data_from (length c.loop-row.statics.items) (addresses_from c.loop-row.at rows) (cut rows (drop c.loop-row.from c.args.bytes.now))) rest ∙ c.loop-row.invariant.bytes);
      next = ap (λ at. next_address at (drop (c.loop-row.row-index + 1) c.args.rows.now)) c.in_ok-at.ensures ∙ (ap (λ rows. next_address c.loop-row.at rows) rest ∙ c.loop-row.invariant.next);
    }
