use Rattle.std.proofs.Common.{◌≡◌, ◌++◌, length, drop}
use Rattle.obj_placed.specs.Placed.{cut}
use Rattle.link_image.specs.Linked.{addresses_from, next_address, data_from}
use Rattle.link_image.proofs.statics.add_statics.Given as goal

abbrev pub invariant-loop-row : goal.invariant-loop-row
invariant-loop-row l = record {
  bytes : l.statics.items ++ data_from (length l.statics.items) (addresses_from l.at (drop l.row-index l.rows)) (cut (drop l.row-index l.rows) (drop l.from l.bytes)) ≡ l.fn.statics.items ++ data_from (length l.fn.statics.items) (addresses_from l.first l.rows) (cut l.rows l.bytes);
  next : next_address l.at (drop l.row-index l.rows) ≡ next_address l.first l.rows;
}
