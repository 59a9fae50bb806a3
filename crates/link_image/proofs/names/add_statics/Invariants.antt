use Rattle.std.proofs.Common.{◌≡◌, List, ℕ, drop}
use Rattle.link_image.specs.Tables.{entry_in, seen}
use Rattle.link_image.specs.Linked.{anchors_from, next_address}
use Rattle.link_image.proofs.names.add_statics.Given as goal

abbrev pub invariant-loop-row : goal.invariant-loop-row
invariant-loop-row l = record {
  addresses : (t : List ℕ) → seen (entry_in l.addresses t) (anchors_from l.at (drop l.row-index l.rows)) t ≡ seen (entry_in l.fn.addresses t) (anchors_from l.first l.rows) t;
  next : next_address l.at (drop l.row-index l.rows) ≡ next_address l.first l.rows;
}
