use Rattle.std.proofs.Common.{◌≡◌, ◌++◌, drop}
use Rattle.link_image.specs.Linked.{anchors_from, next_address}
use Rattle.link_image.specs.Conditions.{are_fitting}
use Rattle.link_image.proofs.anchors.add_anchors.Given as goal

abbrev pub invariant-loop-row : goal.invariant-loop-row
invariant-loop-row l = record {
  anchors : l.anchors.items ++ anchors_from l.at (drop l.row-index l.rows) ≡ l.fn.anchors.items ++ anchors_from l.first l.rows;
  next : next_address l.at (drop l.row-index l.rows) ≡ next_address l.first l.rows;
  fit : are_fitting l.at (drop l.row-index l.rows) ≡ are_fitting l.first l.rows;
}
