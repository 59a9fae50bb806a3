use Rattle.std.proofs.Common.{◌≡◌, drop}
use Rattle.std.specs.List.{list_all}
use Rattle.link_image.specs.Conditions.{point_lies}
use Rattle.link_image.proofs.inside.points_lie.Given as goal

abbrev pub invariant-loop-at : goal.invariant-loop-at
invariant-loop-at l = list_all (point_lies l.size) (drop l.at-index l.points) ≡ list_all (point_lies l.size) l.points
