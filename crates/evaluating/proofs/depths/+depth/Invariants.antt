use Rattle.std.proofs.Common.{◌+◌, ◌*◌}
use Rattle.evaluating.proofs.depths.+depth.Given as goal

abbrev pub decreases-extent_within : goal.decreases-extent_within
decreases-extent_within l = 2 * l.deep + 1

abbrev pub decreases-struct_extent : goal.decreases-struct_extent
decreases-struct_extent l = 2 * l.deep
