use Rattle.std.proofs.Common.{◌+◌, ◌*◌}
use Rattle.table_types.proofs.leaves.+leaf.Given as goal

abbrev pub decreases-leaf_within : goal.decreases-leaf_within
decreases-leaf_within l = 2 * l.deep

abbrev pub decreases-leaf_held : goal.decreases-leaf_held
decreases-leaf_held l = 2 * l.deep + 1

abbrev pub decreases-leaf_of_item : goal.decreases-leaf_of_item
decreases-leaf_of_item l = 2 * l.deep + 1
