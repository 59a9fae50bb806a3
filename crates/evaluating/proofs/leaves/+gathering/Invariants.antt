use Rattle.std.proofs.Common.{◌+◌, ◌*◌}
use Rattle.evaluating.proofs.leaves.+gathering.Given as goal

abbrev pub decreases-add_type : goal.decreases-add_type
decreases-add_type l = 2 * l.deep + 1

abbrev pub decreases-add_items : goal.decreases-add_items
decreases-add_items l = 2 * l.deep

abbrev pub decreases-add_members : goal.decreases-add_members
decreases-add_members l = 2 * l.deep
