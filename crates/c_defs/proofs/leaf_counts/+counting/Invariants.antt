use Rattle.std.proofs.Common.{◌≡◌, ◌*◌, ◌+◌, drop}
use Rattle.c_defs.specs.Leaves.{leaf_count, leaves_of_members}
use Rattle.c_defs.proofs.leaf_counts.+counting.Given as goal

abbrev pub decreases-leaf_count : goal.decreases-leaf_count
decreases-leaf_count l = 3 * l.deep

abbrev pub decreases-leaves_of_struct : goal.decreases-leaves_of_struct
decreases-leaves_of_struct l = 3 * l.deep + 2

abbrev pub decreases-leaves_of_members : goal.decreases-leaves_of_members
decreases-leaves_of_members l = 3 * l.deep + 1

abbrev pub invariant-leaves_of_members-loop-member : goal.invariant-leaves_of_members-loop-member
invariant-leaves_of_members-loop-member l = l.leaves + leaves_of_members (leaf_count l.defs l.deep) (drop l.member-index l.members) ≡ leaves_of_members (leaf_count l.defs l.deep) l.members
