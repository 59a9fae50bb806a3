use Rattle.std.proofs.Common.{◌≡◌, ◌*◌, ◌+◌, drop}
use Rattle.c_tree.specs.Layout.{alignment_within, alignment_of_members}
use Rattle.c_defs.proofs.alignments.+aligning.Given as goal

abbrev pub decreases-is_wide : goal.decreases-is_wide
decreases-is_wide l = 3 * l.deep

abbrev pub decreases-is_struct_wide : goal.decreases-is_struct_wide
decreases-is_struct_wide l = 3 * l.deep + 2

abbrev pub decreases-any_wide : goal.decreases-any_wide
decreases-any_wide l = 3 * l.deep + 1

abbrev pub invariant-any_wide-loop-member : goal.invariant-any_wide-loop-member
invariant-any_wide-loop-member l = alignment_of_members (alignment_within l.defs l.deep) (drop l.member-index l.members) ≡ alignment_of_members (alignment_within l.defs l.deep) l.members
