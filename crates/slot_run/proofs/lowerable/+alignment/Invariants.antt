use Rattle.std.proofs.Common.{◌≡◌, ◌≤◌, ◌+◌, ◌*◌, drop}
use Rattle.std.specs.Prelude.{max}
use Rattle.c_tree.specs.Layout.{alignment_within, alignment_of_members}
use Rattle.slot_run.proofs.lowerable.+alignment.Given as goal

abbrev pub decreases-alignment : goal.decreases-alignment
decreases-alignment l = 2 * l.deep

abbrev pub decreases-largest : goal.decreases-largest
decreases-largest l = 2 * l.deep + 1

-- with the members that are left, it is the largest of all
abbrev pub invariant-largest-loop-member : goal.invariant-largest-loop-member
invariant-largest-loop-member l =
    record { positive : 1 ≤ l.most; so_far : max l.most (alignment_of_members (alignment_within l.defs l.deep) (drop l.member-index l.members)) ≡ alignment_of_members (alignment_within l.defs l.deep) l.members }
