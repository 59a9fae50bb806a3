use Rattle.std.proofs.Common.{◌≡◌, ◌++◌, ◌+◌, ◌*◌, ◌-◌, drop}
use Rattle.c_tree.specs.Layout.{size_of, leaves_within, leaves_of_members, repeated}
use Rattle.c_tree.specs.Listed.{kept_at}
use Rattle.c_tree.proofs.layout.+leaves.Given as goal

abbrev pub decreases-add_leaves : goal.decreases-add_leaves
decreases-add_leaves l = 2 * l.deep

abbrev pub decreases-add_items : goal.decreases-add_items
decreases-add_items l = 2 * l.deep + 1

abbrev pub decreases-add_members : goal.decreases-add_members
decreases-add_members l = 2 * l.deep + 1

-- with the leaves of the items that are left, these are all the leaves
abbrev pub invariant-add_items-loop-i : goal.invariant-add_items-loop-i
invariant-add_items-loop-i l =
    l.out.items ++ kept_at l.at (repeated (l.n - l._i) (size_of l.defs l.item) 0 (leaves_within l.defs l.deep l.item))
    ≡ l.initial.out.items ++ kept_at l.at-2 (repeated l.n (size_of l.defs l.item) 0 (leaves_within l.defs l.deep l.item))

abbrev pub invariant-add_members-loop-member : goal.invariant-add_members-loop-member
invariant-add_members-loop-member l =
    l.out.items ++ kept_at l.at (leaves_of_members (leaves_within l.defs l.deep) (drop l.member-index l.members))
    ≡ l.initial.out.items ++ kept_at l.at (leaves_of_members (leaves_within l.defs l.deep) l.members)
